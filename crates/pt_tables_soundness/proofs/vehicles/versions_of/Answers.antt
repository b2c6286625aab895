use Rattle.std.proofs.Common.{◌∙◌}
use Rattle.pt_tables_soundness.proofs.FleetLemmas.{within_own}
use Rattle.pt_tables_soundness.proofs.vehicles.versions_of.Goals as goal

pub returns : goal.returns
returns c = c.within.ensures.value ∙ (rw c.keys_of.ensures (within_own c.args.id c.args.vehicles.now.items c.requires.days))
