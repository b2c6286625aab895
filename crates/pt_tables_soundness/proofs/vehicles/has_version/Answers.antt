use Rattle.pt_tables_soundness.proofs.FleetLemmas.{has_versions}
use Rattle.pt_tables_soundness.proofs.vehicles.has_version.Goals as goal

pub returns : goal.returns
returns c =
    has_versions c.args.id c.args.vehicles.now.items c.versions_of.result.now c.is_empty.result c.versions_of.ensures
    c.is_empty.ensures
