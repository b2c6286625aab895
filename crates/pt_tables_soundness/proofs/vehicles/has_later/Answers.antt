use Rattle.std.proofs.Common.{sym}
use Rattle.pt_tables_soundness.proofs.FleetLemmas.{has_next, same_numbers}
use Rattle.pt_tables_soundness.proofs.vehicles.has_later.Goals as goal

pub returns-in-Some : goal.returns-in-Some
returns-in-Some c =
    has_next c.args.version.now c.in-Some.next.now c.args.later.now c.eq.result c.requires.order c.requires.days
    (sym c.in-Some.ensures.value) (same_numbers c.eq.result c.in-Some.next.now.id c.args.version.now.id c.eq.ensures)
