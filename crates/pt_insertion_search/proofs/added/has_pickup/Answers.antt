-- Before a stop whose window has closed, and after one whose window opens too late, there is no pickup.
use Rattle.std.proofs.Common.{arith}
use Rattle.pt_feasible.specs.Route.{stops_of}
use Rattle.pt_insertion_search.proofs.BetweenLemmas.{no_pickup_before, no_pickups_past}
use Rattle.pt_insertion_search.proofs.added.has_pickup.Goals as goal
use Rattle.pt_insertion_search.proofs.added.has_pickup.Goals.{then-number-via-then-number, then-number-via-else-number+then-number-2}

pub returns-then-number : goal.returns-then-number
returns-then-number c said minutes j possible =
    elim c.then-number.branch [
      | then-number-via-then-number w ↦
          no_pickups_past minutes c.args.duty.now.vehicle.now (stops_of c.args.duty.now.route.now) c.args.asked.now c.args.k c.visit_at-here.result
          c.requires.new_trip c.visit_at-here.ensures (omega arith) c.args.k j (omega arith) possible
      | then-number-via-else-number+then-number-2 w ↦
          no_pickup_before minutes c.args.duty.now.vehicle.now (stops_of c.args.duty.now.route.now) c.args.asked.now c.args.k c.visit_at-next.result
          c.requires.new_trip c.visit_at-next.ensures (omega arith) j possible
    ]
