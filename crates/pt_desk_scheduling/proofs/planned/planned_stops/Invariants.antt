use Rattle.std.proofs.Common.{◌≡◌, ◌++◌, map, drop}
use Rattle.pt_feasible.specs.Route.{stops_of}
use Rattle.pt_desk_scheduling.specs.Plan.{planned_stop}
use Rattle.pt_desk_scheduling.proofs.planned.planned_stops.Given as goal

abbrev pub invariant-loop-k : goal.invariant-loop-k
invariant-loop-k l = l.stops.items ++ map planned_stop (drop l.k (stops_of l.route)) ≡ map planned_stop (stops_of l.route)
