use Rattle.std.proofs.Common.{◌≡◌, ◌++◌, drop}
use Rattle.pt_desk_scheduling.specs.Plan.{stops_among}
use Rattle.pt_desk_scheduling.proofs.routes.stops_among.Given as goal

abbrev pub invariant-loop-stop : goal.invariant-loop-stop
invariant-loop-stop l = l.stops.items ++ stops_among l.trips (drop l.stop-index l.planned) ≡ stops_among l.trips l.planned
