use Rattle.std.proofs.Common.{◌≡◌, ◌++◌, drop}
use Rattle.pt_desk_scheduling.specs.Plan.{without}
use Rattle.pt_desk_scheduling.proofs.planned.stops_without.Given as goal

abbrev pub invariant-loop-stop : goal.invariant-loop-stop
invariant-loop-stop l = l.rest.items ++ without l.trip (drop l.stop-index l.stops) ≡ without l.trip l.stops
