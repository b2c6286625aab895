use Rattle.std.proofs.Common.{◌≤◌, Some, length}
use Rattle.std.specs.List.{flat_map}
use Rattle.pt_feasible.specs.Route.{stops_of}
use Rattle.pt_audit.specs.Cases.{cases_of_pickup, numbers_from}
use Rattle.pt_audit.specs.Reading.{EndsCases}
use Rattle.pt_audit.proofs.audit.vehicle_end.Given as goal

-- the cases of the pickups so far end here
abbrev pub invariant-loop-i : goal.invariant-loop-i
invariant-loop-i g l = record {
  within : l.at ≤ length l.lines;
  right : EndsCases (g.T.Times.minutes l.times) (flat_map (cases_of_pickup l.asked l.duty.vehicle.now (stops_of l.duty.route.now)) (numbers_from 0 l.i)) l.lines l.start (Some l.at);
}
