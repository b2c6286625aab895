use Rattle.std.proofs.Common.{◌-◌, ◌≤◌, Some, length}
use Rattle.std.specs.List.{flat_map}
use Rattle.pt_feasible.specs.Route.{stops_of}
use Rattle.pt_audit.specs.Cases.{numbers_from}
use Rattle.pt_audit.specs.Reading.{EndsCases}
use Rattle.pt_audit.proofs.CasesLemmas.{one_case}
use Rattle.pt_audit.proofs.audit.pickup_end.Given as goal

-- the cases of the drops so far end here
abbrev pub invariant-loop-j : goal.invariant-loop-j
invariant-loop-j g l = record {
  within : l.at ≤ length l.lines;
  right : EndsCases (g.T.Times.minutes l.times) (flat_map (one_case l.asked l.duty.vehicle.now (stops_of l.duty.route.now) l.i) (numbers_from l.i (l.j - l.i))) l.lines l.start (Some l.at);
}
