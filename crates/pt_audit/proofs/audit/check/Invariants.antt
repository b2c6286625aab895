use Rattle.std.proofs.Common.{◌≤◌, Some, length, take}
use Rattle.pt_audit.specs.Cases.{cases_of_day}
use Rattle.pt_audit.specs.Reading.{EndsCases}
use Rattle.pt_audit.proofs.audit.check.Given as goal

-- the cases of the vehicles so far end here
abbrev pub invariant-loop-duty : goal.invariant-loop-duty
invariant-loop-duty g l = record {
  within : l.at ≤ length l.lines;
  right : EndsCases (g.T.Times.minutes l.times) (cases_of_day l.asked (take l.duty-index l.duties)) l.lines 0 (Some l.at);
}
