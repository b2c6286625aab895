use Rattle.std.proofs.Common.{take}
use Rattle.pt_audit.specs.Cases.{cases_of_day}
use Rattle.pt_insertion_log.specs.Written.{WritesCases}
use Rattle.pt_insertion_log.proofs.explaining.explain_day.Given as goal

-- the cases of the vehicles so far were written
abbrev pub invariant-loop-duty : goal.invariant-loop-duty
invariant-loop-duty g l = WritesCases (g.T.Times.minutes l.times) (cases_of_day l.asked (take l.duty-index l.duties))
    (g.W.Write.contents l.initial.out) (g.W.Write.contents l.out)
