use Rattle.std.proofs.Common.{◌↔◌, List, [], ◌∷◌, drop, slice_index}
use Rattle.pt_audit.specs.declared.line.Line.{Line}
use Rattle.pt_audit.specs.Insertion.{case_of, inserted_stops}
use Rattle.pt_audit.specs.RightLog.{BeginsWithCases}
use Rattle.pt_audit.proofs.ReadingLemmas.{Continues}
use Rattle.pt_audit.proofs.case_end.case_end.Given as goal

-- the lines are those of the case exactly where those from here on continue it from the bounds
abbrev pub invariant-loop-at : goal.invariant-loop-at
invariant-loop-at g l = (rest : List Line) →
    BeginsWithCases (g.T.Times.minutes l.times) (case_of l.insertion ∷ []) (drop l.start l.lines) rest
    ↔ Continues (g.T.Times.minutes l.times) l.insertion.vehicle.now (inserted_stops l.insertion) (slice_index l.bounds) (drop l.at l.lines) rest
