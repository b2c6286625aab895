use Rattle.pt_insertion_search.proofs.DutiesLemmas.{IsBestSoFar}
use Rattle.pt_insertion_search.proofs.choice.best.Given as goal

abbrev pub invariant-loop-duty : goal.invariant-loop-duty
invariant-loop-duty g l = IsBestSoFar (g.T.Times.minutes l.times) l.duties l.asked l.duty-index l.best
