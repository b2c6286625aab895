use Rattle.std.proofs.Common.{ℕ, ◌<◌, get_or}
use Rattle.pt_insertion_search.specs.declared.duty.Duty.{Duty}
use Rattle.pt_insertion_search.proofs.duty.are_rising.Given as goal

abbrev pub invariant-loop-k : goal.invariant-loop-k
invariant-loop-k l = (i j : ℕ) (d : Duty) → i < j → j < l.k →
    (get_or l.duties i d).vehicle.now.id < (get_or l.duties j d).vehicle.now.id
