use Rattle.std.proofs.Common.{ℕ, ◌+◌, ◌<◌, get_or}
use Rattle.pt_travel.specs.Table.{ComesBefore}
use Rattle.pt_travel.proofs.raw.rises.Given as goal

abbrev pub invariant-loop-k : goal.invariant-loop-k
invariant-loop-k l = (j : ℕ) → j + 1 < l.k → ComesBefore (get_or l.rows j (0, 0, 0)) (get_or l.rows (j + 1) (0, 0, 0))
