use Rattle.std.proofs.Common.{ℕ, ◌<◌, [], slice_index_or}
use Rattle.pt_tables_opening.proofs.gathered.group_end.Given as goal

abbrev pub invariant-loop-k : goal.invariant-loop-k
invariant-loop-k g l = (j : ℕ) → 0 < j → j < l.k → g.T.Gathered.Begins (slice_index_or l.rows j []) → ⊥
