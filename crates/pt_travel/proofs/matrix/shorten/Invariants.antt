use Rattle.std.proofs.Common.{◌≡◌, ℕ, ◌+◌, ◌<◌, ◌≤◌, min, [], length, get_or}
use Rattle.pt_travel.specs.Matrix.{entry}
use Rattle.pt_travel.proofs.matrix.shorten.Given as goal

abbrev pub invariant-loop-line : goal.invariant-loop-line
invariant-loop-line l = record {
  size : length l.line-items ≡ length l.fn.lines.items;
  done : (i j : ℕ) → i < l.line-index → j < 100
      → entry l.line-items i j ≡ min (entry l.fn.lines.items i j) (entry l.fn.lines.items i l.k + get_or l.middle j 0);
  left : (i : ℕ) → l.line-index ≤ i → get_or l.line-items i [] ≡ get_or l.fn.lines.items i [];
}
