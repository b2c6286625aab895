use Rattle.std.proofs.Common.{◌≡◌, ℕ, ◌<◌, eqb, cond, vec_len, vec_capacity}
use Rattle.pt_travel.specs.Matrix.{entry}
use Rattle.pt_travel.proofs.matrix.apart.Given as goal

abbrev pub invariant-loop-i : goal.invariant-loop-i
invariant-loop-i l = record {
  size : vec_len l.lines ≡ l.i;
  room : vec_capacity l.lines ≡ l.n;
  entries : (i j : ℕ) → i < l.i → j < 100 → entry l.lines.items i j ≡ cond (eqb i j) 0 1440;
}
