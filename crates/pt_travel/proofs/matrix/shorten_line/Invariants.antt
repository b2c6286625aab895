use Rattle.std.proofs.Common.{◌≡◌, ℕ, ◌+◌, ◌<◌, ◌≤◌, min, length, get_or}
use Rattle.pt_travel.proofs.matrix.shorten_line.Given as goal

abbrev pub invariant-loop-j : goal.invariant-loop-j
invariant-loop-j l = record {
  size : length l.line ≡ 100;
  done : (i : ℕ) → i < l.j → get_or l.line i 0 ≡ min (get_or l.initial.line i 0) (l.first + get_or l.middle i 0);
  left : (i : ℕ) → l.j ≤ i → get_or l.line i 0 ≡ get_or l.initial.line i 0;
}
