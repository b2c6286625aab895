use Rattle.std.proofs.Common.{ℕ, ◌-◌, ◌<◌, ◌≤◌, length, get_or}
use Rattle.pt_travel.specs.Table.{ComesBefore}
use Rattle.pt_travel.proofs.sorted.place_by_halving.Given as goal

abbrev pub invariant-loop-low : goal.invariant-loop-low
invariant-loop-low l = record {
  ordered : l.low ≤ l.high;
  within : l.high ≤ length l.rows;
  before : (j : ℕ) → j < l.low → ComesBefore (get_or l.rows j (0, 0, 0)) l.row;
  after : l.high < length l.rows → ComesBefore (get_or l.rows l.high (0, 0, 0)) l.row → ⊥;
}

abbrev pub decreases-loop-low : goal.decreases-loop-low
decreases-loop-low l = l.high - l.low
