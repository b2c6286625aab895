use Rattle.std.proofs.Common.{◌≡◌, ℕ, ◌+◌, ◌≤◌, List, length}
use Rattle.pt_feasible.specs.Limits.{KeepsAll, AreInWindows}
use Rattle.pt_feasible.specs.ServiceTimes.{IsNeverLater}
use Rattle.pt_feasible.proofs.PassLemmas.{IsLowest, count_final}
use Rattle.pt_feasible.proofs.sweep.least_times.Given as goal

abbrev pub invariant-loop : goal.invariant-loop
invariant-loop g l = record {
  count : length l.bounds.items ≡ length l.fn.timeline.earliest.items;
  limits_stay : l.limits.items ≡ l.fn.timeline.limits.items;
  rises : IsNeverLater l.fn.timeline.earliest.items l.bounds.items;
  in_windows : AreInWindows l.limits.items l.bounds.items;
  below : (b : List ℕ) → IsNeverLater l.fn.timeline.earliest.items b → KeepsAll l.limits.items b → IsNeverLater l.bounds.items b;
  -- each pass that raised a bound of the lowest times made one more of them final
  final : (b : List ℕ) → length b ≡ length l.fn.timeline.earliest.items → IsNeverLater l.fn.timeline.earliest.items b → KeepsAll l.limits.items b →
      IsLowest l.limits.items l.fn.timeline.earliest.items b → l.counter ≤ count_final l.bounds.items b;
  counted : l.passes ≡ l.fn.passes + l.counter;
}
