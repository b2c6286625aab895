use Rattle.std.proofs.Common.{◌≡◌, ℕ, ◌+◌, ◌<◌, ◌≤◌, List, length, slice_index}
use Rattle.pt_feasible.specs.ServiceTimes.{TimesFit, IsNeverLater}
use Rattle.pt_feasible.proofs.earliest.earliest_times.Given as goal

abbrev pub invariant-loop-k : goal.invariant-loop-k
invariant-loop-k g l = record {
  count : length l.earliest.times.items ≡ l.k;
  count_steps : length l.earliest.steps.items ≡ l.k;
  floor : (b : List ℕ) → TimesFit (g.T.Times.minutes l.times) l.vehicle (g.S.Stops.stops l.stops) b →
      IsNeverLater l.earliest.times.items b;
  steps : (i : ℕ) → i < l.k → (b : List ℕ) → TimesFit (g.T.Times.minutes l.times) l.vehicle (g.S.Stops.stops l.stops) b →
      i + 1 < length (g.S.Stops.stops l.stops) + 2 → slice_index b i + slice_index l.earliest.steps.items i ≤ slice_index b (i + 1);
  arrival : (b : List ℕ) → TimesFit (g.T.Times.minutes l.times) l.vehicle (g.S.Stops.stops l.stops) b →
      l.k < length (g.S.Stops.stops l.stops) + 2 → l.arrival ≤ slice_index b l.k;
}
