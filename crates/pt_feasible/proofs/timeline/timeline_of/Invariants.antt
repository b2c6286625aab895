use Rattle.std.proofs.Common.{◌≡◌, ℕ, ◌+◌, ◌<◌, ◌≤◌, List, Some, length, slice_get, slice_index, slice_index_or}
use Rattle.pt_feasible.specs.declared.limits.Limits.{Limits}
use Rattle.pt_feasible.specs.declared.visit.Visit.{Visit}
use Rattle.pt_feasible.specs.Limits.{StandFor}
use Rattle.pt_feasible.specs.ServiceTimes.{TimesFit, IsNeverLater}
use Rattle.pt_feasible.specs.Visit.{visits}
use Rattle.pt_feasible.proofs.timeline.timeline_of.Given as goal

abbrev pub invariant-loop-k : goal.invariant-loop-k
invariant-loop-k g l = record {
  count : length l.earliest.items ≡ l.k;
  count_limits : length l.limits.items ≡ l.k;
  floor : (b : List ℕ) → TimesFit (g.T.Times.minutes l.times) l.vehicle (g.S.Stops.stops l.stops) b → IsNeverLater l.earliest.items b;
  opened : (i : ℕ) (visit : Visit) → i < l.k → slice_get (visits l.vehicle (g.S.Stops.stops l.stops)) i ≡ Some visit →
      visit.lo ≤ slice_index l.earliest.items i;
  in_windows : (i : ℕ) (d : Limits) → i < l.k → slice_index l.earliest.items i ≤ (slice_index_or l.limits.items i d).latest;
  stand : (i : ℕ) (d : Limits) → i < l.k →
      StandFor (g.T.Times.minutes l.times) l.vehicle (g.S.Stops.stops l.stops) i (slice_index_or l.limits.items i d);
  arrival : (b : List ℕ) → TimesFit (g.T.Times.minutes l.times) l.vehicle (g.S.Stops.stops l.stops) b →
      l.k < length (g.S.Stops.stops l.stops) + 2 → l.arrival ≤ slice_index b l.k;
}
