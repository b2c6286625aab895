-- The visits of a route one after the other.
use Rattle.std.specs.Prelude.{◌≡◌, ℕ, ◌+◌, ◌<◌, ◌≤◌, List, length, Option, Some, slice_get, slice_index, slice_index_or}
use Rattle.pt_base_values.specs.declared.vehicle.Vehicle.{Vehicle}
use Rattle.pt_feasible.specs.declared.limits.Limits.{Limits}
use Rattle.pt_feasible.specs.declared.timeline.Timeline.{Timeline}
use Rattle.pt_feasible.specs.declared.stop.Stop.{Stop}
use Rattle.pt_feasible.specs.declared.visit.Visit.{Visit}
use Rattle.pt_feasible.specs.Limits.{AreInWindows, StandFor}
use Rattle.pt_feasible.specs.ServiceTimes.{TimesFit, IsNeverLater}
use Rattle.pt_feasible.specs.Visit.{visits}

-- A timeline has a lower bound and limits for each visit. The bounds lie in the windows, and no fitting time is
-- earlier. The limits are equivalent to what fitting times keep.
pub record IsTimelineOf (minutes : ℕ → ℕ → Option ℕ) (vehicle : Vehicle) (stops : List Stop)
    (timeline : Timeline) : Type 0 where
  pub count : length timeline.earliest.items ≡ length stops + 2
  pub count_limits : length timeline.limits.items ≡ length stops + 2
  pub floor : (b : List ℕ) → TimesFit minutes vehicle stops b → IsNeverLater timeline.earliest.items b
  pub opened : (k : ℕ) (visit : Visit) → slice_get (visits vehicle stops) k ≡ Some visit →
      visit.lo ≤ slice_index timeline.earliest.items k
  pub in_windows : AreInWindows timeline.limits.items timeline.earliest.items
  pub stand : (k : ℕ) (d : Limits) → k < length stops + 2 →
      StandFor minutes vehicle stops k (slice_index_or timeline.limits.items k d)
