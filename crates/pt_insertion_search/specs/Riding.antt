-- The ride of a trip that is put into a route: who rides with it, and its least length.
use Rattle.std.specs.Prelude.{◌≡◌, ℕ, ◌+◌, ◌≤◌, List, length, take, Option, Some, slice_get, slice_index}
use Rattle.pt_base_values.specs.declared.vehicle.Vehicle.{Vehicle}
use Rattle.pt_feasible.specs.declared.stop.Stop.{Stop}
use Rattle.pt_feasible.specs.declared.visit.Visit.{Visit}
use Rattle.pt_feasible.specs.Loads.{load_aboard}
use Rattle.pt_feasible.specs.ServiceTimes.{TimesFit}
use Rattle.pt_feasible.specs.Visit.{visits}
use Rattle.pt_insertion_search.specs.declared.asked.Asked.{Asked}
use Rattle.pt_insertion_search.specs.declared.riding.Riding.{Riding}
use Rattle.pt_insertion_search.specs.Insertion.{with_trip}

-- With the pickup after i old stops and the drop after j or more, the later of the pickup and the j-th visit is at this
-- place. When its service ends, the ride has taken at least `ridden` minutes.
abbrev pub IsRiddenFor : (ℕ → ℕ → Option ℕ) → Vehicle → List Stop → Asked → (i j place ridden : ℕ) → Type 0
IsRiddenFor minutes vehicle stops asked i j place ridden = (later : ℕ) (b : List ℕ) (last : Visit) →
    j ≤ later → later ≤ length stops → TimesFit minutes vehicle (with_trip asked i later stops) b →
    slice_get (visits vehicle (with_trip asked i later stops)) (j + 1) ≡ Some last →
    (last.place ≡ place) × (slice_index b (i + 1) + asked.service + ridden ≤ slice_index b (j + 1) + last.service)

-- With the pickup after i old stops and the drop after j or more, take the later of the pickup and the j-th visit. Its
-- service ends at minute `leaves` or later.
abbrev pub IsServedUntil : (ℕ → ℕ → Option ℕ) → Vehicle → List Stop → Asked → (i j leaves : ℕ) → Type 0
IsServedUntil minutes vehicle stops asked i j leaves = (later : ℕ) (b : List ℕ) (last : Visit) →
    j ≤ later → later ≤ length stops → TimesFit minutes vehicle (with_trip asked i later stops) b →
    slice_get (visits vehicle (with_trip asked i later stops)) (j + 1) ≡ Some last →
    leaves ≤ slice_index b (j + 1) + last.service

-- the ride after j old stops, wherever its drop comes from there on
pub record IsRiding (minutes : ℕ → ℕ → Option ℕ) (vehicle : Vehicle) (stops : List Stop) (asked : Asked) (i j : ℕ)
    (riding : Riding) : Type 0 where
  pub others : riding.others ≡ load_aboard (take j stops)
  pub within_limit : riding.minutes ≤ asked.ride
  pub ridden : IsRiddenFor minutes vehicle stops asked i j riding.place riding.minutes
  pub served : IsServedUntil minutes vehicle stops asked i j riding.leaves
  pub in_range : riding.leaves ≤ 131070
