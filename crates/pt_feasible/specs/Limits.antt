-- The limits on the service time of each visit of a route, and the times that keep them.
use Rattle.std.specs.Prelude.{◌≡◌, ℕ, ◌+◌, ◌-◌, ◌<◌, ◌≤◌, ◌↔◌, IsTrue, List, length, Option, Some, IsSomeAnd, slice_get}
use Rattle.std.specs.Prelude.{slice_index, slice_index_or}
use Rattle.pt_base_values.specs.declared.vehicle.Vehicle.{Vehicle}
use Rattle.pt_feasible.specs.declared.limits.Limits.{Limits}
use Rattle.pt_feasible.specs.declared.stop.Stop.{Stop}
use Rattle.pt_feasible.specs.declared.visit.Visit.{Visit}
use Rattle.pt_feasible.specs.ServiceTimes.{KeepsRouteDuration}
use Rattle.pt_feasible.specs.Stop.{is_pickup, is_drop}
use Rattle.pt_feasible.specs.Visit.{visits}

-- the drive that begins at one visit is in time
abbrev pub HasTimeToDrive : (ℕ → ℕ → Option ℕ) → List Visit → List ℕ → ℕ → Type 0
HasTimeToDrive minutes all b k = (this next : Visit) → slice_get all k ≡ Some this → slice_get all (k + 1) ≡ Some next →
    IsSomeAnd (minutes this.place next.place) (λ drive. slice_index b k + this.service + drive ≤ slice_index b (k + 1))

-- the ride that ends at one stop is within its limit
abbrev pub RidesAt : List Stop → List ℕ → ℕ → Type 0
RidesAt stops b j = (i : ℕ) (pickup drop : Stop) → slice_get stops i ≡ Some pickup → slice_get stops j ≡ Some drop →
    IsTrue (is_pickup pickup) → IsTrue (is_drop drop) → pickup.trip ≡ drop.trip →
    slice_index b (j + 1) - (slice_index b (i + 1) + pickup.service) ≤ pickup.ride

-- the ride that ends at this visit is within its limit, and so is the route if it ends there
pub record EndsInTime (vehicle : Vehicle) (stops : List Stop) (b : List ℕ) (k : ℕ) : Type 0 where
  pub ride : (j : ℕ) → k ≡ j + 1 → RidesAt stops b j
  pub route : k ≡ length stops + 1 → KeepsRouteDuration vehicle stops b

-- what fitting times keep at one visit, except the beginning of its window
pub record FitsAt (minutes : ℕ → ℕ → Option ℕ) (vehicle : Vehicle) (stops : List Stop) (b : List ℕ) (k : ℕ) :
    Type 0 where
  pub in_window : (visit : Visit) → slice_get (visits vehicle stops) k ≡ Some visit → slice_index b k ≤ visit.hi
  pub driven : HasTimeToDrive minutes (visits vehicle stops) b k
  pub ended : EndsInTime vehicle stops b k

-- the time of visit k, out of `count` visits, keeps its limits
pub record IsKept (count : ℕ) (b : List ℕ) (k : ℕ) (limits : Limits) : Type 0 where
  pub in_window : slice_index b k ≤ limits.latest
  pub driven : k + 1 < count → slice_index b k + limits.step ≤ slice_index b (k + 1)
  pub ended : slice_index b k ≤ slice_index b limits.since.visit + limits.since.most

-- the times of all visits keep their limits
abbrev pub KeepsAll : List Limits → List ℕ → Type 0
KeepsAll limits b = (k : ℕ) (d : Limits) → k < length limits → IsKept (length limits) b k (slice_index_or limits k d)

-- the limits of a visit are equivalent to `FitsAt` there, and refer to no later visit
pub record StandFor (minutes : ℕ → ℕ → Option ℕ) (vehicle : Vehicle) (stops : List Stop) (k : ℕ) (limits : Limits) :
    Type 0 where
  pub before : limits.since.visit ≤ k
  pub kept : (b : List ℕ) → IsKept (length stops + 2) b k limits ↔ FitsAt minutes vehicle stops b k

-- no visit's limits refer to a later visit
abbrev pub LookBack : List Limits → Type 0
LookBack limits = (k : ℕ) (d : Limits) → k < length limits → (slice_index_or limits k d).since.visit ≤ k

-- no bound is after the end of its window
abbrev pub AreInWindows : List Limits → List ℕ → Type 0
AreInWindows limits bounds = (k : ℕ) (d : Limits) → k < length limits →
    slice_index bounds k ≤ (slice_index_or limits k d).latest
