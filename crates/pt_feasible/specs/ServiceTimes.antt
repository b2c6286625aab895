-- Service times of a route: the constraints of the dial-a-ride problem (Cordeau and Laporte 2003), in whole
-- minutes of the day. `b` lists one time for each visit: leaving the depot, each stop in turn, back at the depot.
use Rattle.std.specs.Prelude.{◌≡◌, ℕ, ◌+◌, ◌-◌, ◌≤◌, IsTrue, List, length, Option, Some, IsSomeAnd, slice_get}
use Rattle.std.specs.Prelude.{slice_index}
use Rattle.pt_base_values.specs.declared.vehicle.Vehicle.{Vehicle}
use Rattle.pt_feasible.specs.declared.stop.Stop.{Stop}
use Rattle.pt_feasible.specs.declared.visit.Visit.{Visit}
use Rattle.pt_feasible.specs.Stop.{is_pickup, is_drop}
use Rattle.pt_feasible.specs.Visit.{visits}

-- time windows: each visit begins within its window
abbrev pub KeepsTimeWindows : List Visit → List ℕ → Type 0
KeepsTimeWindows all b = (k : ℕ) (visit : Visit) → slice_get all k ≡ Some visit →
    (visit.lo ≤ slice_index b k) × (slice_index b k ≤ visit.hi)

-- driving: from each visit to the next there is a way, and time for the service and the drive
abbrev pub KeepsDrivingTimes : (ℕ → ℕ → Option ℕ) → List Visit → List ℕ → Type 0
KeepsDrivingTimes minutes all b = (k : ℕ) (this next : Visit) →
    slice_get all k ≡ Some this → slice_get all (k + 1) ≡ Some next →
    IsSomeAnd (minutes this.place next.place) (λ drive. slice_index b k + this.service + drive ≤ slice_index b (k + 1))

-- ride time: from the end of a trip's pickup to its drop, at most its ride limit passes
abbrev pub KeepsRideLimits : List Stop → List ℕ → Type 0
KeepsRideLimits stops b = (i j : ℕ) (pickup drop : Stop) →
    slice_get stops i ≡ Some pickup → slice_get stops j ≡ Some drop →
    IsTrue (is_pickup pickup) → IsTrue (is_drop drop) → pickup.trip ≡ drop.trip →
    slice_index b (j + 1) - (slice_index b (i + 1) + pickup.service) ≤ pickup.ride

-- route duration: the vehicle is back within its duration, in minutes after it leaves
abbrev pub KeepsRouteDuration : Vehicle → List Stop → List ℕ → Type 0
KeepsRouteDuration vehicle stops b = slice_index b (length stops + 1) - slice_index b 0 ≤ vehicle.duration

-- the service times fit the route
pub record TimesFit (minutes : ℕ → ℕ → Option ℕ) (vehicle : Vehicle) (stops : List Stop) (b : List ℕ) : Type 0 where
  pub one_each : length b ≡ length stops + 2
  pub time_windows : KeepsTimeWindows (visits vehicle stops) b
  pub driving_times : KeepsDrivingTimes minutes (visits vehicle stops) b
  pub ride_limits : KeepsRideLimits stops b
  pub route_duration : KeepsRouteDuration vehicle stops b

-- at no visit is the first list later than the second
abbrev pub IsNeverLater : List ℕ → List ℕ → Type 0
IsNeverLater a b = (k : ℕ) → slice_index a k ≤ slice_index b k

-- the service times fit, and no fitting service times are earlier at any visit
pub record IsLeastSchedule (minutes : ℕ → ℕ → Option ℕ) (vehicle : Vehicle) (stops : List Stop) (b : List ℕ) :
    Type 0 where
  pub fits : TimesFit minutes vehicle stops b
  pub least : (other : List ℕ) → TimesFit minutes vehicle stops other → IsNeverLater b other
