-- Steps of a case: a bound that a constraint raises, or a constraint that is broken.
use Rattle.std.specs.Prelude.{⊤, ◌≡◌, ◌≢◌, ℕ, ◌+◌, ◌-◌, ◌^◌, ◌<◌, ◌≤◌, IsTrue, List, length, Option, Some, slice_get}
use Rattle.pt_base_values.specs.Ranges.{last_minute}
use Rattle.pt_base_values.specs.declared.vehicle.Vehicle.{Vehicle}
use Rattle.pt_feasible.specs.declared.stop.Stop.{Stop}
use Rattle.pt_feasible.specs.declared.visit.Visit.{Visit}
use Rattle.pt_feasible.specs.Stop.{is_pickup, is_drop}
use Rattle.pt_feasible.specs.Visit.{visits}
use Rattle.pt_audit.specs.declared.line.Raise.{Raise}
use Rattle.pt_audit.specs.declared.line.End.{End}
use Rattle.pt_audit.specs.declared.line.End.TheVariants as end
use Rattle.pt_audit.specs.Bounds.{visit_of, minute_of, IsRightRaise, IsRightEnd}
use Rattle.pt_insertion_log.specs.declared.steps.Step.{Step}
use Rattle.pt_insertion_log.specs.declared.steps.Step.TheVariants as step

-- a right raise to a later minute
abbrev pub Raises : (ℕ → ℕ → Option ℕ) → Vehicle → List Stop → (ℕ → ℕ) → Raise → Type 0
Raises minutes vehicle stops bound raise = IsRightRaise minutes vehicle stops bound raise
    × (bound (visit_of raise) < minute_of raise)

-- a step of a case: a right raise to a later minute, or a right end
abbrev pub IsStep : (ℕ → ℕ → Option ℕ) → Vehicle → List Stop → (ℕ → ℕ) → Step → Type 0
IsStep minutes vehicle stops bound (step.Raise raise) = Raises minutes vehicle stops bound raise
IsStep minutes vehicle stops bound (step.End end) = IsRightEnd minutes vehicle stops bound end

-- the vehicle can arrive at visit k by its bound, unless the bound is before its window or at the limit of a number
abbrev pub IsDriven : (ℕ → ℕ → Option ℕ) → Vehicle → List Stop → (ℕ → ℕ) → ℕ → Type 0
IsDriven minutes vehicle stops bound k = (before drive : ℕ) (this next : Visit) → k ≡ before + 1 →
    slice_get (visits vehicle stops) before ≡ Some this → slice_get (visits vehicle stops) k ≡ Some next →
    minutes this.place next.place ≡ Some drive → next.lo ≤ bound k → bound k < 2 ^ 32 - 1 →
    bound before + this.service + drive ≤ bound k

-- at stop i a trip is picked up, and at stop j it is dropped
pub record IsRide (stops : List Stop) (i j : ℕ) : Type 0 where
  pub pickup : Stop
  pub drop : Stop
  pub here : slice_get stops i ≡ Some pickup
  pub there : slice_get stops j ≡ Some drop
  pub picks : IsTrue (is_pickup pickup)
  pub drops : IsTrue (is_drop drop)
  pub same : pickup.trip ≡ drop.trip

-- the drop of a pickup at visit k is no later than its ride limit allows
abbrev pub IsRidden : List Stop → (ℕ → ℕ) → ℕ → Type 0
IsRidden stops bound k = (i j : ℕ) (pickup drop : Stop) → k ≡ i + 1 →
    slice_get stops i ≡ Some pickup → slice_get stops j ≡ Some drop →
    IsTrue (is_pickup pickup) → IsTrue (is_drop drop) → pickup.trip ≡ drop.trip →
    bound (j + 1) - (bound k + pickup.service) ≤ pickup.ride

-- the bound of visit k lies in its window and keeps its constraints
pub record IsKeptAt (minutes : ℕ → ℕ → Option ℕ) (vehicle : Vehicle) (stops : List Stop)
    (bound : ℕ → ℕ) (k : ℕ) : Type 0 where
  pub not_early : (visit : Visit) → slice_get (visits vehicle stops) k ≡ Some visit → visit.lo ≤ bound k
  pub not_late : (visit : Visit) → slice_get (visits vehicle stops) k ≡ Some visit → bound k ≤ visit.hi
  pub within_a_day : bound k ≤ last_minute
  pub driven : IsDriven minutes vehicle stops bound k
  pub ridden : IsRidden stops bound k
  pub back : k ≡ 0 → bound (length stops + 1) - bound 0 ≤ vehicle.duration

-- the visits before visit n keep their constraints
abbrev pub AreKeptBefore : (ℕ → ℕ → Option ℕ) → Vehicle → List Stop → (ℕ → ℕ) → ℕ → Type 0
AreKeptBefore minutes vehicle stops bound n = (k : ℕ) → k < n → IsKeptAt minutes vehicle stops bound k

-- the visits before visit `rest`, except visit `first`, keep their constraints
abbrev pub AreKeptBut : (ℕ → ℕ → Option ℕ) → Vehicle → List Stop → (ℕ → ℕ) → ℕ → ℕ → Type 0
AreKeptBut minutes vehicle stops bound first rest =
    (k : ℕ) → k < rest → k ≢ first → IsKeptAt minutes vehicle stops bound k

-- the step is a raise at visit k, or an end
abbrev pub IsAt : ℕ → Step → Type 0
IsAt k (step.Raise raise) = visit_of raise ≡ k
IsAt k (step.End end) = ⊤

-- if the step is a raise, the visits before its visit keep their constraints
abbrev pub IsFirst : (ℕ → ℕ → Option ℕ) → Vehicle → List Stop → (ℕ → ℕ) → Step → Type 0
IsFirst minutes vehicle stops bound (step.Raise raise) = AreKeptBefore minutes vehicle stops bound (visit_of raise)
IsFirst minutes vehicle stops bound (step.End end) = ⊤

-- the end is right whatever the bounds are
abbrev pub IsLasting : (ℕ → ℕ → Option ℕ) → Vehicle → List Stop → End → Type 0
IsLasting minutes vehicle stops end = IsRightEnd minutes vehicle stops (λ _. 0) end

-- the route is not too long, and at visit k there is a way on and room for those aboard
abbrev pub IsClear : (ℕ → ℕ → Option ℕ) → Vehicle → List Stop → ℕ → Type 0
IsClear minutes vehicle stops k =
    ¬ IsLasting minutes vehicle stops end.TooLong × ¬ IsLasting minutes vehicle stops (end.NoWay k)
    × ¬ IsLasting minutes vehicle stops (end.Overloaded k)
