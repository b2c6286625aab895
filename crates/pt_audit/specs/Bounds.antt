-- Lower bounds of service times, which follow from the constraints of the dial-a-ride problem (Cordeau and Laporte
-- 2003). `visits` are numbered from 0, the depot; `bound` gives each visit's lower bound in minutes of the day.
use Rattle.std.specs.Prelude.{◌≡◌, ℕ, zero, suc, ◌+◌, ◌<◌, ◌≤◌, ◌==◌, max, if◌then◌else◌, IsTrue, List, [], ◌∷◌}
use Rattle.std.specs.Prelude.{length, take, Option, None, Some, IsSomeAnd, slice_get}
use Rattle.pt_base_values.specs.Load.{FitsWithin}
use Rattle.pt_base_values.specs.declared.vehicle.Vehicle.{Vehicle}
use Rattle.pt_feasible.specs.Pairing.{most_stops}
use Rattle.pt_feasible.specs.declared.stop.Stop.{Stop}
use Rattle.pt_feasible.specs.Loads.{load_aboard}
use Rattle.pt_feasible.specs.Stop.{is_pickup, is_drop}
use Rattle.pt_feasible.specs.Visit.{visits}
use Rattle.pt_audit.specs.declared.line.Raise.{Raise}
use Rattle.pt_audit.specs.declared.line.Raise.TheVariants as raise
use Rattle.pt_audit.specs.declared.line.End.{End}
use Rattle.pt_audit.specs.declared.line.End.TheVariants as end

-- the visit whose bound is raised
abbrev pub visit_of : Raise → ℕ
visit_of (raise.Window k n) = k
visit_of (raise.Drive k n) = k
visit_of (raise.Ride k n) = k
visit_of (raise.Duration n) = 0

-- the minute to which it is raised
abbrev pub minute_of : Raise → ℕ
minute_of (raise.Window k n) = n
minute_of (raise.Drive k n) = n
minute_of (raise.Ride k n) = n
minute_of (raise.Duration n) = n

-- the bounds after a raise: its visit's bound becomes the larger of its old value and the raise's minute
abbrev pub raised : (ℕ → ℕ) → Raise → ℕ → ℕ
raised bound line k = if k == visit_of line then max (bound k) (minute_of line) else bound k

-- the vehicle arrives at the visit from the one before at minute n or later: after the bound, the service and the drive
abbrev pub ArrivesFrom : (ℕ → ℕ → Option ℕ) → Vehicle → List Stop → (ℕ → ℕ) → ℕ → ℕ → Type 0
ArrivesFrom minutes vehicle stops bound zero n = ⊥
ArrivesFrom minutes vehicle stops bound (suc before) n =
    IsSomeAnd (slice_get (visits vehicle stops) before) (λ this.
    IsSomeAnd (slice_get (visits vehicle stops) (suc before)) (λ next.
    IsSomeAnd (minutes this.place next.place) (λ drive. n ≤ bound before + this.service + drive)))

-- the visit is a pickup and begins at minute n or later: its drop, by its bound, would else come after the ride limit
abbrev pub RidesTo : List Stop → (ℕ → ℕ) → ℕ → ℕ → Type 0
RidesTo stops bound zero n = ⊥
RidesTo stops bound (suc i) n = (j : ℕ) × (pickup : Stop) × (drop : Stop)
    × (slice_get stops i ≡ Some pickup) × (slice_get stops j ≡ Some drop)
    × IsTrue (is_pickup pickup) × IsTrue (is_drop drop) × (pickup.trip ≡ drop.trip)
    × (n + pickup.service + pickup.ride ≤ bound (j + 1))

-- a raise is right by the bounds before it: no fitting service time at its visit is below its minute
abbrev pub IsRightRaise : (ℕ → ℕ → Option ℕ) → Vehicle → List Stop → (ℕ → ℕ) → Raise → Type 0
IsRightRaise minutes vehicle stops bound (raise.Window k n) =
    IsSomeAnd (slice_get (visits vehicle stops) k) (λ visit. n ≤ visit.lo)
IsRightRaise minutes vehicle stops bound (raise.Drive k n) = ArrivesFrom minutes vehicle stops bound k n
IsRightRaise minutes vehicle stops bound (raise.Ride k n) = RidesTo stops bound k n
IsRightRaise minutes vehicle stops bound (raise.Duration n) = n + vehicle.duration ≤ bound (length stops + 1)

-- an end is right by the bounds before it: a constraint is broken whatever the service times
abbrev pub IsRightEnd : (ℕ → ℕ → Option ℕ) → Vehicle → List Stop → (ℕ → ℕ) → End → Type 0
IsRightEnd minutes vehicle stops bound (end.Late k) =
    IsSomeAnd (slice_get (visits vehicle stops) k) (λ visit. visit.hi < bound k)
IsRightEnd minutes vehicle stops bound (end.Overloaded k) =
    (k ≤ length stops) × ¬ FitsWithin (load_aboard (take k stops)) vehicle
IsRightEnd minutes vehicle stops bound (end.NoWay k) =
    IsSomeAnd (slice_get (visits vehicle stops) k) (λ this.
    IsSomeAnd (slice_get (visits vehicle stops) (k + 1)) (λ next. minutes this.place next.place ≡ None))
IsRightEnd minutes vehicle stops bound end.TooLong = most_stops < length stops

-- each raise is right by the bounds before it, and so is the end
abbrev pub AreRight : (ℕ → ℕ → Option ℕ) → Vehicle → List Stop → (ℕ → ℕ) → List Raise → End → Type 0
AreRight minutes vehicle stops bound [] end = IsRightEnd minutes vehicle stops bound end
AreRight minutes vehicle stops bound (raise ∷ raises) end =
    IsRightRaise minutes vehicle stops bound raise × AreRight minutes vehicle stops (raised bound raise) raises end
