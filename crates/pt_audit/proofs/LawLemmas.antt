-- A right log refutes each of its cases, and its cases are all places of the day.
use Rattle.std.proofs.Common.{◌≡◌, ℕ, zero, suc, ◌+◌, ◌-◌, ◌<◌, ◌≤◌, ◌==◌, max, List, [], ◌∷◌, ◌++◌, length, map}
use Rattle.std.proofs.Common.{Option, None, Some, IsSomeAnd, IsSome, slice_get, slice_index, arith, refl, ap, sym}
use Rattle.std.proofs.Common.{subst, ◌∙◌, inl, inr, add-one}
use Rattle.std.specs.List.{flat_map}
use Rattle.std.proofs.lemmas.Bool.{cases_eq, eq-eqb, ne_eqb, cond-true, cond-false}
use Rattle.pt_base_values.specs.declared.vehicle.Vehicle.{Vehicle}
use Rattle.pt_feasible.specs.declared.stop.Stop.{Stop}
use Rattle.pt_feasible.specs.declared.visit.Visit.{Visit}
use Rattle.pt_feasible.specs.Visit.{visits}
use Rattle.pt_feasible.specs.Loads.{LoadsFit}
use Rattle.pt_feasible.specs.Pairing.{most_stops}
use Rattle.pt_feasible.specs.Route.{stops_of}
use Rattle.pt_feasible.specs.ServiceTimes.{TimesFit}
use Rattle.pt_insertion_search.specs.declared.asked.Asked.{Asked}
use Rattle.pt_insertion_search.specs.declared.duty.Duty.{Duty}
use Rattle.pt_insertion_search.specs.Possible.{IsPossible}
use Rattle.pt_insertion_search.proofs.InsertionLemmas.{length-with_trip}
use Rattle.pt_audit.specs.declared.line.Line.{Line}
use Rattle.pt_audit.specs.declared.line.Raise.{Raise}
use Rattle.pt_audit.specs.declared.line.Raise.TheVariants.{Window, Drive, Ride, Duration}
use Rattle.pt_audit.specs.declared.line.End.{End}
use Rattle.pt_audit.specs.declared.line.End.TheVariants.{Late, Overloaded, NoWay, TooLong}
use Rattle.pt_audit.specs.Bounds.{visit_of, minute_of, raised, IsRightRaise, IsRightEnd, AreRight}
use Rattle.pt_audit.specs.Cases.{Case, case_at, numbers_from, cases_of_pickup, cases_of_vehicle, cases_of_day}
use Rattle.pt_audit.specs.RightLog.{BeginsWithCases, IsRightLog, IsNowherePossible}

-- the value of which something holds
pub value_of : {A : Type 0} (P : A → Type 0) (o : Option A) → IsSomeAnd o P → (x : A) × (o ≡ Some x) × P x
value_of P None there = absurd there
value_of P (Some x) there = (x, refl, there)

-- no bound is above the service time
abbrev pub IsBelow : (ℕ → ℕ) → List ℕ → Type 0
IsBelow bound b = (k : ℕ) → bound k ≤ slice_index b k

module _ (minutes : ℕ → ℕ → Option ℕ) (vehicle : Vehicle) (stops : List Stop) (b : List ℕ) (fits : TimesFit minutes vehicle stops b) where
  -- a fitting service time is no earlier than a right raise
  raise_below : (bound : ℕ → ℕ) → IsBelow bound b → (raise : Raise) → IsRightRaise minutes vehicle stops bound raise → minute_of raise ≤ slice_index b (visit_of raise)
  raise_below bound below (Window k n) right =
      let found = value_of (λ (visit : Visit). n ≤ visit.lo) (slice_get (visits vehicle stops) k) right in
      omega (arith, (fits.time_windows k found.0 found.1).0, found.2)
  raise_below bound below (Drive zero n) right = absurd right
  raise_below bound below (Drive (suc before) n) right =
      let all = visits vehicle stops in
      let this = value_of (λ (this : Visit). IsSomeAnd (slice_get all (suc before))
      (λ next. IsSomeAnd (minutes this.place next.place) (λ drive. n ≤ bound before + this.service + drive)))
      (slice_get all before) right in
      let next = value_of (λ (next : Visit). IsSomeAnd (minutes this.0.place next.place) (λ drive. n ≤ bound before + this.0.service + drive)) (slice_get all (suc before)) this.2 in
      let drive = value_of (λ (drive : ℕ). n ≤ bound before + this.0.service + drive) (minutes this.0.place next.0.place) next.2 in
      let there = subst (λ (k : ℕ). slice_get all k ≡ Some next.0) (sym (add-one before)) next.1 in
      let drives = value_of (λ (drive : ℕ). slice_index b before + this.0.service + drive ≤ slice_index b
      (before + 1)) (minutes this.0.place next.0.place) (fits.driving_times before this.0 next.0 this.1 there)
      in
      let same : drive.0 ≡ drives.0 = (let both : Some drive.0 ≡ Some drives.0 = sym drive.1 ∙ drives.1 in cc) in
      let place : slice_index b (before + 1) ≡ slice_index b (suc before) = ap (slice_index b) (add-one before) in
      omega (arith, drive.2, drives.2, same, place, below before)
  raise_below bound below (Ride zero n) right = absurd right
  raise_below bound below (Ride (suc i) n) right =
      let (j, pickup, drop, here, there, picks, drops, same, asked) = right in
      let rides = fits.ride_limits i j pickup drop here there picks drops same in
      let place : slice_index b (i + 1) ≡ slice_index b (suc i) = ap (slice_index b) (add-one i) in
      omega (arith, rides, asked, place, below (j + 1))
  raise_below bound below (Duration n) right = omega (arith, fits.route_duration, below (length stops + 1), right)

  -- so no bound passes it
  raised_below : (bound : ℕ → ℕ) → IsBelow bound b → (raise : Raise) → IsRightRaise minutes vehicle stops bound raise → IsBelow (raised bound raise) b
  raised_below bound below raise right k =
      elim (cases_eq k (visit_of raise)) [
        | inl here ↦
            let minute : minute_of raise ≤ slice_index b k = subst (λ (v : ℕ). minute_of raise ≤ slice_index b v) (sym here) (raise_below bound below raise right) in
            subst (λ (n : ℕ). n ≤ slice_index b k) (sym (cond-true (k == visit_of raise) (max (bound k) (minute_of raise)) (bound k) (eq-eqb k (visit_of raise) here))) (omega (arith, minute, below k))
        | inr other ↦ subst (λ (n : ℕ). n ≤ slice_index b k) (sym (cond-false (k == visit_of raise) (max (bound k) (minute_of raise)) (bound k) (ne_eqb k (visit_of raise) other))) (below k)
      ]

  -- no end is right
  end_refuted : LoadsFit vehicle stops → length stops ≤ most_stops → (bound : ℕ → ℕ) → IsBelow bound b → (end : End) → ¬ IsRightEnd minutes vehicle stops bound end
  end_refuted loads room bound below (Late k) right =
      let found = value_of (λ (visit : Visit). visit.hi < bound k) (slice_get (visits vehicle stops) k) right in
      absurd (omega (arith, (fits.time_windows k found.0 found.1).1, found.2, below k))
  end_refuted loads room bound below (Overloaded k) right = right.1 (loads k right.0)
  end_refuted loads room bound below (NoWay k) right =
      let all = visits vehicle stops in
      let this = value_of (λ (this : Visit). IsSomeAnd (slice_get all (k + 1)) (λ next. minutes this.place next.place ≡ None)) (slice_get all k) right in
      let next = value_of (λ (next : Visit). minutes this.0.place next.place ≡ None) (slice_get all (k + 1)) this.2 in
      let drives = value_of (λ (drive : ℕ). slice_index b k + this.0.service + drive ≤ slice_index b (k + 1)) (minutes this.0.place next.0.place) (fits.driving_times k this.0 next.0 this.1 next.1) in
      (let both : None ≡ Some drives.0 = sym next.2 ∙ drives.1 in absurd (cc))
  end_refuted loads room bound below TooLong right = absurd (omega arith)

  case_refuted : LoadsFit vehicle stops → length stops ≤ most_stops → (bound : ℕ → ℕ) → IsBelow bound b → (raises : List Raise) (end : End) → ¬ AreRight minutes vehicle stops bound raises end
  case_refuted loads room bound below [] end right = end_refuted loads room bound below end right
  case_refuted loads room bound below (raise ∷ raises) end right =
      case_refuted loads room (raised bound raise) (raised_below bound below raise right.0) raises end right.1

-- no service times and loads fit
abbrev pub IsRefuted : (ℕ → ℕ → Option ℕ) → Case → Type 0
IsRefuted minutes case = (b : List ℕ) → TimesFit minutes case.vehicle case.stops b → LoadsFit case.vehicle case.stops → length case.stops ≤ most_stops → ⊥

-- each element, one by one
abbrev pub Each : {A : Type 0} → (A → Type 0) → List A → Type 0
Each P [] = Unit {0}
Each P (x ∷ xs) = P x × Each P xs

pub cases_refuted : (minutes : ℕ → ℕ → Option ℕ) (cases : List Case) (lines rest : List Line) → BeginsWithCases minutes cases lines rest → Each (IsRefuted minutes) cases
cases_refuted minutes [] lines rest begins = tt
cases_refuted minutes (case ∷ cases) lines rest begins =
    let (raises, end, after, same, right, later) = begins in (
      λ b fits loads room. case_refuted minutes case.vehicle case.stops b fits loads room (λ _. 0) (λ k. omega arith) raises end right,
      cases_refuted minutes cases after rest later,
    )

Each-first : {A : Type 0} (P : A → Type 0) (xs ys : List A) → Each P (xs ++ ys) → Each P xs
Each-first P [] ys each = tt
Each-first P (x ∷ xs) ys each = (each.0, Each-first P xs ys each.1)

Each-second : {A : Type 0} (P : A → Type 0) (xs ys : List A) → Each P (xs ++ ys) → Each P ys
Each-second P [] ys each = each
Each-second P (x ∷ xs) ys each = Each-second P xs ys each.1

-- the numbers in turn are all numbers from the first on
pub Each-numbers : {A : Type 0} (P : A → Type 0) (f : ℕ → List A) (first count k : ℕ) → Each P (flat_map f (numbers_from first count)) → first ≤ k → k < first + count → Each P (f k)
Each-numbers P f first zero k each low high = absurd (omega arith)
Each-numbers P f first (suc count) k each low high = elim (cases_eq first k) [
  | inl here ↦ subst (λ (n : ℕ). Each P (f n)) here (Each-first P (f first) _ each)
  | inr later ↦ Each-numbers P f (first + 1) count k (Each-second P (f first) _ each) (omega (arith, later)) (omega arith)
]

pub Each-mapped : {A : Type 0} (P : A → Type 0) (f : ℕ → A) (first count k : ℕ) → Each P (map f (numbers_from first count)) → first ≤ k → k < first + count → P (f k)
Each-mapped P f first zero k each low high = absurd (omega arith)
Each-mapped P f first (suc count) k each low high = elim (cases_eq first k) [
  | inl here ↦ subst (λ (n : ℕ). P (f n)) here each.0
  | inr later ↦ Each-mapped P f (first + 1) count k each.1 (omega (arith, later)) (omega arith)
]

-- a vehicle's cases are all places in its route
pub vehicle_refuted : (minutes : ℕ → ℕ → Option ℕ) (asked : Asked) (vehicle : Vehicle) (stops : List Stop)
    → Each (IsRefuted minutes) (cases_of_vehicle asked vehicle stops) → (i j : ℕ)
    → ¬ IsPossible minutes vehicle stops asked i j
vehicle_refuted minutes asked vehicle stops each i j possible =
    let drop_later = possible.drop_later in
    let among = possible.among in
    let room = possible.room in
    let pickup = Each-numbers (IsRefuted minutes) (cases_of_pickup asked vehicle stops) 0 (length stops + 1) i each (omega arith) (omega arith) in
    let refuted = Each-mapped (IsRefuted minutes) (case_at asked vehicle stops i) i (length stops + 1 - i) j pickup drop_later (omega arith) in
    refuted possible.times.0 possible.times.1 possible.loads (omega (arith, length-with_trip asked i j stops drop_later among))

duty_refuted : (minutes : ℕ → ℕ → Option ℕ) (asked : Asked) (duties : List Duty) → Each (IsRefuted minutes) (cases_of_day asked duties) → IsNowherePossible minutes duties asked
duty_refuted minutes asked [] each k d inside = absurd (omega arith)
duty_refuted minutes asked (duty ∷ duties) each zero d inside = vehicle_refuted minutes asked duty.vehicle.now (stops_of duty.route.now) (Each-first (IsRefuted minutes) _ _ each)
duty_refuted minutes asked (duty ∷ duties) each (suc k) d inside = duty_refuted minutes asked duties
    (Each-second (IsRefuted minutes) (cases_of_vehicle asked duty.vehicle.now (stops_of duty.route.now)) _ each) k d
    (omega arith)

-- without a way from the origin to the goal nothing is possible
no_direct : (minutes : ℕ → ℕ → Option ℕ) (duties : List Duty) (asked : Asked) → minutes asked.origin asked.goal ≡ None → IsNowherePossible minutes duties asked
no_direct minutes duties asked none k d inside i j possible = (let there = subst IsSome none possible.direct in absurd (cc))

pub right_log_refuses : (minutes : ℕ → ℕ → Option ℕ) (duties : List Duty) (asked : Asked) (lines : List Line) → IsRightLog minutes duties asked lines → IsNowherePossible minutes duties asked
right_log_refuses minutes duties asked lines right = elim right [
  | inl direct ↦ no_direct minutes duties asked direct.1
  | inr cases ↦ duty_refuted minutes asked duties (cases_refuted minutes (cases_of_day asked duties) lines [] cases)
]
