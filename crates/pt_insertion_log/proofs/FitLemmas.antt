-- Bounds that keep all constraints are service times that fit.
use Rattle.std.proofs.Common.{◌≡◌, ℕ, zero, suc, [], ◌∷◌, ◌==◌, max, ◌+◌, ◌-◌, ◌<◌, ◌≤◌, List, length, take, Option}
use Rattle.std.proofs.Common.{None, Some, IsSomeAnd, slice_get, slice_index, get_or, arith, refl, sym, subst, inl}
use Rattle.std.proofs.Common.{inr, length-take}
use Rattle.std.proofs.lemmas.Bool.{cases_lt, cases_eq, eq-eqb, ne_eqb, cond-true, cond-false}
use Rattle.pt_audit.specs.declared.line.End.TheVariants as end
use Rattle.pt_audit.specs.declared.line.Line.TheVariants as line
use Rattle.pt_audit.specs.declared.line.Raise.{Raise}
use Rattle.pt_audit.specs.declared.line.Raise.TheVariants.{Window, Drive, Ride, Duration}
use Rattle.pt_audit.specs.Bounds.{visit_of, minute_of, raised}
use Rattle.pt_audit.specs.Text.{IsInForm}
use Rattle.std.proofs.lemmas.List.{get_or-take}
use Rattle.std.proofs.lemmas.Option.{slice_get_within}
use Rattle.pt_base_values.specs.declared.vehicle.Vehicle.{Vehicle}
use Rattle.pt_feasible.specs.Pairing.{most_stops}
use Rattle.pt_feasible.specs.declared.stop.Stop.{Stop}
use Rattle.pt_feasible.specs.declared.visit.Visit.{Visit}
use Rattle.pt_feasible.specs.Loads.{load_aboard, LoadsFit}
use Rattle.pt_feasible.specs.ServiceTimes.{TimesFit}
use Rattle.pt_feasible.specs.Visit.{visits}
use Rattle.pt_feasible.proofs.VisitLemmas.{length-visits}
use Rattle.pt_audit.proofs.LawLemmas.{value_of}
use Rattle.pt_insertion_log.specs.Steps.{IsKeptAt, IsClear, IsLasting}

-- if the value cannot be missing, there is one
there_is : (o : Option ℕ) → (o ≡ None → ⊥) → (n : ℕ) × (o ≡ Some n)
there_is None never = absurd (never refl)
there_is (Some n) never = (n, refl)

module _ (minutes : ℕ → ℕ → Option ℕ) (vehicle : Vehicle) (stops : List Stop) (bounds : List ℕ) (long : length stops + 2 ≤ length bounds)
    (kept : (k : ℕ) → k < length stops + 2 → IsKeptAt minutes vehicle stops (slice_index bounds) k)
    (clear : (k : ℕ) → IsClear minutes vehicle stops k) where
  -- the bounds of the visits
  abbrev pub times_of : List ℕ
  times_of = take (length stops + 2) bounds

  at : (k : ℕ) → k < length stops + 2 → slice_index times_of k ≡ slice_index bounds k
  at k inside = get_or-take-below bounds (length stops + 2) k inside
    where
      get_or-take-below : (xs : List ℕ) (n k : ℕ) → k < n → get_or (take n xs) k 0 ≡ get_or xs k 0
      get_or-take-below xs n k inside = get_or-take n xs k 0 inside

  inside : (k : ℕ) (visit : Visit) → slice_get (visits vehicle stops) k ≡ Some visit → k < length stops + 2
  inside k visit here = omega (arith, slice_get_within (visits vehicle stops) k visit here, length-visits vehicle stops)

  -- there is a way on from each visit
  way : (k : ℕ) (this next : Visit) → slice_get (visits vehicle stops) k ≡ Some this → slice_get (visits vehicle stops) (k + 1) ≡ Some next → (n : ℕ) × (minutes this.place next.place ≡ Some n)
  way k this next here there = there_is (minutes this.place next.place) (λ none. (clear k).1
      (rw here (rw there none)))

  drives : (k : ℕ) (this next : Visit) → slice_get (visits vehicle stops) k ≡ Some this → slice_get (visits vehicle stops) (k + 1) ≡ Some next
      → IsSomeAnd (minutes this.place next.place) (λ drive. slice_index times_of k + this.service + drive ≤ slice_index times_of (k + 1))
  drives k this next here there =
      let found = way k this next here there in
      let next_kept = kept (k + 1) (inside (k + 1) next there) in
      let driven = next_kept.driven k found.0 this next refl here there found.1 (next_kept.not_early next there) (omega (arith, next_kept.within_a_day)) in
      rw found.1 (omega (arith, driven, at k (inside k this here), at (k + 1) (inside (k + 1) next there)))

  pub fit : TimesFit minutes vehicle stops times_of
  fit = record {
    one_each = omega (arith, length-take (length stops + 2) bounds);
    time_windows = λ k visit here.
        let here_kept = kept k (inside k visit here) in
        let low = here_kept.not_early visit here in
        let high = here_kept.not_late visit here in
        (omega (arith, low, at k (inside k visit here)), omega (arith, high, at k (inside k visit here)));
    driving_times = drives;
    ride_limits = λ i j pickup drop here there picks drops same.
        let within = slice_get_within stops i pickup here in
        let within' = slice_get_within stops j drop there in
        let ridden = (kept (i + 1) (omega arith)).ridden i j pickup drop refl here there picks drops same in
        omega (arith, ridden, at (i + 1) (omega arith), at (j + 1) (omega arith));
    route_duration = omega (arith, (kept 0 (omega arith)).back refl, at 0 (omega arith), at (length stops + 1) (omega arith));
  }

-- a visit without a way on is not the last
pub no_way-among : (minutes : ℕ → ℕ → Option ℕ) (vehicle : Vehicle) (stops : List Stop) (k : ℕ) →
    IsLasting minutes vehicle stops (end.NoWay k) → k ≤ length stops
no_way-among minutes vehicle stops k lasting =
    let all = visits vehicle stops in
    let this = value_of (λ (this : Visit). IsSomeAnd (slice_get all (k + 1))
    (λ next. minutes this.place next.place ≡ None)) (slice_get all k) lasting in
    let next = value_of (λ (next : Visit). minutes this.0.place next.place ≡ None) (slice_get all (k + 1)) this.2 in
    omega (arith, slice_get_within all (k + 1) next.0 next.1, length-visits vehicle stops)

-- those aboard always fit
pub clear-loads : (minutes : ℕ → ℕ → Option ℕ) (vehicle : Vehicle) (stops : List Stop) → ((k : ℕ) → IsClear minutes vehicle stops k) → LoadsFit vehicle stops
clear-loads minutes vehicle stops clear k inside = elim (cases_lt vehicle.capacity (load_aboard (take k stops)).seats) [
  | inl over ↦ absurd ((clear k).2 (inside, λ fits. omega (arith, fits.seats, over)))
  | inr seats ↦ elim (cases_lt vehicle.chairs (load_aboard (take k stops)).chairs) [
    | inl over ↦ absurd ((clear k).2 (inside, λ fits. omega (arith, fits.chairs, over)))
    | inr chairs ↦ record { seats = seats; chairs = chairs }
  ]
]

-- the route has room
pub clear-room : (minutes : ℕ → ℕ → Option ℕ) (vehicle : Vehicle) (stops : List Stop) → ((k : ℕ) → IsClear minutes vehicle stops k) → length stops ≤ most_stops
clear-room minutes vehicle stops clear = elim (cases_lt most_stops (length stops)) [
  | inl over ↦ absurd ((clear 0).0 over)
  | inr fits ↦ fits
]

-- how far bounds may still rise
abbrev pub room_of : List ℕ → ℕ
room_of [] = 0
room_of (bound ∷ bounds) = (4_294_967_295 - bound) + room_of bounds

room-le : (xs ys : List ℕ) → length xs ≡ length ys → ((k : ℕ) → slice_index xs k ≤ slice_index ys k) → room_of ys ≤ room_of xs
room-le [] [] same each = omega arith
room-le [] (y ∷ ys) same each = absurd (omega arith)
room-le (x ∷ xs) [] same each = absurd (omega arith)
room-le (x ∷ xs) (y ∷ ys) same each = omega (arith, each 0, room-le xs ys (omega arith) (λ k. each (suc k)))

-- where one bound rises, and none falls, there is less room
room-falls : (xs ys : List ℕ) (k : ℕ) → length xs ≡ length ys → ((i : ℕ) → slice_index xs i ≤ slice_index ys i)
    → slice_index xs k < slice_index ys k → slice_index xs k < 4_294_967_295 → room_of ys < room_of xs
room-falls [] [] k same each rises low = absurd (omega arith)
room-falls [] (y ∷ ys) k same each rises low = absurd (omega arith)
room-falls (x ∷ xs) [] k same each rises low = absurd (omega arith)
room-falls (x ∷ xs) (y ∷ ys) zero same each rises low = omega (arith, rises, low, room-le xs ys (omega arith) (λ i. each (suc i)))
room-falls (x ∷ xs) (y ∷ ys) (suc k) same each rises low = omega (arith, each 0, room-falls xs ys k (omega arith) (λ i. each (suc i)) rises low)

-- a raise never lowers a bound
raised-no_lower : (bound : ℕ → ℕ) (raise : Raise) (k : ℕ) → bound k ≤ raised bound raise k
raised-no_lower bound raise k = elim (cases_eq k (visit_of raise)) [
  | inl here ↦ subst (λ (n : ℕ). bound k ≤ n) (sym (cond-true (k == visit_of raise) (max (bound k) (minute_of raise)) (bound k) (eq-eqb k (visit_of raise) here))) (omega arith)
  | inr other ↦ subst (λ (n : ℕ). bound k ≤ n) (sym (cond-false (k == visit_of raise) (max (bound k) (minute_of raise)) (bound k) (ne_eqb k (visit_of raise) other))) (omega arith)
]

raised-there : (bound : ℕ → ℕ) (raise : Raise) → minute_of raise ≤ raised bound raise (visit_of raise)
raised-there bound raise = subst (λ (n : ℕ). minute_of raise ≤ n)
    (sym (cond-true (visit_of raise == visit_of raise) (max (bound (visit_of raise)) (minute_of raise))
    (bound (visit_of raise)) (eq-eqb (visit_of raise) (visit_of raise) refl))) (omega arith)

minute-number : (raise : Raise) → IsInForm (line.Raise raise) → minute_of raise ≤ 4_294_967_295
minute-number (Window k n) form = form 1 0 (omega arith)
minute-number (Drive k n) form = form 1 0 (omega arith)
minute-number (Ride k n) form = form 1 0 (omega arith)
minute-number (Duration n) form = form 1 0 (omega arith)

-- each raise to a later minute leaves less room
pub raise-room : (old new : List ℕ) (raise : Raise) → length old ≡ length new
    → ((k : ℕ) → slice_index new k ≡ raised (slice_index old) raise k)
    → slice_index old (visit_of raise) < minute_of raise → IsInForm (line.Raise raise) → room_of new < room_of old
raise-room old new raise same each later form =
    room-falls old new (visit_of raise) same (λ k. omega (arith, each k, raised-no_lower (slice_index old) raise k))
    (omega (arith, each (visit_of raise), raised-there (slice_index old) raise, later)) (omega (arith, minute-number raise form, later))
