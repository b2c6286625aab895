-- A trip whose pickup gets another window: what fitted its route, and begins the pickup in the new window, still fits.
use Rattle.std.proofs.Common.{◌≡◌, ◌≢◌, ℕ, zero, suc, ◌+◌, ◌-◌, ◌≤◌, Bool, true, false, cond, IsTrue, List, [], ◌∷◌}
use Rattle.std.proofs.Common.{◌++◌, Option, Some, length, map, filter, take, drop, slice_get, slice_index, inl, inr}
use Rattle.std.proofs.Common.{refl, sym, ap, subst, ◌∙◌, arith, add-one, append_assoc}
use Rattle.std.specs.Option.{option_map, IsSomeAnd}
use Rattle.std.proofs.lemmas.Bool.{cases_eq, cases_lt, false≢true}
use Rattle.std.proofs.lemmas.List.{length-map}
use Rattle.std.proofs.lemmas.Option.{same_Some, slice_get-map}
use Rattle.pt_base_values.specs.declared.vehicle.Vehicle.{Vehicle}
use Rattle.pt_feasible.specs.declared.stop.Stop.{Stop}
use Rattle.pt_feasible.specs.declared.visit.Visit.{Visit}
use Rattle.pt_base_values.specs.Load.{load_difference, FitsWithin}
use Rattle.pt_base_values.specs.declared.load.Load.{Load}
use Rattle.pt_feasible.specs.Loads.{total_load, load_aboard, LoadsFit}
use Rattle.pt_feasible.specs.ServiceTimes.{TimesFit, IsLeastSchedule}
use Rattle.pt_feasible.specs.Stop.{is_pickup, is_drop, takes_aboard, lets_leave}
use Rattle.pt_feasible.specs.declared.stop.StopKind.{StopKind}
use Rattle.pt_feasible.specs.Visit.{visits, depot_visit, stop_visit}
use Rattle.pt_feasible.proofs.VisitLemmas.{visits-stop}
use Rattle.pt_insertion_search.specs.Asked.{pickup_stop, drop_stop}
use Rattle.pt_insertion_search.specs.Insertion.{with_trip}
use Rattle.pt_insertion_search.specs.declared.asked.Asked.{Asked}
use Rattle.pt_insertion_search.proofs.InsertionLemmas.{length-with_trip, with_trip_before, with_trip_pickup, with_trip_between, with_trip_drop, with_trip_after}
use Rattle.pt_base_values.specs.declared.window.Window.{Window}

-- the same trip with its pickup in this window
abbrev pub moved : Asked → Window → Asked
moved asked window = record asked { lo = window.from; hi = window.to }

-- an element in front of the same rest
get-in_front : {X : Type 0} (xs ys zs : List X) (n : ℕ) → length xs ≡ length ys → slice_get xs n ≡ slice_get ys n →
    slice_get (xs ++ zs) n ≡ slice_get (ys ++ zs) n
get-in_front [] [] zs n count same = refl
get-in_front [] (y ∷ ys) zs n count same = absurd (omega arith)
get-in_front (x ∷ xs) [] zs n count same = absurd (omega arith)
get-in_front (x ∷ xs) (y ∷ ys) zs zero count same = same
get-in_front (x ∷ xs) (y ∷ ys) zs (suc n) count same = get-in_front xs ys zs n (omega arith) same

module _ (asked : Asked) (window : Window) (i j : ℕ) (stops : List Stop) (drop_later : i ≤ j) (among : j ≤ length stops) where
  -- every stop but the pickup is the same
  same-stop : (k : ℕ) → k ≢ i → slice_get (with_trip (moved asked window) i j stops) k ≡ slice_get (with_trip asked i j stops) k
  same-stop k other = elim (cases_lt k i) [
    | inl before ↦
        with_trip_before (moved asked window) i j stops k drop_later among before
        ∙ sym (with_trip_before asked i j stops k drop_later among before)
    | inr from ↦ elim (cases_lt k (j + 1)) [
      | inl between ↦
          with_trip_between (moved asked window) i j stops k (k - 1) drop_later among (omega arith) (omega arith) (omega arith)
          ∙ sym (with_trip_between asked i j stops k (k - 1) drop_later among (omega arith) (omega arith) (omega arith))
      | inr late ↦ elim (cases_lt k (j + 2)) [
        | inl there ↦
            with_trip_drop (moved asked window) i j stops k drop_later among (omega arith)
            ∙ sym (with_trip_drop asked i j stops k drop_later among (omega arith))
        | inr after ↦
            with_trip_after (moved asked window) i j stops k (k - 2) drop_later among (omega arith) (omega arith)
            ∙ sym (with_trip_after asked i j stops k (k - 2) drop_later among (omega arith) (omega arith))
      ]
    ]
  ]

  same-length : length (with_trip (moved asked window) i j stops) ≡ length (with_trip asked i j stops)
  same-length = length-with_trip (moved asked window) i j stops drop_later among ∙ sym (length-with_trip asked i j stops drop_later among)

-- the visit of the pickup
pub pickup-visit : (vehicle : Vehicle) (asked : Asked) (i j : ℕ) (stops : List Stop) → i ≤ j → j ≤ length stops →
    slice_get (visits vehicle (with_trip asked i j stops)) (i + 1) ≡ Some (stop_visit (pickup_stop asked))
pickup-visit vehicle asked i j stops drop_later among =
    rw (add-one i) (visits-stop vehicle (with_trip asked i j stops) i (pickup_stop asked) (with_trip_pickup asked i j stops drop_later among))

-- two stops that differ in their windows alone
record IsAlike (old new : Stop) : Type 0 where
  trip : old.trip ≡ new.trip
  kind : old.kind ≡ new.kind
  service : old.service ≡ new.service
  ride : old.ride ≡ new.ride

module _ (asked : Asked) (window : Window) (i j : ℕ) (stops : List Stop) (drop_later : i ≤ j) (among : j ≤ length stops) where
  -- every visit but the pickup is the same
  same-visit : (vehicle : Vehicle) (k : ℕ) → k ≢ i + 1 →
      slice_get (visits vehicle (with_trip (moved asked window) i j stops)) k ≡ slice_get (visits vehicle (with_trip asked i j stops)) k
  same-visit vehicle zero other = refl
  same-visit vehicle (suc n) other =
      get-in_front (map stop_visit (with_trip (moved asked window) i j stops)) (map stop_visit (with_trip asked i j stops)) (depot_visit vehicle ∷ []) n
      (length-map (with_trip (moved asked window) i j stops) stop_visit ∙ same-length asked window i j stops drop_later among
      ∙ sym (length-map (with_trip asked i j stops) stop_visit))
      (slice_get-map stop_visit (with_trip (moved asked window) i j stops) n
      ∙ ap (option_map stop_visit) (same-stop asked window i j stops drop_later among n (λ e. other (omega arith)))
      ∙ sym (slice_get-map stop_visit (with_trip asked i j stops) n))

  -- the visit at the pickup, in its new window
  moved-pickup : (vehicle : Vehicle) (k : ℕ) (visit : Visit) → k ≡ i + 1 →
      slice_get (visits vehicle (with_trip (moved asked window) i j stops)) k ≡ Some visit → stop_visit (pickup_stop (moved asked window)) ≡ visit
  moved-pickup vehicle k visit at here =
      same_Some _ _ (sym (pickup-visit vehicle (moved asked window) i j stops drop_later among)
      ∙ ap (slice_get (visits vehicle (with_trip (moved asked window) i j stops))) (sym at) ∙ here)

  -- each visit was there before, at the same place and with the same service
  old-visit : (vehicle : Vehicle) (k : ℕ) (visit : Visit) →
      slice_get (visits vehicle (with_trip (moved asked window) i j stops)) k ≡ Some visit →
      (old : Visit) × (slice_get (visits vehicle (with_trip asked i j stops)) k ≡ Some old)
      × (old.place ≡ visit.place) × (old.service ≡ visit.service)
  old-visit vehicle k visit here = elim (cases_eq k (i + 1)) [
    | inl at ↦
        let is = moved-pickup vehicle k visit at here in (
          stop_visit (pickup_stop asked),
          ap (slice_get (visits vehicle (with_trip asked i j stops))) at ∙ pickup-visit vehicle asked i j stops drop_later among,
          ap (λ (v : Visit). v.place) is,
          ap (λ (v : Visit). v.service) is,
        )
    | inr other ↦ (visit, sym (same-visit vehicle k other) ∙ here, refl, refl)
  ]

  -- each stop was there before, but for its window
  old-stop : (k : ℕ) (stop : Stop) → slice_get (with_trip (moved asked window) i j stops) k ≡ Some stop →
      (old : Stop) × (slice_get (with_trip asked i j stops) k ≡ Some old) × IsAlike old stop
  old-stop k stop here = elim (cases_eq k i) [
    | inl at ↦
        let is : pickup_stop (moved asked window) ≡ stop =
        same_Some _ _ (sym (with_trip_pickup (moved asked window) i j stops drop_later among)
        ∙ ap (slice_get (with_trip (moved asked window) i j stops)) (sym at) ∙ here) in (
          pickup_stop asked,
          ap (slice_get (with_trip asked i j stops)) at ∙ with_trip_pickup asked i j stops drop_later among,
          record {
            trip = ap (λ (s : Stop). s.trip) is;
            kind = ap (λ (s : Stop). s.kind) is;
            service = ap (λ (s : Stop). s.service) is;
            ride = ap (λ (s : Stop). s.ride) is;
          },
        )
    | inr other ↦
        (stop, sym (same-stop asked window i j stops drop_later among k other) ∙ here, record { trip = refl; kind = refl; service = refl; ride = refl })
  ]

  -- times that fit, and begin the pickup in the new window, still fit
  pub moved-fits : (minutes : ℕ → ℕ → Option ℕ) (vehicle : Vehicle) (b : List ℕ) →
      TimesFit minutes vehicle (with_trip asked i j stops) b →
      window.from ≤ slice_index b (i + 1) → slice_index b (i + 1) ≤ window.to →
      TimesFit minutes vehicle (with_trip (moved asked window) i j stops) b
  moved-fits minutes vehicle b fits low high = record {
    one_each = omega (arith, fits.one_each, same-length asked window i j stops drop_later among);
    time_windows = λ k visit here. elim (cases_eq k (i + 1)) [
      | inl at ↦
          let is = moved-pickup vehicle k visit at here in
          let from : window.from ≡ visit.lo = ap (λ (v : Visit). v.lo) is in
          let to : window.to ≡ visit.hi = ap (λ (v : Visit). v.hi) is in
          let time : slice_index b k ≡ slice_index b (i + 1) = ap (slice_index b) at in
          (omega arith, omega arith)
      | inr other ↦ fits.time_windows k visit (sym (same-visit vehicle k other) ∙ here)
    ];
    driving_times = λ k this next here there.
        let before = old-visit vehicle k this here in
        let after = old-visit vehicle (k + 1) next there in
        let P : ℕ → ℕ → ℕ → Type 0 = λ from service to. IsSomeAnd (minutes from to) (λ drive. slice_index b k + service + drive ≤ slice_index b (k + 1)) in
        subst (λ (from : ℕ). P from this.service next.place) before.2
        (subst (λ (service : ℕ). P before.0.place service next.place) before.3
        (subst (λ (to : ℕ). P before.0.place before.0.service to) after.2
        (fits.driving_times k before.0 after.0 before.1 after.1)));
    ride_limits = λ m n pickup drop here there picks drops same.
        let first = old-stop m pickup here in
        let last = old-stop n drop there in
        let kept = fits.ride_limits m n first.0 last.0 first.1 last.1
        (subst (λ (kind : StopKind). IsTrue (takes_aboard kind)) (sym first.2.kind) picks)
        (subst (λ (kind : StopKind). IsTrue (lets_leave kind)) (sym last.2.kind) drops)
        (first.2.trip ∙ same ∙ sym last.2.trip) in
        omega (arith, kept, first.2.service, first.2.ride);
    route_duration =
        let count = same-length asked window i j stops drop_later among in
        subst (λ (n : ℕ). slice_index b (n + 1) - slice_index b 0 ≤ vehicle.duration) (sym count) fits.route_duration;
  }

-- a load counts by its kind of stop alone
step-load : (b c : Bool) (x y : Stop) (xs ys : List Stop) → b ≡ c → x.load ≡ y.load → total_load xs ≡ total_load ys →
    total_load (cond b (x ∷ xs) xs) ≡ total_load (cond c (y ∷ ys) ys)
step-load true true x y xs ys same load rest = cc
step-load true false x y xs ys same load rest = absurd (false≢true (sym same))
step-load false true x y xs ys same load rest = absurd (false≢true same)
step-load false false x y xs ys same load rest = rest

same-load : (test : Stop → Bool) (front rest : List Stop) (old new : Stop) (k : ℕ) → test old ≡ test new → old.load ≡ new.load →
    total_load (filter test (take k (front ++ old ∷ rest))) ≡ total_load (filter test (take k (front ++ new ∷ rest)))
same-load test [] rest old new zero kind load = refl
same-load test [] rest old new (suc k) kind load =
    step-load (test old) (test new) old new (filter test (take k rest)) (filter test (take k rest)) kind load refl
same-load test (x ∷ front) rest old new zero kind load = refl
same-load test (x ∷ front) rest old new (suc k) kind load =
    step-load (test x) (test x) x x _ _ refl refl (same-load test front rest old new k kind load)

with_trip-split : (asked : Asked) (i j : ℕ) (stops : List Stop) → with_trip asked i j stops
    ≡ take i stops ++ pickup_stop asked ∷ (drop i (take j stops) ++ drop_stop asked ∷ drop j stops)
unfolding with_trip
with_trip-split asked i j stops =
    append_assoc (take i stops) (pickup_stop asked ∷ drop i (take j stops)) (drop_stop asked ∷ drop j stops)

-- loads that fit still fit
pub moved-loads : (asked : Asked) (window : Window) (i j : ℕ) (stops : List Stop) → i ≤ j → j ≤ length stops → (vehicle : Vehicle) →
    LoadsFit vehicle (with_trip asked i j stops) → LoadsFit vehicle (with_trip (moved asked window) i j stops)
moved-loads asked window i j stops drop_later among vehicle fits = λ k within.
    let count = same-length asked window i j stops drop_later among in
    let rest = drop i (take j stops) ++ drop_stop asked ∷ drop j stops in
    let old = pickup_stop asked in
    let new = pickup_stop (moved asked window) in
    let first : total_load (filter is_pickup (take k (with_trip asked i j stops))) ≡ total_load (filter is_pickup (take k (with_trip (moved asked window) i j stops))) =
    rw (with_trip-split asked i j stops, with_trip-split (moved asked window) i j stops) (same-load is_pickup (take i stops) rest old new k refl refl) in
    let last : total_load (filter is_drop (take k (with_trip asked i j stops))) ≡ total_load (filter is_drop (take k (with_trip (moved asked window) i j stops))) =
    rw (with_trip-split asked i j stops, with_trip-split (moved asked window) i j stops) (same-load is_drop (take i stops) rest old new k refl refl) in
    let same : load_aboard (take k (with_trip asked i j stops)) ≡ load_aboard (take k (with_trip (moved asked window) i j stops)) =
    ap (λ (load : Load). load_difference load (total_load (filter is_drop (take k (with_trip asked i j stops))))) first
    ∙ ap (load_difference (total_load (filter is_pickup (take k (with_trip (moved asked window) i j stops))))) last in
    subst (λ (load : Load). FitsWithin load vehicle) same (fits k (omega arith))

-- the least schedule that begins the pickup in a narrower window is the least of that window
pub moved-least : (minutes : ℕ → ℕ → Option ℕ) (vehicle : Vehicle) (asked : Asked) (window : Window) (i j : ℕ) (stops : List Stop) (b : List ℕ) →
    i ≤ j → j ≤ length stops → IsLeastSchedule minutes vehicle (with_trip asked i j stops) b →
    window.from ≤ slice_index b (i + 1) → slice_index b (i + 1) ≤ window.to → asked.lo ≤ window.from → window.to ≤ asked.hi →
    IsLeastSchedule minutes vehicle (with_trip (moved asked window) i j stops) b
moved-least minutes vehicle asked window i j stops b drop_later among least low high from to = record {
  fits = moved-fits asked window i j stops drop_later among minutes vehicle b least.fits low high;
  least = λ other fit.
      let visit = stop_visit (pickup_stop (moved asked window)) in
      let inside = fit.time_windows (i + 1) visit (pickup-visit vehicle (moved asked window) i j stops drop_later among) in
      least.least other (moved-fits (moved asked window) (record { from = asked.lo; to = asked.hi }) i j stops drop_later among
      minutes vehicle other fit (omega (arith, inside.0)) (omega (arith, inside.1)));
}
