-- The route of a vehicle that does not work in the wished window has no place for the trip.
use Rattle.std.proofs.Common.{◌≡◌, ℕ, zero, suc, ◌+◌, ◌-◌, ◌<◌, ◌≤◌, ◌⊎◌, max, min, Bool, true, false, List, [], ◌∷◌, ◌++◌, map, length, Option, Some, None}
use Rattle.std.proofs.Common.{Any, All, AllPairs, IsSomeAnd, slice_get, slice_index, get_or, inl, inr, arith, refl, sym, subst, ap, ◌∙◌, add-one}
use Rattle.std.proofs.lemmas.Bool.{and_from, le-leb, true≢false}
use Rattle.std.proofs.lemmas.List.{length-map, get_or-map}
use Rattle.std.proofs.lemmas.Option.{slice_get_within}
use Rattle.pt_base_values.specs.declared.rule.Rule.{Rule}
use Rattle.pt_base_values.specs.declared.rule.Rule.TheVariants.{NoVehicle}
use Rattle.pt_base_values.specs.declared.trip.Trip.{Trip}
use Rattle.pt_base_values.specs.declared.trip.Wish.{Wish}
use Rattle.pt_base_values.specs.declared.vehicle.Vehicle.{Vehicle}
use Rattle.pt_desk_booking.specs.Booking.{IsNewRoute, IsTripOf}
use Rattle.pt_desk_booking.specs.Planning.{OnDuty, asked_for, asked_of, booking_rules, SomeVehicleCan}
use Rattle.pt_desk_booking.specs.Request.{Request}
use Rattle.pt_desk_booking.specs.Rules.{IsFirstFailing, riders_rules}
use Rattle.pt_desk_booking.specs.Window.{wished_window}
use Rattle.pt_feasible.proofs.LoadLemmas.{element_within}
use Rattle.pt_feasible.proofs.VisitLemmas.{length-visits, visits-stop}
use Rattle.pt_feasible.specs.ServiceTimes.{KeepsDrivingTimes, TimesFit}
use Rattle.pt_feasible.specs.Visit.{depot_visit, stop_visit, visits}
use Rattle.pt_feasible.specs.declared.stop.Stop.{Stop}
use Rattle.pt_insertion_search.proofs.InsertionLemmas.{with_trip_pickup}
use Rattle.pt_insertion_search.specs.Asked.{pickup_stop}
use Rattle.pt_insertion_search.specs.Choice.{IsBestIn, IsChosenIn}
use Rattle.pt_insertion_search.specs.Insertion.{with_trip, IsWithout}
use Rattle.pt_insertion_search.specs.Possible.{IsPossible}
use Rattle.pt_insertion_search.specs.declared.asked.Asked.{Asked}
use Rattle.pt_insertion_search.specs.declared.chosen.Chosen.{Chosen}
use Rattle.pt_desk_scheduling.specs.Plan.{Plan}
use Rattle.pt_desk_scheduling.specs.Routes.{IsRoute}
use Rattle.pt_desk_scheduling.specs.Scheduling.{AreRoutes, IsBookedAt, IsBookedIn, IsPlanWith, IsScheduled}
use Rattle.pt_desk_scheduling.specs.declared.scheduling.Scheduled.{Scheduled}
use Rattle.pt_desk_scheduling.specs.declared.scheduling.Scheduled.TheVariants.{Booked, Denied}
use Rattle.pt_desk_rules.proofs.TourLemmas.{within_last}
use Rattle.pt_desk_store.specs.Wished.{works_in_window}

-- a drive takes no minute back
not_before : (way : Option ℕ) (begin service end : ℕ) → IsSomeAnd way (λ drive. begin + service + drive ≤ end) → begin ≤ end
not_before None begin service end driven = absurd driven
not_before (Some drive) begin service end driven = omega (arith, driven)

-- service times never fall
rising : (minutes : ℕ → ℕ → Option ℕ) (vehicle : Vehicle) (stops : List Stop) (b : List ℕ) → KeepsDrivingTimes minutes (visits vehicle stops) b
    → (k n : ℕ) → k + n < length stops + 2 → slice_index b k ≤ slice_index b (k + n)
rising minutes vehicle stops b keeps k zero within =
    let same : k + zero ≡ k = omega arith in
    subst (λ (m : ℕ). slice_index b k ≤ slice_index b m) (sym same) (omega arith)
rising minutes vehicle stops b keeps k (suc n) within =
    let all = visits vehicle stops in
    let count = length-visits vehicle stops in
    let (here, at) = element_within all (k + n) (omega (arith, count, within)) in
    let (next, there) = element_within all (k + n + 1) (omega (arith, count, within)) in
    let earlier = rising minutes vehicle stops b keeps k n (omega (arith, within)) in
    let step = not_before (minutes here.place next.place) (slice_index b (k + n)) here.service (slice_index b (k + n + 1)) (keeps (k + n) here next at there) in
    let same : k + suc n ≡ k + n + 1 = omega arith in
    subst (λ (m : ℕ). slice_index b k ≤ slice_index b m) (sym same) (omega (arith, earlier, step))

-- each stop is served between the vehicle's opening and its closing
pub within_hours : (minutes : ℕ → ℕ → Option ℕ) (vehicle : Vehicle) (stops : List Stop) (b : List ℕ) → TimesFit minutes vehicle stops b
    → (k : ℕ) (stop : Stop) → slice_get stops k ≡ Some stop → (stop.lo ≤ vehicle.closes) × (vehicle.opens ≤ stop.hi)
within_hours minutes vehicle stops b fits k stop at =
    let within = slice_get_within stops k stop at in
    let window = fits.time_windows (suc k) (stop_visit stop) (visits-stop vehicle stops k stop at) in
    let opened = fits.time_windows zero (depot_visit vehicle) refl in
    let closed = within_last vehicle stops b (length stops) refl fits.time_windows in
    let next : zero + suc k ≡ suc k = omega arith in
    let before = subst (λ (m : ℕ). slice_index b zero ≤ slice_index b m) next (rising minutes vehicle stops b fits.driving_times zero (suc k) (omega (arith, within))) in
    let rest : ℕ = length stops - k in
    let after = rising minutes vehicle stops b fits.driving_times (suc k) rest (omega (arith, within)) in
    let last : suc k + rest ≡ length stops + 1 = omega (arith, within) in
    let ends = subst (λ (m : ℕ). slice_index b (suc k) ≤ slice_index b m) last after in
    (omega (arith, window.0, ends, closed), omega (arith, opened.0, before, window.1))

works : (wish : Wish) (vehicle : Vehicle) → ((wished_window wish.pickup).from ≤ vehicle.closes) × (vehicle.opens ≤ (wished_window wish.pickup).to)
    → works_in_window wish vehicle ≡ true
works wish vehicle (from, to) = and_from _ _ (le-leb _ _ to) (le-leb _ _ from)

never_both : {A : Type 0} (b : Bool) → b ≡ true → b ≡ false → A
never_both b is not_so = absurd (true≢false (sym is ∙ not_so))

-- no place is possible in the route of a vehicle that does not work in the window
no_place : (minutes : ℕ → ℕ → Option ℕ) (vehicle : Vehicle) (stops : List Stop) (request : Request) (i j : ℕ)
    → works_in_window request.wish vehicle ≡ false → ¬ IsPossible minutes vehicle stops (asked_for minutes request) i j
no_place minutes vehicle stops request i j off possible =
    let asked = asked_for minutes request in
    let (b, fits) = possible.times in
    let at = with_trip_pickup asked i j stops possible.drop_later possible.among in
    let hours = within_hours minutes vehicle (with_trip asked i j stops) b fits i (pickup_stop asked) at in
    never_both (works_in_window request.wish vehicle) (works request.wish vehicle hours) off

first_pickup : (asked : Asked) (i j : ℕ) → slice_get (with_trip asked i j []) zero ≡ Some (pickup_stop asked)
unfolding with_trip
first_pickup asked zero j = refl
first_pickup asked (suc i) j = refl

-- such a vehicle without stops gets no new route
no_new_route : (minutes : ℕ → ℕ → Option ℕ) (vehicle : Vehicle) (request : Request) (trip : Trip) (chosen : Chosen) (stops : List Stop)
    → works_in_window request.wish vehicle ≡ false → IsTripOf minutes request chosen trip
    → ¬ IsNewRoute minutes (record { vehicle = vehicle; stops = [] }) trip chosen stops
no_new_route minutes vehicle request trip chosen stops off own new =
    let asked = asked_of trip in
    let all = with_trip asked chosen.i chosen.j [] in
    let fits = subst (λ (s : List Stop). TimesFit minutes vehicle s chosen.schedule.items) new.stops_with_trip new.schedule.fits in
    let hours = within_hours minutes vehicle all chosen.schedule.items fits zero (pickup_stop asked) (first_pickup asked chosen.i chosen.j) in
    let from : (wished_window request.wish.pickup).from ≤ vehicle.closes = omega (arith, hours.0, own.window_from) in
    let to : vehicle.opens ≤ (wished_window request.wish.pickup).to = omega (arith, hours.1, own.window_to) in
    never_both (works_in_window request.wish vehicle) (works request.wish vehicle (from, to)) off

-- a vehicle with its stops
abbrev pub duty_by : (Vehicle → List Stop) → Vehicle → OnDuty
duty_by stops vehicle = record { vehicle = vehicle; stops = stops vehicle }

-- the vehicle has the same stops by both, or it has none by the first and does not work in the window
abbrev pub IsAlike : Wish → (Vehicle → List Stop) → (Vehicle → List Stop) → Vehicle → Type 0
IsAlike wish one other vehicle =
    (one vehicle ≡ other vehicle) ⊎ ((one vehicle ≡ []) × (works_in_window wish vehicle ≡ false))

any_alike : (f g : Vehicle → OnDuty) (P R : OnDuty → Type 0) (vehicles : List Vehicle)
    → ((k : ℕ) (d : Vehicle) → k < length vehicles → P (f (get_or vehicles k d)) → R (g (get_or vehicles k d))) → Any P (map f vehicles) → Any R (map g vehicles)
any_alike f g P R vehicles gives (k, x, within, at, holds) =
    let inside : k < length vehicles = omega (arith, length-map vehicles f, within) in
    let d = x.vehicle in
    let here : P (f (get_or vehicles k d)) = subst P (sym at ∙ get_or-map f vehicles k d x inside) holds in
    let y = g (get_or vehicles k d) in
    (k, y, omega (arith, length-map vehicles g, inside), get_or-map g vehicles k d y inside, gives k d inside here)

pub all_alike : (f g : Vehicle → OnDuty) (P R : OnDuty → Type 0) (vehicles : List Vehicle)
    → ((k : ℕ) (d : Vehicle) → k < length vehicles → P (f (get_or vehicles k d)) → R (g (get_or vehicles k d))) → All P (map f vehicles) → All R (map g vehicles)
all_alike f g P R vehicles gives all = λ k x within.
    let inside : k < length vehicles = omega (arith, length-map vehicles g, within) in
    let d = x.vehicle in
    let here : P (f (get_or vehicles k d)) = subst P (get_or-map f vehicles k d x inside) (all k x (omega (arith, length-map vehicles f, inside))) in
    subst R (sym (get_or-map g vehicles k d x inside)) (gives k d inside here)

pub pairs_alike : (f g : Vehicle → OnDuty) (vehicles : List Vehicle) → ((v : Vehicle) → (f v).vehicle ≡ (g v).vehicle)
    → AllPairs (λ first second. first.vehicle.id < second.vehicle.id) (map f vehicles) → AllPairs (λ first second. first.vehicle.id < second.vehicle.id) (map g vehicles)
pairs_alike f g vehicles same all = λ j k x before within.
    let inside : k < length vehicles = omega (arith, length-map vehicles g, within) in
    let under : j < length vehicles = omega (arith, before, inside) in
    let d = x.vehicle in
    let one = ap (λ (o : OnDuty). o.vehicle.id) (get_or-map f vehicles j d x under) ∙ ap (λ (v : Vehicle). v.id) (same (get_or vehicles j d)) ∙ sym (ap (λ (o : OnDuty). o.vehicle.id) (get_or-map g vehicles j d x under)) in
    let two = ap (λ (o : OnDuty). o.vehicle.id) (get_or-map f vehicles k d x inside) ∙ ap (λ (v : Vehicle). v.id) (same (get_or vehicles k d)) ∙ sym (ap (λ (o : OnDuty). o.vehicle.id) (get_or-map g vehicles k d x inside)) in
    omega (arith, all j k x before (omega (arith, length-map vehicles f, inside)), one, two)

no_stop : {A : Type 0} (k : ℕ) (x : A) → slice_get [] k ≡ Some x → ⊥
no_stop k x at = absurd (cc)

pub empty_route : (stops : List Stop) → stops ≡ [] → IsRoute stops
empty_route stops none = subst IsRoute (sym none) (record {
  few = omega arith;
  paired = record {
    in_order = λ i j first second before at there same. absurd (no_stop i first at);
    complete = λ i stop at. absurd (no_stop i stop at);
  };
})

pub empty_without : (trip : ℕ) (stops : List Stop) → stops ≡ [] → IsWithout trip stops
empty_without trip stops none = subst (IsWithout trip) (sym none) (λ k stop at same. no_stop k stop at)

-- the last rule may be said in another way
last_rule : (rules : List (Rule × Type 0)) (name : Rule) (P R : Type 0) (found : Option Rule) → (P → R) → (R → P)
    → IsFirstFailing (rules ++ (name, P) ∷ []) found → IsFirstFailing (rules ++ (name, R) ∷ []) found
last_rule [] name P R found to back first = elim first [
  | inl here ↦ inl ((λ r. here.0 (back r)), here.1)
  | inr later ↦ inr (to later.0, later.1)
]
last_rule (rule ∷ rules) name P R found to back first = elim first [
  | inl here ↦ inl here
  | inr later ↦ inr (later.0, last_rule rules name P R found to back later.1)
]

module _ (minutes : ℕ → ℕ → Option ℕ) (request : Request) (one other : Vehicle → List Stop) (vehicles : List Vehicle)
    (alike : All (IsAlike request.wish one other) vehicles) where
  abbrev ones : List OnDuty
  ones = map (duty_by one) vehicles

  abbrev others : List OnDuty
  others = map (duty_by other) vehicles

  can_to : SomeVehicleCan minutes ones (asked_for minutes request) → SomeVehicleCan minutes others (asked_for minutes request)
  can_to can = any_alike (duty_by one) (duty_by other)
      (λ d. (i : ℕ) × (j : ℕ) × IsPossible minutes d.vehicle d.stops (asked_for minutes request) i j)
      (λ d. (i : ℕ) × (j : ℕ) × IsPossible minutes d.vehicle d.stops (asked_for minutes request) i j) vehicles
      (λ k d within (i, j, possible). elim (alike k d within) [
        | inl same ↦ (i, j, subst (λ s. IsPossible minutes (get_or vehicles k d) s (asked_for minutes request) i j) same possible)
        | inr off ↦ absurd (no_place minutes (get_or vehicles k d) (one (get_or vehicles k d)) request i j off.1 possible)
      ]) can

  can_back : SomeVehicleCan minutes others (asked_for minutes request) → SomeVehicleCan minutes ones (asked_for minutes request)
  can_back can = any_alike (duty_by other) (duty_by one)
      (λ d. (i : ℕ) × (j : ℕ) × IsPossible minutes d.vehicle d.stops (asked_for minutes request) i j)
      (λ d. (i : ℕ) × (j : ℕ) × IsPossible minutes d.vehicle d.stops (asked_for minutes request) i j) vehicles
      (λ k d within (i, j, possible). elim (alike k d within) [
        | inl same ↦ (i, j, subst (λ s. IsPossible minutes (get_or vehicles k d) s (asked_for minutes request) i j) (sym same) possible)
        | inr off ↦ absurd (no_place minutes (get_or vehicles k d) (other (get_or vehicles k d)) request i j off.1 possible)
      ]) can

  rules_to : (found : Option Rule) → IsFirstFailing (booking_rules minutes ones request) found → IsFirstFailing (booking_rules minutes others request) found
  rules_to found first = last_rule (riders_rules request) NoVehicle (SomeVehicleCan minutes ones (asked_for minutes request))
      (SomeVehicleCan minutes others (asked_for minutes request)) found can_to can_back first

  routes_back : AreRoutes request.trip others → AreRoutes request.trip ones
  routes_back are = record {
    rising = pairs_alike (duty_by other) (duty_by one) vehicles (λ v. refl) are.rising;
    routes = all_alike (duty_by other) (duty_by one) (λ d. IsRoute d.stops) (λ d. IsRoute d.stops) vehicles
        (λ k d within route. elim (alike k d within) [ inl same ↦ subst IsRoute (sym same) route | inr off ↦ empty_route _ off.0 ]) are.routes;
    new_trip = all_alike (duty_by other) (duty_by one) (λ d. IsWithout request.trip d.stops) (λ d. IsWithout request.trip d.stops) vehicles
        (λ k d within new. elim (alike k d within) [ inl same ↦ subst (IsWithout request.trip) (sym same) new | inr off ↦ empty_without request.trip _ off.0 ]) are.new_trip;
  }

  booked_to : (trip : Trip) (plan : Plan) (chosen : Chosen) → IsBookedAt minutes ones request trip plan chosen → IsBookedAt minutes others request trip plan chosen
  booked_to trip plan chosen booked = record {
    best = record {
      possible = any_alike (duty_by one) (duty_by other) (λ d. IsChosenIn minutes d.vehicle d.stops (asked_for minutes request) chosen)
          (λ d. IsChosenIn minutes d.vehicle d.stops (asked_for minutes request) chosen) vehicles
          (λ k d within is. elim (alike k d within) [
            | inl same ↦ subst (λ s. IsChosenIn minutes (get_or vehicles k d) s (asked_for minutes request) chosen) same is
            | inr off ↦ absurd (no_place minutes (get_or vehicles k d) (one (get_or vehicles k d)) request chosen.i chosen.j off.1 is.possible)
          ]) booked.best.possible;
      least = all_alike (duty_by one) (duty_by other) (λ d. IsBestIn minutes d.vehicle d.stops (asked_for minutes request) chosen)
          (λ d. IsBestIn minutes d.vehicle d.stops (asked_for minutes request) chosen) vehicles
          (λ k d within least. elim (alike k d within) [
            | inl same ↦ subst (λ s. IsBestIn minutes (get_or vehicles k d) s (asked_for minutes request) chosen) same least
            | inr off ↦ λ i j possible. absurd (no_place minutes (get_or vehicles k d) (other (get_or vehicles k d)) request i j off.1 possible)
          ]) booked.best.least;
    };
    trip_of = booked.trip_of;
    plan_of = any_alike (duty_by one) (duty_by other) (λ d. IsPlanWith minutes d trip chosen plan) (λ d. IsPlanWith minutes d trip chosen plan) vehicles
        (λ k d within with. elim (alike k d within) [
          | inl same ↦ subst (λ s. IsPlanWith minutes (record { vehicle = get_or vehicles k d; stops = s }) trip chosen plan) same with
          | inr off ↦ absurd (no_new_route minutes (get_or vehicles k d) request trip chosen with.0 off.1 booked.trip_of
              (subst (λ s. IsNewRoute minutes (record { vehicle = get_or vehicles k d; stops = s }) trip chosen with.0) off.0 with.1))
        ]) booked.plan_of;
  }

  -- what is scheduled with the stops that the vehicles have by the first is scheduled with those by the other
  pub scheduled_to : (scheduled : Scheduled) → IsScheduled minutes ones request scheduled → IsScheduled minutes others request scheduled
  scheduled_to (Denied rule) is = elim is [
    | inl first ↦ inl (rules_to (Some rule) first)
    | inr off ↦ inr ((λ are. off.0 (routes_back are)), off.1)
  ]
  scheduled_to (Booked trip plan) (first, (chosen, booked)) = (rules_to None first, (chosen, booked_to trip plan chosen booked))
