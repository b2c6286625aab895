-- Plans that are routes stay so: without a trip, and with the trip that is booked.
use Rattle.std.proofs.Common.{◌≡◌, ℕ, ◌<◌, ◌≤◌, zero, suc, Bool, true, false, not, List, [], ◌∷◌, ◌++◌, length, map}
use Rattle.std.proofs.Common.{take, drop, Option, Some, None, AllPairs, get_or, cond, refl, sym, ap, ◌∙◌, subst, inl}
use Rattle.std.proofs.Common.{inr, arith}
use Rattle.std.specs.Prelude.{◌==◌, ◌||◌, filter, find}
use Rattle.std.proofs.lemmas.Bool.{or_cases, or_left, or_right}
use Rattle.std.proofs.lemmas.Bool.Decides.{nat_tests}
use Rattle.std.proofs.lemmas.Map.Views.{any-filter_same}
use Rattle.std.proofs.lemmas.List.{length-map, get_or-map, take-append-drop}
use Rattle.std.proofs.lemmas.List.Elements.{All-map, filter-append}
use Rattle.std.proofs.lemmas.List.Folds.{list_any-from_Any}
use Rattle.std.specs.List.{list_any}
use Rattle.pt_base_values.specs.TripStatus.{stands}
use Rattle.pt_base_values.specs.declared.trip.Trip.{Trip}
use Rattle.pt_base_values.specs.declared.vehicle.Vehicle.{Vehicle}
use Rattle.pt_desk_booking.specs.Planning.{OnDuty, asked_for, asked_of}
use Rattle.pt_desk_booking.specs.Request.{Request}
use Rattle.pt_feasible.specs.Pairing.{most_stops}
use Rattle.pt_feasible.specs.declared.stop.Stop.{Stop}
use Rattle.pt_feasible.specs.declared.stop.StopKind.{StopKind}
use Rattle.pt_insertion_search.specs.Insertion.{with_trip, IsWithout}
use Rattle.pt_insertion_search.specs.Asked.{pickup_stop, drop_stop}
use Rattle.pt_insertion_search.specs.declared.asked.Asked.{Asked}
use Rattle.pt_insertion_search.specs.declared.chosen.Chosen.{Chosen}
use Rattle.pt_insertion_search.proofs.InsertionLemmas.{length-with_trip}
use Rattle.pt_base_records.specs.Keys.{pair_key}
use Rattle.pt_base_records.specs.Records.{Each, record_at}
use Rattle.pt_base_records.proofs.TableLemmas.{same_or_other, length-filter}
use Rattle.pt_desk_scheduling.specs.Plan.{after_stop, trip_stop, Plan, plan_key, planned_stop, planned_stops, stops_among, stops_of_plan, stops_of_trip, without, IsPair, IsPlannedRoute, IsRoutePlan}
use Rattle.pt_desk_scheduling.specs.Routes.{routes_without, stops_without, IsRoute}
use Rattle.pt_desk_scheduling.specs.Scheduling.{AreRoutes, IsBookedIn}
use Rattle.pt_desk_scheduling.specs.declared.planned.PlannedStop.{PlannedStop}
use Rattle.pt_desk_scheduling.proofs.PlanLemmas.{among_kept_at, among_of_trip, eq_self, found_key, is_number, is_of, length-among, number_of, of_each, paired_among, stop_trip}

same_trip : (k t : ℕ) (stop : PlannedStop) (rest : List PlannedStop) (b : Bool) → k ≡ t → (stop.trip == t) ≡ b → stops_of_trip k rest ≡ [] → stops_of_trip k (cond (not b) (stop ∷ rest) rest) ≡ []
same_trip k t stop rest true same is none = none
same_trip k t stop rest false same is none =
    let other : (stop.trip == k) ≡ false = ap (λ (n : ℕ). stop.trip == n) same ∙ is in
    ap (λ b. cond b (stop ∷ stops_of_trip k rest) (stops_of_trip k rest)) other ∙ none

-- without a trip, no stop of it is left
none_left : (k t : ℕ) → k ≡ t → (stops : List PlannedStop) → stops_of_trip k (without t stops) ≡ []
none_left k t same [] = refl
none_left k t same (stop ∷ later) = same_trip k t stop (without t later) (stop.trip == t) same refl (none_left k t same later)

is_no_other : (n t k : ℕ) → (n == t) ≡ true → (k ≡ t → ⊥) → (n == k) ≡ false
is_no_other n t k same other = grind (arith, nat_tests)

other_trip : (k t : ℕ) (stop : PlannedStop) (rest all : List PlannedStop) (b : Bool) → (k ≡ t → ⊥) → (stop.trip == t) ≡ b → stops_of_trip k rest ≡ stops_of_trip k all
    → stops_of_trip k (cond (not b) (stop ∷ rest) rest) ≡ stops_of_trip k (stop ∷ all)
other_trip k t stop rest all true other is same =
    same ∙ sym (ap (λ b. cond b (stop ∷ stops_of_trip k all) (stops_of_trip k all)) (is_no_other stop.trip t k is other))
other_trip k t stop rest all false other is same = ap (λ xs. cond (stop.trip == k) (stop ∷ xs) xs) same

-- and all stops of the other trips are left
others_left : (k t : ℕ) → (k ≡ t → ⊥) → (stops : List PlannedStop) → stops_of_trip k (without t stops) ≡ stops_of_trip k stops
others_left k t other [] = refl
others_left k t other (stop ∷ later) = other_trip k t stop (without t later) later (stop.trip == t) other refl (others_left k t other later)

-- a route without a trip is a route
pub left_route : (trip : ℕ) (stops : List PlannedStop) → IsPlannedRoute stops → IsPlannedRoute (without trip stops)
left_route trip stops route = record {
  few = let fewer = length-filter (λ (stop : PlannedStop). not (stop.trip == trip)) stops in omega (arith, route.few, fewer);
  paired = λ k. elim (same_or_other k trip) [
    | inl same ↦ subst IsPair (sym (none_left k trip same stops)) tt
    | inr other ↦ subst IsPair (sym (others_left k trip other stops)) (route.paired k)
  ];
}

-- a plan that is a route makes a route of the trips that are there
pub among_route : (trips : List Trip) (stops : List PlannedStop) → IsPlannedRoute stops → IsRoute (stops_among trips stops)
among_route trips stops route = record {
  few = let fewer = length-among trips stops in omega (arith, route.few, fewer);
  paired = paired_among trips stops route.paired;
}

no_route : IsPlannedRoute []
no_route = record { few = omega arith; paired = λ k. tt }

found_in : {A : Type 0} (P : A → Type 0) (test : A → Bool) (a x : A) (xs : List A) (b : Bool) → test x ≡ b → P x → (find test xs ≡ Some a → P a) → cond b (Some x) (find test xs) ≡ Some a → P a
found_in P test a x xs true is holds rest found = let same : x ≡ a = cc in subst P same holds
found_in P test a x xs false is holds rest found = rest found

-- what holds of each record holds of one that is found
pub Each-found : {A : Type 0} (P : A → Type 0) (key : A → ℕ) (k : ℕ) (a : A) (xs : List A) → Each P xs → record_at key k xs ≡ Some a → P a
Each-found P key k a [] each found = absurd (cc)
Each-found P key k a (x ∷ xs) each found = found_in P (λ y. key y == k) a x xs (key x == k) refl each.0 (Each-found P key k a xs each.1) found

pub route_found : (found : Option Plan) → ((plan : Plan) → found ≡ Some plan → IsRoutePlan plan) → IsPlannedRoute (stops_of_plan found)
route_found None each = no_route
route_found (Some plan) each = each plan refl

-- the stops of a vehicle on a day are a route
pub planned_route : (vehicle day : ℕ) (plans : List Plan) → Each IsRoutePlan plans → IsPlannedRoute (planned_stops vehicle day plans)
planned_route vehicle day plans each =
    route_found (record_at plan_key (pair_key vehicle day) plans) (λ plan found. Each-found IsRoutePlan plan_key (pair_key vehicle day) plan plans each found)

without_route : (trip day : ℕ) (trips : List Trip) (plans : List Plan) (vehicle : ℕ) → Each IsRoutePlan plans → IsRoute (stops_without trip day trips plans vehicle)
without_route trip day trips plans vehicle each = among_route trips _ (left_route trip (planned_stops vehicle day plans) (planned_route vehicle day plans each))

without_trip : (trip day : ℕ) (trips : List Trip) (plans : List Plan) (vehicle : ℕ) → IsWithout trip (stops_without trip day trips plans vehicle)
without_trip trip day trips plans vehicle =
    λ k stop at same. among_kept_at trip trips (without trip (planned_stops vehicle day plans)) k stop (none_left trip trip refl (planned_stops vehicle day plans)) at same

AllPairs-map : {X Y : Type 0} (R : Y → Y → Type 0) (f : X → Y) (back : Y → X) (xs : List X) → AllPairs (λ x y. R (f x) (f y)) xs → AllPairs R (map f xs)
AllPairs-map R f back xs all = λ j k y before within.
    let inside : k < length xs = omega (arith, length-map xs f, within) in
    subst (λ y'. R y' (get_or (map f xs) k y)) (sym (get_or-map f xs j (back y) y (omega (arith, before, inside))))
    (subst (R (f (get_or xs j (back y)))) (sym (get_or-map f xs k (back y) y inside)) (all j k (back y) before inside))

-- the vehicles of a day have routes
pub are_routes : (trip day : ℕ) (trips : List Trip) (plans : List Plan) (vehicles : List Vehicle) → Each IsRoutePlan plans → AllPairs (λ first second. first.id < second.id) vehicles
    → AreRoutes trip (routes_without trip day trips plans vehicles)
are_routes trip day trips plans vehicles each rising =
    let duty : Vehicle → OnDuty = λ vehicle. record { vehicle = vehicle; stops = stops_without trip day trips plans vehicle.id } in record {
      rising = AllPairs-map (λ first second. first.vehicle.id < second.vehicle.id) duty (λ there. there.vehicle) vehicles rising;
      routes = All-map (λ there. IsRoute there.stops) duty vehicles (λ k vehicle within. without_route trip day trips plans (get_or vehicles k vehicle).id each);
      new_trip = All-map (λ there. IsWithout trip there.stops) duty vehicles (λ k vehicle within. without_trip trip day trips plans (get_or vehicles k vehicle).id);
    }

mapped : (k : ℕ) (x : Stop) (xs : List Stop) (b : Bool) → cond b (planned_stop x ∷ map planned_stop xs) (map planned_stop xs) ≡ map planned_stop (cond b (x ∷ xs) xs)
mapped k x xs true = refl
mapped k x xs false = refl

map_of_trip : (k : ℕ) (xs : List Stop) → stops_of_trip k (map planned_stop xs) ≡ map planned_stop (filter (is_of k) xs)
map_of_trip k [] = refl
map_of_trip k (x ∷ xs) = ap (λ ys. cond (x.trip == k) (planned_stop x ∷ ys) ys) (map_of_trip k xs) ∙ mapped k x (filter (is_of k) xs) (x.trip == k)

nil_parts : {X : Type 0} (xs ys : List X) → xs ++ ys ≡ [] → (xs ≡ []) × (ys ≡ [])
nil_parts [] ys none = (refl, none)
nil_parts (x ∷ xs) ys none = absurd (cc)

no_parts : {X : Type 0} (test : X → Bool) (n : ℕ) (xs : List X) → filter test xs ≡ [] → (filter test (take n xs) ≡ []) × (filter test (drop n xs) ≡ [])
no_parts test n xs none = nil_parts (filter test (take n xs)) (filter test (drop n xs)) (sym (filter-append test (take n xs) (drop n xs)) ∙ ap (filter test) (take-append-drop n xs) ∙ none)

-- a list in three parts
parts : {X : Type 0} (i j : ℕ) (xs : List X) → i ≤ j → (take i xs ++ drop i (take j xs)) ++ drop j xs ≡ xs
parts zero j xs le = take-append-drop j xs
parts (suc i) zero xs le = absurd (omega arith)
parts (suc i) (suc j) [] le = refl
parts (suc i) (suc j) (x ∷ xs) le = ap (λ ys. x ∷ ys) (parts i j xs (omega arith))

filter-three : {X : Type 0} (test : X → Bool) (xs ys zs : List X) → filter test ((xs ++ ys) ++ zs) ≡ (filter test xs ++ filter test ys) ++ filter test zs
filter-three test xs ys zs = filter-append test (xs ++ ys) zs ∙ ap (λ front. front ++ filter test zs) (filter-append test xs ys)

filter_parts : {X : Type 0} (test : X → Bool) (i j : ℕ) (xs : List X) → i ≤ j → (filter test (take i xs) ++ filter test (drop i (take j xs))) ++ filter test (drop j xs) ≡ filter test xs
filter_parts test i j xs le = sym (filter-three test (take i xs) (drop i (take j xs)) (drop j xs)) ∙ ap (filter test) (parts i j xs le)

abbrev two_stops : Asked → List Stop
two_stops asked = pickup_stop asked ∷ drop_stop asked ∷ []

filter-with_trip : (test : Stop → Bool) (asked : Asked) (i j : ℕ) (xs : List Stop) → filter test (with_trip asked i j xs)
    ≡ (filter test (take i xs) ++ filter test (pickup_stop asked ∷ drop i (take j xs))) ++ filter test (drop_stop asked ∷ drop j xs)
unfolding with_trip
filter-with_trip test asked i j xs = filter-three test (take i xs) (pickup_stop asked ∷ drop i (take j xs)) (drop_stop asked ∷ drop j xs)

first_passes : (test : Stop → Bool) (stop : Stop) (xs : List Stop) → test stop ≡ true → filter test (stop ∷ xs) ≡ stop ∷ filter test xs
first_passes test stop xs is = ap (λ b. cond b (stop ∷ filter test xs) (filter test xs)) is

first_fails : (test : Stop → Bool) (stop : Stop) (xs : List Stop) → test stop ≡ false → filter test (stop ∷ xs) ≡ filter test xs
first_fails test stop xs is = ap (λ b. cond b (stop ∷ filter test xs) (filter test xs)) is

joined : {X : Type 0} (xs ys zs a b c : List X) → xs ≡ a → ys ≡ b → zs ≡ c → (xs ++ ys) ++ zs ≡ (a ++ b) ++ c
joined xs ys zs a b c one two three = rw (one, two, three) refl

-- the route with the trip put in has the trip's two stops
own_stops : (asked : Asked) (k i j : ℕ) (xs : List Stop) → asked.trip ≡ k → filter (is_of k) xs ≡ [] → filter (is_of k) (with_trip asked i j xs) ≡ two_stops asked
own_stops asked k i j xs own none =
    let passes : (asked.trip == k) ≡ true = ap (λ (n : ℕ). n == k) own ∙ eq_self k in
    let upper = no_parts (is_of k) j xs none in
    let lower = no_parts (is_of k) i xs none in
    let middle = no_parts (is_of k) i (take j xs) upper.0 in
    filter-with_trip (is_of k) asked i j xs
    ∙ joined (filter (is_of k) (take i xs)) (filter (is_of k) (pickup_stop asked ∷ drop i (take j xs))) (filter (is_of k) (drop_stop asked ∷ drop j xs))
    [] (pickup_stop asked ∷ []) (drop_stop asked ∷ []) lower.0
    (first_passes (is_of k) (pickup_stop asked) (drop i (take j xs)) passes ∙ ap (λ ys. pickup_stop asked ∷ ys) middle.1)
    (first_passes (is_of k) (drop_stop asked) (drop j xs) passes ∙ ap (λ ys. drop_stop asked ∷ ys) upper.1)

is_not : (n k : ℕ) → (n ≡ k → ⊥) → (n == k) ≡ false
is_not n k other = grind (arith, nat_tests)

-- and of each other trip the stops that were there
other_stops : (asked : Asked) (k i j : ℕ) (xs : List Stop) → (asked.trip ≡ k → ⊥) → i ≤ j → filter (is_of k) (with_trip asked i j xs) ≡ filter (is_of k) xs
other_stops asked k i j xs other le =
    let fails = is_not asked.trip k other in
    filter-with_trip (is_of k) asked i j xs
    ∙ joined (filter (is_of k) (take i xs)) (filter (is_of k) (pickup_stop asked ∷ drop i (take j xs))) (filter (is_of k) (drop_stop asked ∷ drop j xs))
    (filter (is_of k) (take i xs)) (filter (is_of k) (drop i (take j xs))) (filter (is_of k) (drop j xs)) refl
    (first_fails (is_of k) (pickup_stop asked) (drop i (take j xs)) fails) (first_fails (is_of k) (drop_stop asked) (drop j xs) fails)
    ∙ filter_parts (is_of k) i j xs le

-- the stops of a route with one trip more are in pairs
pairs_with : (asked : Asked) (i j : ℕ) (trips : List Trip) (stops : List PlannedStop) (k : ℕ) → i ≤ j
    → ((trip : ℕ) → IsPair (stops_of_trip trip stops)) → filter (is_of asked.trip) (stops_among trips stops) ≡ []
    → IsPair (stops_of_trip k (map planned_stop (with_trip asked i j (stops_among trips stops))))
pairs_with asked i j trips stops k le paired none = subst IsPair (sym (map_of_trip k (with_trip asked i j (stops_among trips stops)))) (elim (same_or_other asked.trip k) [
  | inl own ↦ subst (λ xs. IsPair (map planned_stop xs))
      (sym (own_stops asked k i j (stops_among trips stops) own (subst (λ (n : ℕ). filter (is_of n) (stops_among trips stops) ≡ []) own none))) (refl, refl)
  | inr other ↦ subst (λ xs. IsPair (map planned_stop xs)) (sym (other_stops asked k i j (stops_among trips stops) other le)) (elim (of_each trips stops paired k) [
    | inl nothing ↦ subst (λ xs. IsPair (map planned_stop xs)) (sym nothing) tt
    | inr (trip, is, number) ↦ subst (λ xs. IsPair (map planned_stop xs)) (sym is) (refl, refl)
  ])
])

abbrev pub stops_there : ℕ → ℕ → List Trip → List Plan → Vehicle → List Stop
stops_there trip day trips plans vehicle = stops_without trip day trips plans vehicle.id

-- the route of the vehicle that is chosen is that of one of the vehicles
pub of_vehicle : (trip day : ℕ) (trips : List Trip) (plans : List Plan) (vehicles : List Vehicle) (k : ℕ) (there : OnDuty) → k < length (routes_without trip day trips plans vehicles)
    → get_or (routes_without trip day trips plans vehicles) k there ≡ there → there.stops ≡ stops_there trip day trips plans (get_or vehicles k there.vehicle)
of_vehicle trip day trips plans vehicles k there within at =
    let duty : Vehicle → OnDuty = λ vehicle. record { vehicle = vehicle; stops = stops_without trip day trips plans vehicle.id } in
    ap (λ (d : OnDuty). d.stops) (sym at ∙ get_or-map duty vehicles k there.vehicle there (omega (arith, length-map vehicles duty, within)))

booked_stops : (minutes : ℕ → ℕ → Option ℕ) (day : ℕ) (trips : List Trip) (plans : List Plan) (vehicles : List Vehicle) (request : Request) (trip : Trip) (plan : Plan) (chosen : Chosen)
    (old : List Stop) (vehicle : Vehicle) (stops : List Stop) → Each IsRoutePlan plans → trip.id ≡ request.trip → chosen.i ≤ chosen.j → old ≡ stops_there request.trip day trips plans vehicle
    → stops ≡ with_trip (asked_of trip) chosen.i chosen.j old → length stops ≤ most_stops → plan.stops ≡ map planned_stop stops → IsRoutePlan plan
booked_stops minutes day trips plans vehicles request trip plan chosen old vehicle stops each number le old_is is few plan_is = record {
  few = let same = length-map stops planned_stop in let here = ap (λ (xs : List PlannedStop). length xs) plan_is in omega (arith, few, same, here);
  paired = λ k.
      let left = planned_stops vehicle.id day plans in
      subst (λ xs. IsPair (stops_of_trip k xs))
      (sym (plan_is ∙ ap (map planned_stop) (is ∙ ap (with_trip (asked_of trip) chosen.i chosen.j) old_is)))
      (pairs_with (asked_of trip) chosen.i chosen.j trips (without request.trip left) k le (left_route request.trip left (planned_route vehicle.id day plans each)).paired
      (among_of_trip trip.id trips (without request.trip left) ∙ ap (stops_among trips) (none_left trip.id request.trip number left)));
}

-- the plan of a trip that is booked is a route
pub booked_route : (minutes : ℕ → ℕ → Option ℕ) (day : ℕ) (trips : List Trip) (plans : List Plan) (vehicles : List Vehicle) (request : Request) (trip : Trip) (plan : Plan)
    → Each IsRoutePlan plans → IsBookedIn minutes (routes_without request.trip day trips plans vehicles) request trip plan → IsRoutePlan plan
booked_route minutes day trips plans vehicles request trip plan each (chosen, booked) =
    let (k, there, within, at, is_chosen) = booked.best.possible in
    let (l, duty, below, at, (stops, new, plan_is)) = booked.plan_of in
    let old = length-with_trip (asked_for minutes request) chosen.i chosen.j there.stops is_chosen.possible.drop_later is_chosen.possible.among in
    let one = new.schedule.fits.one_each in
    let other = is_chosen.schedule.fits.one_each in
    let room = is_chosen.possible.room in
    booked_stops minutes day trips plans vehicles request trip plan chosen duty.stops (get_or vehicles l duty.vehicle) stops each booked.trip_of.number is_chosen.possible.drop_later
    (of_vehicle request.trip day trips plans vehicles l duty below at) new.stops_with_trip (omega (arith, old, one, other, room)) (ap (λ (p : Plan). p.stops) plan_is)

pub found_vehicle : (trip day : ℕ) (trips : List Trip) (plans : List Plan) (vehicles : List Vehicle) (k : ℕ) (there : OnDuty) → k < length (routes_without trip day trips plans vehicles)
    → get_or (routes_without trip day trips plans vehicles) k there ≡ there → there.vehicle ≡ get_or vehicles k there.vehicle
found_vehicle trip day trips plans vehicles k there within at =
    let duty : Vehicle → OnDuty = λ vehicle. record { vehicle = vehicle; stops = stops_without trip day trips plans vehicle.id } in
    ap (λ (d : OnDuty). d.vehicle) (sym at ∙ get_or-map duty vehicles k there.vehicle there (omega (arith, length-map vehicles duty, within)))

-- the vehicle of a trip that is booked is one of the vehicles
pub booked_vehicle : (minutes : ℕ → ℕ → Option ℕ) (day : ℕ) (trips : List Trip) (plans : List Plan) (vehicles : List Vehicle) (request : Request) (trip : Trip) (plan : Plan)
    → IsBookedIn minutes (routes_without request.trip day trips plans vehicles) request trip plan → list_any (λ vehicle. vehicle.id == trip.vehicle) vehicles ≡ true
booked_vehicle minutes day trips plans vehicles request trip plan (chosen, booked) =
    let (k, there, within, at, is_chosen) = booked.best.possible in
    let duty : Vehicle → OnDuty = λ vehicle. record { vehicle = vehicle; stops = stops_without request.trip day trips plans vehicle.id } in
    let inside : k < length vehicles = omega (arith, length-map vehicles duty, within) in
    let found = found_vehicle request.trip day trips plans vehicles k there within at in
    let number : trip.vehicle ≡ there.vehicle.id = booked.trip_of.vehicle_number ∙ is_chosen.vehicle_number in
    list_any-from_Any (λ vehicle. vehicle.id == trip.vehicle) vehicles
    (k, there.vehicle, inside, sym found, ap (λ (n : ℕ). there.vehicle.id == n) number ∙ eq_self there.vehicle.id)

each_after : (Q : ℕ → Type 0) (trips : List Trip) (stop : PlannedStop) (found : Option Trip) (rest : List Stop) → record_at number_of stop.trip trips ≡ found → Q stop.trip → Each (λ s. Q s.trip) rest
    → Each (λ s. Q s.trip) (after_stop found stop.kind rest)
each_after Q trips stop None rest is holds each = each
each_after Q trips stop (Some trip) rest is holds each = (subst Q (sym (stop_trip stop.kind trip ∙ found_key number_of stop.trip trip trips is)) holds, each)

each_among : (Q : ℕ → Type 0) (trips : List Trip) (stops : List PlannedStop) → Each (λ stop. Q stop.trip) stops → Each (λ s. Q s.trip) (stops_among trips stops)
each_among Q trips [] each = tt
each_among Q trips (stop ∷ later) each =
    each_after Q trips stop (record_at number_of stop.trip trips) (stops_among trips later) refl each.0 (each_among Q trips later each.1)

each_append : {X : Type 0} (P : X → Type 0) (xs ys : List X) → Each P xs → Each P ys → Each P (xs ++ ys)
each_append P [] ys each also = also
each_append P (x ∷ xs) ys each also = (each.0, each_append P xs ys each.1 also)

each_take : {X : Type 0} (P : X → Type 0) (n : ℕ) (xs : List X) → Each P xs → Each P (take n xs)
each_take P zero xs each = tt
each_take P (suc n) [] each = tt
each_take P (suc n) (x ∷ xs) each = (each.0, each_take P n xs each.1)

each_drop : {X : Type 0} (P : X → Type 0) (n : ℕ) (xs : List X) → Each P xs → Each P (drop n xs)
each_drop P zero xs each = each
each_drop P (suc n) [] each = tt
each_drop P (suc n) (x ∷ xs) each = each_drop P n xs each.1

pub each_with_trip : (P : Stop → Type 0) (asked : Asked) (i j : ℕ) (xs : List Stop) → P (pickup_stop asked) → P (drop_stop asked) → Each P xs → Each P (with_trip asked i j xs)
unfolding with_trip
each_with_trip P asked i j xs first second each =
    each_append P (take i xs ++ pickup_stop asked ∷ drop i (take j xs)) (drop_stop asked ∷ drop j xs)
    (each_append P (take i xs) (pickup_stop asked ∷ drop i (take j xs)) (each_take P i xs each) (first, each_drop P i (take j xs) (each_take P j xs each)))
    (second, each_drop P j xs each)

each_mapped : (Q : ℕ → Type 0) (xs : List Stop) → Each (λ s. Q s.trip) xs → Each (λ stop. Q stop.trip) (map planned_stop xs)
each_mapped Q [] each = tt
each_mapped Q (x ∷ xs) each = (each.0, each_mapped Q xs each.1)

-- what holds of the booked trip and of the trips that were in its vehicle holds of all trips of the new plan
pub booked_trips : (Q : ℕ → Type 0) (minutes : ℕ → ℕ → Option ℕ) (day : ℕ) (trips : List Trip) (plans : List Plan) (vehicles : List Vehicle) (request : Request) (trip : Trip) (plan : Plan)
    → Q trip.id → Each (λ stop. Q stop.trip) (without request.trip (planned_stops plan.vehicle day plans))
    → IsBookedIn minutes (routes_without request.trip day trips plans vehicles) request trip plan → Each (λ stop. Q stop.trip) plan.stops
booked_trips Q minutes day trips plans vehicles request trip plan own each (chosen, booked) =
    let (l, duty, below, at, (stops, new, plan_is)) = booked.plan_of in
    let vehicle = get_or vehicles l duty.vehicle in
    let number : plan.vehicle ≡ vehicle.id
    = ap (λ (p : Plan). p.vehicle) plan_is ∙ sym new.vehicle ∙ ap (λ (v : Vehicle). v.id) (found_vehicle request.trip day trips plans vehicles l duty below at) in
    let there : Each (λ (stop : PlannedStop). Q stop.trip) (without request.trip (planned_stops vehicle.id day plans))
    = subst (λ (v : ℕ). Each (λ (stop : PlannedStop). Q stop.trip) (without request.trip (planned_stops v day plans))) number each in
    subst (λ xs. Each (λ (stop : PlannedStop). Q stop.trip) xs)
    (sym (ap (λ (p : Plan). p.stops) plan_is ∙ ap (map planned_stop)
    (new.stops_with_trip ∙ ap (with_trip (asked_of trip) chosen.i chosen.j)
    (of_vehicle request.trip day trips plans vehicles l duty below at))))
    (each_mapped Q (with_trip (asked_of trip) chosen.i chosen.j (stops_there request.trip day trips plans vehicle))
    (each_with_trip (λ (s : Stop). Q s.trip) (asked_of trip) chosen.i chosen.j (stops_there request.trip day trips plans vehicle) own own
    (each_among Q trips (without request.trip (planned_stops vehicle.id day plans)) there)))

-- the plan of a booked trip is that of its vehicle on its day, and the trip is not cancelled
pub booked_plan : (minutes : ℕ → ℕ → Option ℕ) (vehicles : List OnDuty) (request : Request) (trip : Trip) (plan : Plan) → IsBookedIn minutes vehicles request trip plan
    → (trip.vehicle ≡ plan.vehicle) × (trip.wish.day ≡ plan.day) × (stands trip.status ≡ true)
booked_plan minutes vehicles request trip plan (chosen, booked) =
    let (l, duty, below, there, (stops, new, plan_is)) = booked.plan_of in (
      booked.trip_of.vehicle_number ∙ sym (ap (λ (p : Plan). p.vehicle) plan_is),
      sym (ap (λ (p : Plan). p.day) plan_is),
      ap stands booked.trip_of.status,
    )

abbrev pub has_trip : ℕ → List PlannedStop → Bool
has_trip k stops = list_any (λ stop. stop.trip == k) stops

any_filtered : (k : ℕ) (xs : List Stop) → list_any (is_of k) (filter (is_of k) xs) ≡ list_any (is_of k) xs
any_filtered k xs = any-filter_same (is_of k) (is_of k) true (λ x is. is) xs

any_mapped : (k : ℕ) (xs : List Stop) → has_trip k (map planned_stop xs) ≡ list_any (is_of k) xs
any_mapped k [] = refl
any_mapped k (x ∷ xs) = ap (λ b. (x.trip == k) || b) (any_mapped k xs)

any_other : (asked : Asked) (k i j : ℕ) (xs : List Stop) → (asked.trip ≡ k → ⊥) → i ≤ j → list_any (is_of k) (with_trip asked i j xs) ≡ list_any (is_of k) xs
any_other asked k i j xs other le = sym (any_filtered k (with_trip asked i j xs)) ∙ ap (list_any (is_of k)) (other_stops asked k i j xs other le) ∙ any_filtered k xs

any_own : (asked : Asked) (i j : ℕ) (xs : List Stop) → filter (is_of asked.trip) xs ≡ [] → list_any (is_of asked.trip) (with_trip asked i j xs) ≡ true
any_own asked i j xs none =
    sym (any_filtered asked.trip (with_trip asked i j xs)) ∙ ap (list_any (is_of asked.trip)) (own_stops asked asked.trip i j xs refl none)
    ∙ or_left (asked.trip == asked.trip) (list_any (is_of asked.trip) (drop_stop asked ∷ [])) (eq_self asked.trip)

any_after : (k : ℕ) (found : Option Trip) (kind : StopKind) (rest : List Stop) → list_any (is_of k) rest ≡ true → list_any (is_of k) (after_stop found kind rest) ≡ true
any_after k None kind rest some = some
any_after k (Some trip) kind rest some = or_right (is_of k (trip_stop kind trip)) (list_any (is_of k) rest) some

any_here : (k : ℕ) (trips : List Trip) (trip : Trip) (stop : PlannedStop) (rest : List Stop) → record_at number_of k trips ≡ Some trip → stop.trip ≡ k
    → list_any (is_of k) (after_stop (record_at number_of stop.trip trips) stop.kind rest) ≡ true
any_here k trips trip stop rest there same =
    let found : record_at number_of stop.trip trips ≡ Some trip = ap (λ (n : ℕ). record_at number_of n trips) same ∙ there in
    ap (λ f. list_any (is_of k) (after_stop f stop.kind rest)) found
    ∙ or_left (is_of k (trip_stop stop.kind trip)) (list_any (is_of k) rest)
    (ap (λ (n : ℕ). n == k) (stop_trip stop.kind trip ∙ found_key number_of k trip trips there) ∙ eq_self k)

any_among : (k : ℕ) (trips : List Trip) (trip : Trip) (stops : List PlannedStop)
    → record_at number_of k trips ≡ Some trip → has_trip k stops ≡ true
    → list_any (is_of k) (stops_among trips stops) ≡ true
any_among k trips trip [] there some = absurd (cc)
any_among k trips trip (stop ∷ later) there some = elim (or_cases (stop.trip == k) (has_trip k later) some) [
  | inl here ↦ any_here k trips trip stop (stops_among trips later) there (is_number stop.trip k here)
  | inr rest ↦ any_after k (record_at number_of stop.trip trips) stop.kind (stops_among trips later) (any_among k trips trip later there rest)
]

-- the stops of a new plan: those of its vehicle's other trips, and the trip's two
abbrev IsPlanOf : ℕ → List Trip → List Plan → Request → Trip → Plan → Type 0
IsPlanOf day trips plans request trip plan =
    (i : ℕ) × (j : ℕ) × (i ≤ j) × (plan.stops ≡ map planned_stop (with_trip (asked_of trip) i j (stops_among trips (without request.trip (planned_stops plan.vehicle day plans)))))

new_plan : (minutes : ℕ → ℕ → Option ℕ) (day : ℕ) (trips : List Trip) (plans : List Plan) (vehicles : List Vehicle) (request : Request) (trip : Trip) (plan : Plan)
    → IsBookedIn minutes (routes_without request.trip day trips plans vehicles) request trip plan → IsPlanOf day trips plans request trip plan
new_plan minutes day trips plans vehicles request trip plan (chosen, booked) =
    let (k, there, within, at, is_chosen) = booked.best.possible in
    let (l, duty, below, stands, (stops, new, plan_is)) = booked.plan_of in
    let vehicle = get_or vehicles l duty.vehicle in
    let number : vehicle.id ≡ plan.vehicle
    = sym (ap (λ (p : Plan). p.vehicle) plan_is ∙ sym new.vehicle ∙ ap (λ (v : Vehicle). v.id) (found_vehicle request.trip day trips plans vehicles l duty below stands)) in (
      chosen.i,
      chosen.j,
      is_chosen.possible.drop_later,
      ap (λ (p : Plan). p.stops) plan_is
          ∙ ap (map planned_stop) (new.stops_with_trip ∙ ap (with_trip (asked_of trip) chosen.i chosen.j) (of_vehicle request.trip day trips plans vehicles l duty below stands
          ∙ ap (λ (v : ℕ). stops_among trips (without request.trip (planned_stops v day plans))) number)),
    )

-- it has the trips that were there
pub booked_keeps : (minutes : ℕ → ℕ → Option ℕ) (day : ℕ) (trips : List Trip) (plans : List Plan) (vehicles : List Vehicle) (request : Request) (trip : Trip) (plan : Plan) (other : Trip)
    → (trip.id ≡ other.id → ⊥) → record_at number_of other.id trips ≡ Some other → has_trip other.id (without request.trip (planned_stops plan.vehicle day plans)) ≡ true
    → IsBookedIn minutes (routes_without request.trip day trips plans vehicles) request trip plan → has_trip other.id plan.stops ≡ true
booked_keeps minutes day trips plans vehicles request trip plan other differ there some booked =
    let (i, j, le, is) = new_plan minutes day trips plans vehicles request trip plan booked in
    let left = without request.trip (planned_stops plan.vehicle day plans) in
    ap (has_trip other.id) is ∙ any_mapped other.id (with_trip (asked_of trip) i j (stops_among trips left)) ∙ any_other (asked_of trip) other.id i j (stops_among trips left) differ le
    ∙ any_among other.id trips other left there some

-- and the trip itself
pub booked_has : (minutes : ℕ → ℕ → Option ℕ) (day : ℕ) (trips : List Trip) (plans : List Plan) (vehicles : List Vehicle) (request : Request) (trip : Trip) (plan : Plan) → trip.id ≡ request.trip
    → IsBookedIn minutes (routes_without request.trip day trips plans vehicles) request trip plan → has_trip trip.id plan.stops ≡ true
booked_has minutes day trips plans vehicles request trip plan number booked =
    let (i, j, le, is) = new_plan minutes day trips plans vehicles request trip plan booked in
    let planned = planned_stops plan.vehicle day plans in
    let left = without request.trip planned in
    ap (has_trip trip.id) is ∙ any_mapped trip.id (with_trip (asked_of trip) i j (stops_among trips left))
    ∙ any_own (asked_of trip) i j (stops_among trips left) (among_of_trip trip.id trips left ∙ ap (stops_among trips) (none_left trip.id request.trip number planned))

-- without one trip the other trips are still there
pub left_has : (k trip : ℕ) (stops : List PlannedStop) → (k ≡ trip → ⊥) → has_trip k stops ≡ true → has_trip k (without trip stops) ≡ true
left_has k trip stops other some =
    any-filter_same (λ stop. stop.trip == k) (λ stop. not (stop.trip == trip)) true (λ stop is. is_kept stop.trip k trip is other) stops ∙ some
  where
    is_kept : (n k trip : ℕ) → (n == k) ≡ true → (k ≡ trip → ⊥) → not (n == trip) ≡ true
    is_kept n k trip same other = grind (arith, nat_tests)
