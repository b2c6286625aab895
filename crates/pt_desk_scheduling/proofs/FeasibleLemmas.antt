-- A route that its vehicle can drive can also be driven without a trip, and with the trip that is booked.
use Rattle.std.proofs.Common.{◌≡◌, ℕ, ◌+◌, ◌<◌, ◌≤◌, Bool, true, false, not, List, [], ◌∷◌, ◌++◌, length, map, Option}
use Rattle.std.proofs.Common.{Some, None, Any, cond, refl, sym, ap, ◌∙◌, subst, arith}
use Rattle.std.specs.Prelude.{◌==◌, IsSomeAnd}
use Rattle.std.proofs.lemmas.List.{length-map}
use Rattle.std.proofs.lemmas.Option.{same_Some}
use Rattle.pt_base_values.specs.Ranges.{last_minute}
use Rattle.pt_base_values.specs.declared.trip.Trip.{Trip}
use Rattle.pt_base_values.specs.declared.vehicle.Vehicle.{Vehicle}
use Rattle.pt_desk_booking.specs.Planning.{OnDuty, asked_of}
use Rattle.pt_desk_booking.specs.Request.{Request}
use Rattle.pt_feasible.specs.declared.stop.Stop.{Stop}
use Rattle.pt_feasible.specs.declared.stop.StopKind.{StopKind}
use Rattle.pt_feasible.specs.declared.stop.StopKind.TheVariants.{Pickup, Drop}
use Rattle.pt_insertion_search.specs.Insertion.{with_trip}
use Rattle.pt_insertion_search.specs.Removal.{times_without_trip, without_trip}
use Rattle.pt_insertion_search.specs.TravelTimes.{KeepsTriangleLaw}
use Rattle.pt_insertion_search.proofs.RemovalLoads.{loads_stay}
use Rattle.pt_insertion_search.proofs.RemovalTimes.{times_stay}
use Rattle.pt_base_records.specs.Records.{put, record_at, Each}
use Rattle.pt_base_records.proofs.OrderLemmas.{record_at-put_other}
use Rattle.pt_desk_scheduling.specs.Plan.{after_stop, planned_stop, planned_stops, stops_among, trip_stop, without, Plan}
use Rattle.pt_desk_scheduling.specs.Plan.{IsPlannedRoute}
use Rattle.pt_desk_scheduling.specs.Routes.{routes_without, stops_without, IsFeasible}
use Rattle.pt_desk_scheduling.specs.Scheduling.{IsBookedIn}
use Rattle.pt_desk_scheduling.specs.declared.planned.PlannedStop.{PlannedStop}
use Rattle.pt_desk_scheduling.proofs.PlanLemmas.{found_key, number_of, paired_among, stop_trip}
use Rattle.pt_desk_scheduling.proofs.RouteLemmas.{each_with_trip, found_vehicle, of_vehicle}
use Rattle.pt_travel.specs.Chain.{Row, IsTime, total_of}
use Rattle.pt_travel.proofs.ClosureLemmas.{chain-append, total-append}

over_a_third : (rows : List Row) (a b c m n : ℕ) (direct : Option ℕ) → IsTime rows a b (Some m)
    → IsTime rows b c (Some n) → m + n ≤ 1_439 → IsTime rows a c direct → IsSomeAnd direct (λ t. t ≤ m + n)
over_a_third rows a b c m n None (day, ((first, leads, takes), least)) (day', ((rest, goes_on, takes_more), least'))
    within none =
    let long : 1439 < total_of (first ++ rest) = none (first ++ rest)
    (chain-append rows a b c first rest leads goes_on) in
    let both : total_of (first ++ rest) ≡ total_of first + total_of rest = total-append first rest in
    absurd (omega arith)
over_a_third rows a b c m n (Some t) (day, ((first, leads, takes), least))
    (day', ((rest, goes_on, takes_more), least')) within (day'', (there, shortest)) =
    let short : t ≤ total_of (first ++ rest) = shortest (first ++ rest)
    (chain-append rows a b c first rest leads goes_on) in
    let both : total_of (first ++ rest) ≡ total_of first + total_of rest = total-append first rest in
    omega arith

-- the driving times by rows keep the triangle law
pub triangle_law : (rows : List Row) (minutes : ℕ → ℕ → Option ℕ)
    → ((from to : ℕ) → IsTime rows from to (minutes from to)) → KeepsTriangleLaw minutes
triangle_law rows minutes times a b c m n first second within =
    over_a_third rows a b c m n (minutes a c) (subst (IsTime rows a b) first (times a b))
    (subst (IsTime rows b c) second (times b c)) within (times a c)

-- the stops of other trips are as they were where a trip is put
pub among_put : (new : Trip) (trips : List Trip) (stops : List PlannedStop)
    → Each (λ stop. stop.trip ≡ new.id → ⊥) stops → stops_among (put number_of new trips) stops ≡ stops_among trips
    stops
among_put new trips [] others = refl
among_put new trips (stop ∷ later) others =
    ap (λ f. after_stop f stop.kind (stops_among (put number_of new trips) later))
    (record_at-put_other number_of stop.trip new trips (λ same. others.0 (sym same)))
    ∙ ap (λ rest. after_stop (record_at number_of stop.trip trips) stop.kind rest)
    (among_put new trips later others.1)

without_step : (k : ℕ) (trips : List Trip) (stop : PlannedStop) (found : Option Trip) (rest : List Stop)
    (kept : List PlannedStop) (b : Bool) → record_at number_of stop.trip trips ≡ found → (stop.trip == k) ≡ b
    → without_trip k rest ≡ stops_among trips kept → without_trip k (after_stop found stop.kind rest) ≡ stops_among
    trips (cond (not b) (stop ∷ kept) kept)
without_step k trips stop None rest kept true is same ih = ih
without_step k trips stop None rest kept false is same ih =
    ih ∙ sym (ap (λ f. after_stop f stop.kind (stops_among trips kept)) is)
without_step k trips stop (Some t) rest kept true is same ih =
    let number : (trip_stop stop.kind t).trip ≡ stop.trip = stop_trip stop.kind t
    ∙ found_key number_of stop.trip t trips is in
    let own : ((trip_stop stop.kind t).trip == k) ≡ true = ap (λ (n : ℕ). n == k) number ∙ same in
    ap (λ b. cond (not b) (trip_stop stop.kind t ∷ without_trip k rest) (without_trip k rest)) own ∙ ih
without_step k trips stop (Some t) rest kept false is same ih =
    let number : (trip_stop stop.kind t).trip ≡ stop.trip = stop_trip stop.kind t
    ∙ found_key number_of stop.trip t trips is in
    let other : ((trip_stop stop.kind t).trip == k) ≡ false = ap (λ (n : ℕ). n == k) number ∙ same in
    ap (λ b. cond (not b) (trip_stop stop.kind t ∷ without_trip k rest) (without_trip k rest)) other
    ∙ ap (λ ys. trip_stop stop.kind t ∷ ys) ih ∙ sym (ap (λ f. after_stop f stop.kind (stops_among trips kept)) is)

-- a trip taken out of a plan is taken out of its route
among_without : (k : ℕ) (trips : List Trip) (stops : List PlannedStop)
    → without_trip k (stops_among trips stops) ≡ stops_among trips (without k stops)
among_without k trips [] = refl
among_without k trips (stop ∷ later) =
    without_step k trips stop (record_at number_of stop.trip trips) (stops_among trips later) (without k later)
    (stop.trip == k) refl refl (among_without k trips later)

-- what a vehicle can drive by the driving times of rows it can drive without a trip
pub feasible_without : (rows : List Row) (minutes : ℕ → ℕ → Option ℕ) (vehicle : Vehicle) (k : ℕ) (trips : List Trip)
    (stops : List PlannedStop)
    → ((from to : ℕ) → IsTime rows from to (minutes from to)) → vehicle.closes ≤ last_minute → IsPlannedRoute stops
    → IsFeasible minutes vehicle (stops_among trips stops)
    → IsFeasible minutes vehicle (stops_among trips (without k stops))
feasible_without rows minutes vehicle k trips stops times day route feasible =
    let (b, fits) = feasible.times in
    subst (IsFeasible minutes vehicle) (among_without k trips stops) (record {
      loads = loads_stay k (stops_among trips stops) (paired_among trips stops route.paired) vehicle feasible.loads;
      times = (
        times_without_trip k (stops_among trips stops) b,
        times_stay k (stops_among trips stops) minutes
            vehicle b (triangle_law rows minutes times) day fits,
      );
    })

-- the stop is that of a trip among these
abbrev IsStopAmong : List Trip → Stop → Type 0
IsStopAmong trips stop = (trip : Trip) × (record_at number_of stop.trip trips ≡ Some trip)
    × (trip_stop stop.kind trip ≡ stop)

-- the trip of this number is among these and among those
abbrev pub IsInBoth : List Trip → List Trip → ℕ → Type 0
IsInBoth here all number = (trip : Trip) × (record_at number_of number here ≡ Some trip)
    × (record_at number_of number all ≡ Some trip)

own_kind : (kind : StopKind) (trip : Trip) → trip_stop (trip_stop kind trip).kind trip ≡ trip_stop kind trip
own_kind Pickup trip = refl
own_kind Drop trip = refl

after_among : (here all : List Trip) (stop : PlannedStop) (found : Option Trip) (rest : List Stop)
    → record_at number_of stop.trip here ≡ found → IsInBoth here all stop.trip → Each (IsStopAmong all) rest
    → Each (IsStopAmong all) (after_stop found stop.kind rest)
after_among here all stop None rest is both each = each
after_among here all stop (Some t) rest is (trip, one, other) each =
    let same : trip ≡ t = same_Some trip t (sym one ∙ is) in (
      (
        t,
        ap (λ (n : ℕ). record_at number_of n all) (stop_trip stop.kind t ∙ found_key number_of stop.trip t here is)
            ∙ other ∙ ap (λ (x : Trip). Some x) same,
        own_kind stop.kind t,
      ),
      each,
    )

each_among_all : (here all : List Trip) (stops : List PlannedStop) → Each (λ stop. IsInBoth here all stop.trip) stops
    → Each (IsStopAmong all) (stops_among here stops)
each_among_all here all [] each = tt
each_among_all here all (stop ∷ later) each =
    after_among here all stop (record_at number_of stop.trip here) (stops_among here later) refl each.0
    (each_among_all here all later each.1)

-- a route by the trips of its stops is that route
among_again : (trips : List Trip) (stops : List Stop) → Each (IsStopAmong trips) stops
    → stops_among trips (map planned_stop stops) ≡ stops
among_again trips [] each = refl
among_again trips (stop ∷ later) each =
    let (trip, there, is) = each.0 in
    ap (λ f. after_stop f stop.kind (stops_among trips (map planned_stop later))) there
    ∙ ap (λ (s : Stop). s ∷ stops_among trips (map planned_stop later)) is
    ∙ ap (λ ys. stop ∷ ys) (among_again trips later each.1)

-- the plan of a trip that is booked can be driven by a vehicle of its number
pub booked_feasible : (minutes : ℕ → ℕ → Option ℕ) (day : ℕ) (trips : List Trip) (plans : List Plan)
    (vehicles : List Vehicle) (request : Request) (trip : Trip) (plan : Plan) (all : List Trip)
    → record_at number_of trip.id all ≡ Some trip → Each (λ stop. IsInBoth trips all stop.trip)
    (without request.trip (planned_stops plan.vehicle day plans))
    → IsBookedIn minutes (routes_without request.trip day trips plans vehicles) request trip plan
    → Any (λ vehicle. (vehicle.id ≡ plan.vehicle) × IsFeasible minutes vehicle (stops_among all plan.stops)) vehicles
booked_feasible minutes day trips plans vehicles request trip plan all own others (chosen, booked) =
    let (l, duty, below, at, (stops, new, plan_is)) = booked.plan_of in
    let duty_of : Vehicle → OnDuty = λ vehicle. record
    { vehicle = vehicle; stops = stops_without request.trip day trips plans vehicle.id } in
    let inside : l < length vehicles = omega (arith, length-map vehicles duty_of, below) in
    let found = found_vehicle request.trip day trips plans vehicles l duty below at in
    let number : duty.vehicle.id ≡ plan.vehicle = new.vehicle ∙ sym (ap (λ (p : Plan). p.vehicle) plan_is) in
    let left = without request.trip (planned_stops plan.vehicle day plans) in
    let old : duty.stops ≡ stops_among trips left
    = of_vehicle request.trip day trips plans vehicles l duty below at
    ∙ ap (λ (v : ℕ). stops_among trips (without request.trip (planned_stops v day plans)))
    (sym (ap (λ (v : Vehicle). v.id) found) ∙ number) in
    let each : Each (IsStopAmong all) stops
    = subst (λ xs. Each (IsStopAmong all) xs) (sym (new.stops_with_trip
    ∙ ap (with_trip (asked_of trip) chosen.i chosen.j) old))
    (each_with_trip (IsStopAmong all) (asked_of trip) chosen.i chosen.j (stops_among trips left) (trip, own, refl)
    (trip, own, refl) (each_among_all trips all left others)) in
    let again : stops_among all plan.stops ≡ stops = ap (λ (p : Plan). stops_among all p.stops) plan_is
    ∙ among_again all stops each in (
      l,
      duty.vehicle,
      inside,
      sym found,
      (
        number,
        subst (IsFeasible minutes duty.vehicle) (sym again)
            (record { loads = new.loads; times = (chosen.schedule.items, new.schedule.fits) }),
      ),
    )
