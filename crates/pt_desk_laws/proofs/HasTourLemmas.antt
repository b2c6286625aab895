-- In a sound state whose plans are of vehicles on duty, each vehicle that has stops on a day has a tour.
use Rattle.std.proofs.Common.{◌≡◌, ℕ, ◌<◌, Bool, true, false, IsTrue, List, [], ◌∷◌, length, Option, Some, None, cond, refl, sym, ap, ◌∙◌, subst, inl, inr, arith}
use Rattle.std.specs.Prelude.{◌==◌, ◌&&◌, filter, find, is_some}
use Rattle.pt_desk_rules.specs.Day.{IsDay}
use Rattle.pt_desk_rules.specs.Trip.{Trip}
use Rattle.pt_desk_rules.specs.Vehicle.{Vehicle}
use Rattle.pt_desk_rules.specs.Stop.{Stop}
use Rattle.pt_desk_rules.specs.Tour.{Tour}
use Rattle.pt_desk_rules.specs.VehicleSheet.{VehicleSheet}
use Rattle.pt_base_records.specs.Keys.{pair_key}
use Rattle.pt_base_records.specs.Records.{record_at, Each, IsInOrder}
use Rattle.pt_desk_scheduling.specs.Plan.{Plan, after_stop, plan_key, planned_stops, stops_among, stops_of_plan, IsRoutePlan}
use Rattle.pt_desk_scheduling.specs.Routes.{stops_on}
use Rattle.pt_desk_scheduling.specs.declared.planned.PlannedStop.{PlannedStop}
use Rattle.pt_desk_scheduling.proofs.PlanLemmas.{found_key}
use Rattle.pt_desk_scheduling.proofs.RouteLemmas.{among_route, Each-found}
use Rattle.pt_desk_rules.specs.Chain.{Row}
use Rattle.pt_desk_rules.specs.Booking.{rows_of}
use Rattle.pt_desk_rules.specs.Facts.{day_of}
use Rattle.pt_desk_rules.specs.Fleet.{duty_of, is_on_duty, on_duty}
use Rattle.pt_desk_rules.specs.Planned.{planned_on, trips_on}
use Rattle.pt_desk_rules.specs.Sound.{CanDrive, HasDay, HasStandingTrips, IsOnDay, IsSound, StandsIn}
use Rattle.pt_desk_rules.specs.State.{trip_key, State}
use Rattle.pt_desk_rules.specs.Tours.{HasTour, HasTours, IsManifestOf, IsOnDutyIn, IsSheetOf, IsTourOrNone, PlansAreOnDuty}
use Rattle.pt_desk_rules.specs.Travel.{table_on}
use Rattle.pt_desk_laws.proofs.DutyLemmas.{duty_order, id_of}
use Rattle.pt_desk_laws.proofs.FitLemmas.{duty_serves, is_no, planned_fit, some_at, FitsIn, ServesOnDuty, Some_of}
use Rattle.pt_desk_laws.proofs.StandingLemmas.{is_same, record_at-filter, same_day, same_place, same_vehicle, trip_on}
use Rattle.pt_desk_rules.proofs.RangeLemmas.{first_days, trip_days, planned_days}

-- the first that passes two tests is the first that passes one, of those that pass the other
pub find_both : {A : Type 0} (p q : A → Bool) (xs : List A) → find (λ x. p x && q x) xs ≡ find p (filter q xs)
find_both p q [] = refl
find_both p q (x ∷ xs) = step p x (find (λ y. p y && q y) xs) (filter q xs) (p x) (q x) refl (find_both p q xs)
  where
    step : {A : Type 0} (p : A → Bool) (x : A) (rest : Option A) (ys : List A) (a b : Bool) → p x ≡ a
        → rest ≡ find p ys → cond (a && b) (Some x) rest ≡ find p (cond b (x ∷ ys) ys)
    step p x rest ys true true is same = ap (λ b. cond b (Some x) (find p ys)) (sym is)
    step p x rest ys true false is same = same
    step p x rest ys false true is same = same ∙ ap (λ b. cond b (Some x) (find p ys)) (sym is)
    step p x rest ys false false is same = same

-- if vehicle numbers rise, the vehicle with this number is the one that is found
find_one : (Q : Vehicle → Type 0) (id : ℕ) (ys : List Vehicle) → IsInOrder id_of ys
    → Some_of (λ v. (v.id ≡ id) × Q v) ys → (v : Vehicle) × (find (λ (y : Vehicle). y.id == id) ys ≡ Some v) × Q v
find_one Q id [] order some = absurd some
find_one Q id (y ∷ ys) order (inl (is, holds)) = (
  y,
  ap (λ b. cond b (Some y) (find (λ (z : Vehicle). z.id == id) ys)) (is_same y.id id is),
  holds,
)
find_one Q id (y ∷ ys) order (inr some) =
    let (v, found, holds) = find_one Q id ys order.1 some in
    let above : y.id < v.id = Each-found (λ (z : Vehicle). y.id < z.id) id_of id v ys order.0 found in
    let own : v.id ≡ id = found_key id_of id v ys found in (
      v,
      ap (λ b. cond b (Some y) (find (λ (z : Vehicle). z.id == id) ys))
          (is_no y.id id (λ same. omega (arith, above, own, same))) ∙ found,
      holds,
    )

-- the trips of a plan are those of its day
same_stops : (day : ℕ) (plan : Plan) (trips : List Trip) (stops : List PlannedStop) → Each HasDay trips
    → IsOnDay plan → plan.day ≡ day → Each (λ stop. StandsIn trips (plan_key plan) stop.trip) stops
    → stops_among (trips_on day trips) stops ≡ stops_among trips stops
same_stops day plan trips [] days on is each = refl
same_stops day plan trips (stop ∷ later) days on is each =
    let (trip, there, standing, at) = each.0 in
    let own = found_key trip_key stop.trip trip trips there in
    let place = same_place trip plan (Each-found HasDay trip_key stop.trip trip trips days there) on at in
    let kept = subst (λ (n : ℕ). record_at trip_key n (trips_on day trips) ≡ Some trip) own
    (trip_on day trip trips (place.1 ∙ is) (subst (λ (n : ℕ). record_at trip_key n trips ≡ Some trip) (sym own)
    there)) in
    ap (λ f. after_stop f stop.kind (stops_among (trips_on day trips) later)) (kept ∙ sym there)
    ∙ ap (λ rest. after_stop (record_at trip_key stop.trip trips) stop.kind rest)
    (same_stops day plan trips later days on is each.1)

-- a plan with stops, whose trips are in it and not cancelled, has stops to drive
some_stops : (trips : List Trip) (key : ℕ) (stops : List PlannedStop)
    → Each (λ stop. StandsIn trips key stop.trip) stops → 0 < length stops → 0 < length (stops_among trips stops)
some_stops trips key [] each some = some
some_stops trips key (stop ∷ later) each some =
    let (trip, there, standing, at) = each.0 in
    subst (λ f. 0 < length (after_stop f stop.kind (stops_among trips later))) (sym there) (omega arith)

not_none : (rows : List Row) (vehicle : Vehicle) (trips : List Trip) (stops : List Stop) (tour : Option Tour)
    → HasTour rows vehicle stops → IsTourOrNone rows vehicle trips stops tour → IsTrue (is_some tour)
not_none rows vehicle trips stops None has none = absurd (none has)
not_none rows vehicle trips stops (Some tour) has is = refl

-- the vehicle of a plan is on duty, and has a tour over the plan's stops
plan_tour : (s : State) (id day : ℕ) (plan : Plan) (sheet : VehicleSheet) → IsSound s → PlansAreOnDuty s → IsDay day
    → record_at plan_key (pair_key id day) s.planned ≡ Some plan → 0 < length plan.stops
    → IsManifestOf id day (day_of day s) (duty_of id day s.vehicles) sheet → IsTrue (is_some sheet.tour)
plan_tour s id day plan sheet sound duties is_day found some shows =
    let key = pair_key id day in
    let on = Each-found IsOnDay plan_key key plan s.planned (planned_days s sound) found in
    let same = found_key plan_key key plan s.planned found in
    let of_vehicle : plan.vehicle ≡ id = same_vehicle plan.vehicle plan.day id day on.1 is_day.1 same in
    let of_day : plan.day ≡ day = same_day plan.vehicle plan.day id day on.1 is_day.1 same in
    let stand = Each-found (HasStandingTrips s.trips) plan_key key plan s.planned sound.planned_trips_stand found in
    let fits = Each-found (FitsIn s.vehicles s.travel s.trips) plan_key key plan s.planned (planned_fit s sound) found
    in
    let stops = stops_among s.trips plan.stops in
    let rows = rows_of (table_on day s.travel) in
    let serves = duty_serves s.vehicles s.travel plan.vehicle plan.day stops (first_days s sound)
    sound.vehicles_in_order fits (Each-found (IsOnDutyIn s.vehicles) plan_key key plan s.planned duties found) in
    let (k, version, within, at, holds) = subst (λ (v : ℕ). ServesOnDuty s.vehicles s.travel v day stops) of_vehicle
    (subst (λ (d : ℕ). ServesOnDuty s.vehicles s.travel plan.vehicle d stops) of_day serves) in
    let order = duty_order day s.vehicles (first_days s sound) sound.vehicles_in_order in
    let (there, is_found, drives) = find_one (CanDrive rows stops) id (on_duty day s.vehicles) order
    (some_at (λ (v : Vehicle). (v.id ≡ id) × CanDrive rows stops v) (on_duty day s.vehicles) k version within at
    holds) in
    let own : there.id ≡ id = found_key id_of id there (on_duty day s.vehicles) is_found in
    let duty = find_both (λ (v : Vehicle). v.id == id) (is_on_duty day s.vehicles) s.vehicles ∙ is_found in
    let shown : IsSheetOf day (day_of day s) there sheet
    = subst (λ f. IsManifestOf id day (day_of day s) f sheet) duty shows in
    let planned : planned_stops there.id day (planned_on day s.planned) ≡ plan.stops
    = ap (λ (n : ℕ). planned_stops n day (planned_on day s.planned)) own
    ∙ ap stops_of_plan (record_at-filter plan_key key plan (λ (p : Plan). p.day == day) s.planned
    (is_same plan.day day of_day) found) in
    let driven : stops_on day (trips_on day s.trips) (planned_on day s.planned) there.id ≡ stops
    = ap (stops_among (trips_on day s.trips)) planned
    ∙ same_stops day plan s.trips plan.stops (trip_days s sound) on of_day stand in
    let has : HasTour rows there stops = record {
      some = some_stops s.trips (plan_key plan) plan.stops stand some;
      route = among_route s.trips plan.stops (Each-found IsRoutePlan plan_key key plan s.planned sound.planned_routes
          found);
      can_drive = drives;
    } in
    not_none rows there (trips_on day s.trips) (stops_on day (trips_on day s.trips) (planned_on day s.planned) there.id)
    sheet.tour (subst (HasTour rows there) (sym driven) has) shown.tour

by_plan : (s : State) (id day : ℕ) (plan : Option Plan) (sheet : VehicleSheet) → IsSound s → PlansAreOnDuty s
    → IsDay day
    → record_at plan_key (pair_key id day) s.planned ≡ plan → 0 < length (stops_of_plan plan)
    → IsManifestOf id day (day_of day s) (duty_of id day s.vehicles) sheet → IsTrue (is_some sheet.tour)
by_plan s id day None sheet sound duties is_day found some shows = absurd (omega (arith, some))
by_plan s id day (Some plan) sheet sound duties is_day found some shows =
    plan_tour s id day plan sheet sound duties is_day found some shows

-- so each vehicle that has stops on a day has its tour
pub have_tours : (s : State) → IsSound s → PlansAreOnDuty s → HasTours s
have_tours s sound duties id day sheet is_day some shows =
    by_plan s id day (record_at plan_key (pair_key id day) s.planned) sheet sound duties is_day refl some shows
