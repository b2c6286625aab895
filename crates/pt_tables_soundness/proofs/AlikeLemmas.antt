-- The tables before the last three do not depend on wheelchairs or wheelchair places.
use Rattle.std.proofs.Common.{◌≡◌, ℕ, ◌+◌, ◌-◌, ◌≤◌, Bool, IsTrue, List, [], ◌∷◌, ◌++◌, length, map, Option, None, Some, is_some, if◌then◌else◌, not, refl, sym, ap, ap₂, subst, ◌∙◌, arith}
use Rattle.std.specs.Prelude.{◌==◌, ◌&&◌, nat_le, nat_lt, slice_get, slice_index, unwrap_or}
use Rattle.std.specs.List.{list_any}
use Rattle.pt_base_values.specs.Ranges.{last_minute}
use Rattle.pt_base_values.specs.TripStatus.{stands}
use Rattle.pt_base_values.specs.declared.place.Place.{Place}
use Rattle.pt_base_values.specs.declared.rider.Rider.{Rider}
use Rattle.pt_base_values.specs.declared.trip.Trip.{Trip}
use Rattle.pt_base_values.specs.declared.trip_status.TripStatus.{TripStatus}
use Rattle.pt_base_values.specs.declared.vehicle.Vehicle.{Vehicle}
use Rattle.pt_feasible.specs.ServiceTimes.{TimesFit}
use Rattle.pt_feasible.specs.Stop.{lets_leave, takes_aboard}
use Rattle.pt_feasible.specs.Visit.{depot_visit, stop_visit, visits}
use Rattle.pt_feasible.specs.declared.stop.Stop.{Stop}
use Rattle.pt_feasible.specs.declared.stop.StopKind.{StopKind}
use Rattle.pt_feasible.specs.declared.stop.StopKind.TheVariants.{Pickup, Drop}
use Rattle.pt_feasible.specs.declared.visit.Visit.{Visit}
use Rattle.pt_base_records.specs.Keys.{pair_key}
use Rattle.pt_base_records.specs.Records.{record_at}
use Rattle.pt_base_records.proofs.OrderLemmas.{Each-weaker}
use Rattle.pt_desk_requests.specs.declared.caller.Caller.{Caller}
use Rattle.pt_desk_requests.specs.declared.caller.Role.{Role}
use Rattle.pt_desk_requests.specs.declared.caller.Role.TheVariants as role
use Rattle.pt_desk_scheduling.specs.Plan.{after_stop, Plan, plan_key, planned_stops, stops_among, trip_stop}
use Rattle.pt_desk_scheduling.specs.declared.planned.PlannedStop.{PlannedStop}
use Rattle.pt_desk_rules.specs.Booking.{rows_of}
use Rattle.pt_desk_rules.specs.Fleet.{has_version, in_force, is_in_force, is_newer, vehicle_count, versions_of}
use Rattle.pt_desk_rules.specs.Sound.{DrivesIn, HasDepot, HasFiledRider, HasPlaces, HasStandingTrips, HasTimes, IsNumberedTo, IsOfRider, IsPlanned, StandsIn}
use Rattle.pt_desk_rules.specs.State.{rider_key, trip_key, vehicle_key}
use Rattle.pt_desk_rules.specs.Travel.{TravelTable, table_on}
use Rattle.pt_desk_rules.specs.declared.change.FiledEntry.{FiledEntry}
use Rattle.pt_tables_soundness.specs.Tables.{AreSoundEntries, AreSoundPlans, AreSoundRiders, AreSoundTables, AreSoundTrips, AreSoundVehicles, HasDriven, HasRider, has_driven, has_rider}
use Rattle.pt_tables_soundness.proofs.PairedLemmas.{BothOrNone, Paired, any_paired, at_paired, each_paired, filter_paired, found_paired, length_paired, order_paired, other_there, some_paired, there_paired}

abbrev pub AlikeRider : Rider → Rider → Type 0
AlikeRider one other = one.id ≡ other.id

pub record AlikeVehicle (one other : Vehicle) : Type 0 where
  pub id : one.id ≡ other.id
  pub from_day : one.from_day ≡ other.from_day
  pub days : one.days ≡ other.days
  pub depot : one.depot ≡ other.depot
  pub opens : one.opens ≡ other.opens
  pub closes : one.closes ≡ other.closes
  pub duration : one.duration ≡ other.duration

pub record AlikeTrip (one other : Trip) : Type 0 where
  pub id : one.id ≡ other.id
  pub rider : one.rider ≡ other.rider
  pub day : one.wish.day ≡ other.wish.day
  pub from : one.wish.from ≡ other.wish.from
  pub to : one.wish.to ≡ other.wish.to
  pub by : one.wish.by ≡ other.wish.by
  pub service : one.service ≡ other.service
  pub ride : one.ride ≡ other.ride
  pub vehicle : one.vehicle ≡ other.vehicle
  pub window_from : one.window_from ≡ other.window_from
  pub window_to : one.window_to ≡ other.window_to
  pub status : one.status ≡ other.status

record AlikeStop (one other : Stop) : Type 0 where
  trip : one.trip ≡ other.trip
  kind : one.kind ≡ other.kind
  place : one.place ≡ other.place
  lo : one.lo ≡ other.lo
  hi : one.hi ≡ other.hi
  service : one.service ≡ other.service
  ride : one.ride ≡ other.ride

-- ---- riders

module _ (xs ys : List Rider) (h : Paired AlikeRider xs ys) where
  rider_there : (k : ℕ) → IsTrue (is_some (record_at rider_key k xs)) → IsTrue (is_some (record_at rider_key k ys))
  rider_there k there = there_paired AlikeRider rider_key (λ x y alike. alike) k xs ys h there

  role_there : (r : Role) → IsTrue (has_rider r xs) → IsTrue (has_rider r ys)
  role_there (role.Rider rider) there = rider_there rider there
  role_there role.Clerk there = refl
  role_there role.Examiner there = refl
  role_there role.Officer there = refl
  role_there role.Dispatcher there = refl
  role_there (role.Driver vehicle) there = refl
  role_there role.Admin there = refl

  pub alike_riders : (callers : List Caller) → AreSoundRiders callers xs → AreSoundRiders callers ys
  alike_riders callers sound = record {
    table = record {
      in_order = order_paired AlikeRider rider_key (λ x y alike. alike) xs ys h sound.table.in_order;
      within = (let size = length_paired AlikeRider xs ys h in let low = sound.table.within in omega arith);
    };
    riders_there = Each-weaker (HasRider xs) (HasRider ys) (λ caller there. role_there caller.role there) callers sound.riders_there;
  }

  pub alike_entries : (callers : List Caller) (entries : List FiledEntry) → AreSoundEntries callers xs entries → AreSoundEntries callers ys entries
  alike_entries callers entries sound = record {
    in_order = sound.in_order;
    of_riders = Each-weaker (HasFiledRider xs) (HasFiledRider ys) (λ filed there. rider_there filed.rider there) entries sound.of_riders;
    authors_there = sound.authors_there;
    files = sound.files;
  }

-- ---- vehicles

module _ (xs ys : List Vehicle) (h : Paired AlikeVehicle xs ys) where
  version_there : (id : ℕ) → has_version id xs ≡ has_version id ys
  version_there id = any_paired AlikeVehicle (λ v. v.id == id) (λ v. v.id == id) (λ x y alike. ap (λ n. n == id) alike.id) xs ys h

  driven_there : (r : Role) → IsTrue (has_driven r xs) → IsTrue (has_driven r ys)
  driven_there (role.Rider rider) there = refl
  driven_there role.Clerk there = refl
  driven_there role.Examiner there = refl
  driven_there role.Officer there = refl
  driven_there role.Dispatcher there = refl
  driven_there (role.Driver vehicle) there = subst (λ (b : Bool). IsTrue b) (version_there vehicle) there
  driven_there role.Admin there = refl

vehicle_counts : (xs ys : List Vehicle) → Paired AlikeVehicle xs ys → vehicle_count xs ≡ vehicle_count ys
vehicle_counts [] [] h = refl
vehicle_counts [] (y ∷ ys) h = absurd h
vehicle_counts (x ∷ xs) [] h = absurd h
vehicle_counts (x ∷ xs) (y ∷ ys) h =
    ap₂ (λ (b : Bool) (n : ℕ). if b then n else n + 1)
    (any_paired AlikeVehicle (λ v. v.id == x.id) (λ v. v.id == y.id) (λ a b alike. ap₂ (λ (m n : ℕ). m == n) alike.id h.0.id) xs ys h.1)
    (vehicle_counts xs ys h.1)

vehicle_keys : (x y : Vehicle) → AlikeVehicle x y → vehicle_key x ≡ vehicle_key y
vehicle_keys x y alike = ap₂ pair_key alike.id alike.from_day

pub alike_vehicles : (callers : List Caller) (places : List Place) (xs ys : List Vehicle) → Paired AlikeVehicle xs ys → AreSoundVehicles callers places xs → AreSoundVehicles callers places ys
alike_vehicles callers places xs ys h sound = record {
  in_order = order_paired AlikeVehicle vehicle_key vehicle_keys xs ys h sound.in_order;
  depots_there = each_paired AlikeVehicle (HasDepot places) (HasDepot places)
      (λ x y alike there. subst (λ d. IsTrue (is_some (record_at (λ (p : Place). p.id) d places))) alike.depot there)
      xs ys h sound.depots_there;
  fleet = record {
    few = (let same = vehicle_counts xs ys h in let few = sound.fleet.few in omega arith);
    few_versions = λ id.
        let same = length_paired AlikeVehicle (versions_of id xs) (versions_of id ys)
        (filter_paired AlikeVehicle (λ v. v.id == id) (λ v. v.id == id) (λ x y alike. ap (λ n. n == id) alike.id) xs ys h) in
        let few = sound.fleet.few_versions id in
        omega arith;
  };
  driven_there = Each-weaker (HasDriven xs) (HasDriven ys) (λ caller there. driven_there xs ys h caller.role there) callers sound.driven_there;
}

newer_same : (day : ℕ) (x y a b : Vehicle) → AlikeVehicle x y → AlikeVehicle a b → is_newer day x a ≡ is_newer day y b
newer_same day x y a b one other =
    ap₂ ◌&&◌ (ap₂ ◌&&◌ (ap₂ (λ (m n : ℕ). m == n) other.id one.id) (ap₂ nat_lt one.from_day other.from_day)) (ap (λ n. nat_le n day) other.from_day)

force_same : (day : ℕ) (xs ys : List Vehicle) → Paired AlikeVehicle xs ys → (x y : Vehicle) → AlikeVehicle x y → is_in_force day xs x ≡ is_in_force day ys y
force_same day xs ys h x y alike =
    ap₂ ◌&&◌ (ap (λ n. nat_le n day) alike.from_day)
    (ap not (any_paired AlikeVehicle (is_newer day x) (is_newer day y) (λ a b other. newer_same day x y a b alike other) xs ys h))

in_force_paired : (day : ℕ) (xs ys : List Vehicle) → Paired AlikeVehicle xs ys → Paired AlikeVehicle (in_force day xs) (in_force day ys)
in_force_paired day xs ys h = filter_paired AlikeVehicle (is_in_force day xs) (is_in_force day ys) (force_same day xs ys h) xs ys h

-- ---- stops and their times

visits_same : (one other : Vehicle) → AlikeVehicle one other → (stops others : List Stop) → Paired AlikeStop stops others → visits one stops ≡ visits other others
visits_same one other alike stops others h =
    ap₂ (λ (depot : Visit) (all : List Visit). depot ∷ all ++ depot ∷ []) depot (each stops others h)
  where
    depot : depot_visit one ≡ depot_visit other
    depot = λ i. record { place = alike.depot i; lo = alike.opens i; hi = alike.closes i; service = 0 }

    visit : (x y : Stop) → AlikeStop x y → stop_visit x ≡ stop_visit y
    visit x y same = λ i. record { place = same.place i; lo = same.lo i; hi = same.hi i; service = same.service i }

    each : (xs ys : List Stop) → Paired AlikeStop xs ys → map stop_visit xs ≡ map stop_visit ys
    each [] [] h = refl
    each [] (y ∷ ys) h = absurd h
    each (x ∷ xs) [] h = absurd h
    each (x ∷ xs) (y ∷ ys) h = ap₂ ◌∷◌ (visit x y h.0) (each xs ys h.1)

times_alike : (minutes : ℕ → ℕ → Option ℕ) (one other : Vehicle) (stops others : List Stop) (b : List ℕ) → AlikeVehicle one other → Paired AlikeStop stops others
    → TimesFit minutes one stops b → TimesFit minutes other others b
times_alike minutes one other stops others b alike h fit =
    let same = visits_same one other alike stops others h in
    let size = length_paired AlikeStop stops others h in
    record {
      one_each = (let each = fit.one_each in omega arith);
      time_windows = λ k visit at. fit.time_windows k visit (subst (λ all. slice_get all k ≡ Some visit) (sym same) at);
      driving_times = λ k this next here there.
          fit.driving_times k this next (subst (λ all. slice_get all k ≡ Some this) (sym same) here)
          (subst (λ all. slice_get all (k + 1) ≡ Some next) (sym same) there);
      ride_limits = λ i j pickup drop at_pickup at_drop is_one is_other trip.
          let first = at_paired AlikeStop stops others h i pickup at_pickup in
          let second = at_paired AlikeStop stops others h j drop at_drop in
          let limit = fit.ride_limits i j first.0 second.0 first.1 second.1 (subst (λ kind. IsTrue (takes_aboard kind)) (sym first.2.kind) is_one)
          (subst (λ kind. IsTrue (lets_leave kind)) (sym second.2.kind) is_other) (let a = first.2.trip in let b = second.2.trip in omega arith) in
          let service = first.2.service in
          let ride = first.2.ride in
          omega arith;
      route_duration = (
          subst (λ n. slice_index b (n + 1) - slice_index b 0 ≤ other.duration) size
          (subst (λ d. slice_index b (length stops + 1) - slice_index b 0 ≤ d) alike.duration fit.route_duration)
          );
    }

-- ---- trips

trip_stops : (kind : StopKind) (x y : Trip) → AlikeTrip x y → AlikeStop (trip_stop kind x) (trip_stop kind y)
trip_stops Pickup x y alike = record {
  trip = alike.id;
  kind = refl;
  place = alike.from;
  lo = alike.window_from;
  hi = alike.window_to;
  service = alike.service;
  ride = alike.ride;
}
trip_stops Drop x y alike = record {
  trip = alike.id;
  kind = refl;
  place = alike.to;
  lo = refl;
  hi = ap (λ (by : Option ℕ). unwrap_or by last_minute) alike.by;
  service = alike.service;
  ride = alike.ride;
}

module _ (xs ys : List Trip) (h : Paired AlikeTrip xs ys) where
  found_trips : (k : ℕ) → BothOrNone AlikeTrip (record_at trip_key k xs) (record_at trip_key k ys)
  found_trips k = found_paired AlikeTrip trip_key (λ x y alike. alike.id) k xs ys h

  after_paired : (o m : Option Trip) (kind : StopKind) (one other : List Stop) → BothOrNone AlikeTrip o m → Paired AlikeStop one other
      → Paired AlikeStop (after_stop o kind one) (after_stop m kind other)
  after_paired None None kind one other both later = later
  after_paired None (Some y) kind one other both later = absurd both
  after_paired (Some x) None kind one other both later = absurd both
  after_paired (Some x) (Some y) kind one other both later = (trip_stops kind x y both, later)

  stops_paired : (stops : List PlannedStop) → Paired AlikeStop (stops_among xs stops) (stops_among ys stops)
  stops_paired [] = tt
  stops_paired (stop ∷ later) =
      after_paired (record_at trip_key stop.trip xs) (record_at trip_key stop.trip ys) stop.kind (stops_among xs later) (stops_among ys later) (found_trips stop.trip) (stops_paired later)

  stands_alike : (key number : ℕ) → StandsIn xs key number → StandsIn ys key number
  stands_alike key number it =
      let other = other_there AlikeTrip (record_at trip_key number xs) (record_at trip_key number ys) it.0 (found_trips number) it.1 in (
        other.0,
        other.1,
        subst (λ (status : TripStatus). IsTrue (stands status)) other.2.status it.2,
        sym (ap₂ pair_key other.2.vehicle other.2.day) ∙ it.3,
      )

  pub alike_plans : (plans : List Plan) → AreSoundPlans xs plans → AreSoundPlans ys plans
  alike_plans plans sound = record {
    in_order = sound.in_order;
    routes = sound.routes;
    trips_stand = Each-weaker (HasStandingTrips xs) (HasStandingTrips ys)
        (λ plan stand. Each-weaker (λ stop. StandsIn xs (plan_key plan) stop.trip) (λ stop. StandsIn ys (plan_key plan) stop.trip)
        (λ stop. stands_alike (plan_key plan) stop.trip) plan.stops stand) plans sound.trips_stand;
    have_stops = sound.have_stops;
    standing_planned = each_paired AlikeTrip (IsPlanned plans) (IsPlanned plans) planned xs ys h sound.standing_planned;
  }
    where
      planned : (x y : Trip) → AlikeTrip x y → IsPlanned plans x → IsPlanned plans y
      planned x y alike is up =
          subst (λ n. IsTrue (list_any (λ stop. stop.trip == n) (planned_stops y.vehicle y.wish.day plans))) alike.id
          (subst (λ day. IsTrue (list_any (λ stop. stop.trip == x.id) (planned_stops y.vehicle day plans))) alike.day
          (subst (λ vehicle. IsTrue (list_any (λ stop. stop.trip == x.id) (planned_stops vehicle x.wish.day plans))) alike.vehicle
          (is (subst (λ (status : TripStatus). IsTrue (stands status)) (sym alike.status) up))))

  pub alike_trips : (places : List Place) (riders others : List Rider) (last : ℕ) → Paired AlikeRider riders others
      → AreSoundTrips places riders last xs → AreSoundTrips places others last ys
  alike_trips places riders others last same sound = record {
    in_order = order_paired AlikeTrip trip_key (λ x y alike. alike.id) xs ys h sound.in_order;
    numbered = each_paired AlikeTrip (IsNumberedTo last) (IsNumberedTo last) (λ x y alike low. let id = alike.id in omega arith) xs ys h sound.numbered;
    of_riders = each_paired AlikeTrip (IsOfRider riders) (IsOfRider others)
        (λ x y alike there. subst (λ k. IsTrue (is_some (record_at rider_key k others))) alike.rider (rider_there riders others same x.rider there)) xs ys h sound.of_riders;
    places_there = each_paired AlikeTrip (HasPlaces places) (HasPlaces places)
        (λ x y alike there. (
          subst (λ k. IsTrue (is_some (record_at (λ (p : Place). p.id) k places))) alike.from there.0,
          subst (λ k. IsTrue (is_some (record_at (λ (p : Place). p.id) k places))) alike.to there.1,
        )) xs ys h sound.places_there;
  }

  pub alike_tables : (places : List Place) (vehicles others : List Vehicle) (plans : List Plan) (travel : List TravelTable) → Paired AlikeVehicle vehicles others
      → AreSoundTables places vehicles xs plans travel → AreSoundTables places others ys plans travel
  alike_tables places vehicles others plans travel same sound = record {
    table = sound.table;
    of_places = sound.of_places;
    drive = Each-weaker (DrivesIn vehicles travel xs) (DrivesIn others travel ys) drives plans sound.drive;
  }
    where
      drives : (plan : Plan) → DrivesIn vehicles travel xs plan → DrivesIn others travel ys plan
      drives plan any =
          let rows = rows_of (table_on plan.day travel) in
          some_paired AlikeVehicle (λ v. (v.id ≡ plan.vehicle) × HasTimes rows (stops_among xs plan.stops) v) (λ v. (v.id ≡ plan.vehicle) × HasTimes rows (stops_among ys plan.stops) v)
          (λ x y alike it. (
            sym alike.id ∙ it.0,
            (it.1.0, it.1.1, it.1.2, times_alike it.1.0 x y (stops_among xs plan.stops) (stops_among ys plan.stops) it.1.2 alike (stops_paired plan.stops) it.1.3),
          )) (in_force plan.day vehicles) (in_force plan.day others) (in_force_paired plan.day vehicles others same) any
