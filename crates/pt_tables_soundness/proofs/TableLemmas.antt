-- A state is sound if each of its tables is.
use Rattle.std.proofs.Common.{ℕ, zero, suc, ◌-◌, ◌≤◌, IsTrue, List, Option, None, Some, [], ◌∷◌, lit<, lit≤, take, refl, arith}
use Rattle.pt_base_values.specs.declared.rider.Rider.{Rider}
use Rattle.pt_base_values.specs.declared.vehicle.Vehicle.{Vehicle}
use Rattle.pt_base_records.specs.Records.{Each}
use Rattle.pt_base_records.proofs.OrderLemmas.{Each-both, Each-weaker}
use Rattle.pt_base_records.proofs.SplitLemmas.{Each-at}
use Rattle.pt_desk_requests.specs.declared.caller.Role.{Role}
use Rattle.pt_desk_requests.specs.declared.caller.Role.TheVariants as role
use Rattle.pt_desk_rules.specs.Facts.{has_subject}
use Rattle.pt_desk_rules.specs.Parts.{Part, records_of}
use Rattle.pt_desk_rules.specs.Parts as part
use Rattle.pt_desk_rules.specs.Sound.{HasFirstDay, HasSubject, IsSound}
use Rattle.pt_desk_rules.specs.State.{State}
use Rattle.pt_desk_scheduling.specs.Plan.{IsRoutePlan}
use Rattle.pt_desk_rules.specs.TableNames.{all_tables, number_of, part_of, table_count}
use Rattle.pt_tables_soundness.specs.Tables.{has_driven, has_rider, HasDriven, HasRider, IsSoundIn, IsSoundTo, KeepsLinesIn, KeepsRangesIn, keeps_ranges}
use Rattle.pt_desk_store.specs.Ranges.{IsVehicle}
use Rattle.pt_desk_rules.specs.Ranges.{FitsIn, KeepsRanges}
use Rattle.pt_desk_rules.specs.declared.table_name.TableName.{TableName}
use Rattle.pt_desk_rules.specs.declared.table_name.TableName.TheVariants as table

-- the subject of a role is its vehicle and its rider
subject_of : (r : Role) (riders : List Rider) (vehicles : List Vehicle) → IsTrue (has_driven r vehicles) → IsTrue (has_rider r riders)
    → IsTrue (has_subject r riders vehicles)
subject_of (role.Rider rider) riders vehicles driven there = there
subject_of role.Clerk riders vehicles driven there = refl
subject_of role.Examiner riders vehicles driven there = refl
subject_of role.Officer riders vehicles driven there = refl
subject_of role.Dispatcher riders vehicles driven there = refl
subject_of (role.Driver vehicle) riders vehicles driven there = driven
subject_of role.Admin riders vehicles driven there = refl

driven_of : (r : Role) (riders : List Rider) (vehicles : List Vehicle) → IsTrue (has_subject r riders vehicles) → IsTrue (has_driven r vehicles)
driven_of (role.Rider rider) riders vehicles there = refl
driven_of role.Clerk riders vehicles there = refl
driven_of role.Examiner riders vehicles there = refl
driven_of role.Officer riders vehicles there = refl
driven_of role.Dispatcher riders vehicles there = refl
driven_of (role.Driver vehicle) riders vehicles there = there
driven_of role.Admin riders vehicles there = refl

rider_of : (r : Role) (riders : List Rider) (vehicles : List Vehicle) → IsTrue (has_subject r riders vehicles) → IsTrue (has_rider r riders)
rider_of (role.Rider rider) riders vehicles there = there
rider_of role.Clerk riders vehicles there = refl
rider_of role.Examiner riders vehicles there = refl
rider_of role.Officer riders vehicles there = refl
rider_of role.Dispatcher riders vehicles there = refl
rider_of (role.Driver vehicle) riders vehicles there = refl
rider_of role.Admin riders vehicles there = refl

kept_ranges : (s : State) → KeepsRanges s → (o : Option Part) → keeps_ranges s o
kept_ranges s ranges None = tt
kept_ranges s ranges (Some p) = ranges.parts p

ranges_in : (s : State) → KeepsRanges s → (t : TableName) → KeepsRangesIn s t
ranges_in s ranges table.Desk = ranges.last_trip
ranges_in s ranges t = kept_ranges s ranges (part_of t)

lines_in : (s : State) → IsSound s → (t : TableName) → KeepsLinesIn s t
lines_in s sound table.Desk = tt
lines_in s sound table.Callers = record { table = sound.callers; one_holder_each = sound.one_holder_each }
lines_in s sound table.Kept = record { in_order = sound.kept_in_order; of_callers = sound.kept_of_callers; writes = sound.kept_writes }
lines_in s sound table.Places = sound.places
lines_in s sound table.Fixed = sound.routes
lines_in s sound table.Vehicles = record {
  in_order = sound.vehicles_in_order;
  depots_there = sound.depots_there;
  fleet = sound.fleet;
  driven_there = Each-weaker (HasSubject s.riders s.vehicles) (HasDriven s.vehicles) (λ caller there. driven_of caller.role s.riders s.vehicles there) s.callers sound.subjects_there;
}
lines_in s sound table.Riders = record {
  table = sound.riders;
  riders_there = Each-weaker (HasSubject s.riders s.vehicles) (HasRider s.riders) (λ caller there. rider_of caller.role s.riders s.vehicles there) s.callers sound.subjects_there;
}
lines_in s sound table.Entries = record {
  in_order = sound.entries_in_order;
  of_riders = sound.entries_of_riders;
  authors_there = sound.authors_there;
  files = sound.files;
}
lines_in s sound table.Trips = record {
  in_order = sound.trips_in_order;
  numbered = sound.trips_numbered;
  of_riders = sound.trips_of_riders;
  places_there = sound.trip_places_there;
}
lines_in s sound table.Stops = record {
  in_order = sound.planned_in_order;
  routes = sound.planned_routes;
  trips_stand = sound.planned_trips_stand;
  have_stops = sound.planned_have_stops;
  standing_planned = sound.standing_planned;
}
lines_in s sound table.Travel = record {
  table = sound.travel;
  of_places = sound.travel_of_places;
  drive = sound.planned_drive;
}
lines_in s sound table.RiderChairs = tt
lines_in s sound table.VehicleChairs = tt
lines_in s sound table.TripChairs = sound.planned_load

pub sound_in : (s : State) → IsSound s → (t : TableName) → IsSoundIn s t
sound_in s sound t = (ranges_in s sound.ranges t, lines_in s sound t)

-- a property of all tables holds for these
pub each_table : (P : TableName → Type 0) → ((t : TableName) → P t) → (ts : List TableName) → Each P ts
each_table P all [] = tt
each_table P all (t ∷ ts) = (all t, each_table P all ts)

pub sound_to : (s : State) → IsSound s → IsSoundTo table_count s
sound_to s sound = each_table (IsSoundIn s) (sound_in s sound) all_tables

-- a property of the first n holds for fewer
fewer : {A : Type 0} (P : A → Type 0) (m n : ℕ) (xs : List A) → m ≤ n → Each P (take n xs) → Each P (take m xs)
fewer P zero n [] le each = tt
fewer P zero n (x ∷ xs) le each = tt
fewer P (suc m) n [] le each = tt
fewer P (suc m) zero (x ∷ xs) le each = absurd (omega arith)
fewer P (suc m) (suc n) (x ∷ xs) le each = (each.0, fewer P m n xs (omega arith) each.1)

-- what holds of the tables up to one holds of that one
here_in : (P : TableName → Type 0) (t : TableName) → Each P (take (number_of t) all_tables) → P t
here_in P table.Desk each = each.0
here_in P t each = Each-at P (take (number_of t) all_tables) each (number_of t - 1) t (lit< tt)

-- what holds of the first n tables holds of one among them
among : (P : TableName → Type 0) (n : ℕ) → Each P (take n all_tables) → (t : TableName) → number_of t ≤ n → P t
among P n each t within = here_in P t (fewer P (number_of t) n all_tables within each)

last_table : (t : TableName) → number_of t ≤ table_count
last_table table.Desk = lit≤ tt
last_table _ = lit≤ tt

-- where all tables are sound, each is
each_sound : (s : State) → IsSoundTo table_count s → (t : TableName) → IsSoundIn s t
each_sound s each t = among (IsSoundIn s) table_count each t (last_table t)

-- each part is in its ranges
ranges_of : (s : State) → IsSoundTo table_count s → (p : Part) → Each (FitsIn p) (records_of p s)
ranges_of s each part.callers = (each_sound s each table.Callers).0
ranges_of s each part.kept = (each_sound s each table.Kept).0
ranges_of s each part.places = (each_sound s each table.Places).0
ranges_of s each part.routes = (each_sound s each table.Fixed).0
ranges_of s each part.vehicles = (each_sound s each table.Vehicles).0
ranges_of s each part.riders = (each_sound s each table.Riders).0
ranges_of s each part.entries = (each_sound s each table.Entries).0
ranges_of s each part.trips = (each_sound s each table.Trips).0
ranges_of s each part.planned = (each_sound s each table.Stops).0
ranges_of s each part.travel = (each_sound s each table.Travel).0

pub sound_of : (s : State) → IsSoundTo table_count s → IsSound s
sound_of s each =
    let desk : IsSoundIn s table.Desk = each_sound s each table.Desk in
    let callers : IsSoundIn s table.Callers = each_sound s each table.Callers in
    let kept : IsSoundIn s table.Kept = each_sound s each table.Kept in
    let places : IsSoundIn s table.Places = each_sound s each table.Places in
    let routes : IsSoundIn s table.Fixed = each_sound s each table.Fixed in
    let vehicles : IsSoundIn s table.Vehicles = each_sound s each table.Vehicles in
    let riders : IsSoundIn s table.Riders = each_sound s each table.Riders in
    let entries : IsSoundIn s table.Entries = each_sound s each table.Entries in
    let trips : IsSoundIn s table.Trips = each_sound s each table.Trips in
    let plans : IsSoundIn s table.Stops = each_sound s each table.Stops in
    let travel : IsSoundIn s table.Travel = each_sound s each table.Travel in
    let loads : IsSoundIn s table.TripChairs = each_sound s each table.TripChairs in
    record {
      ranges = record { parts = ranges_of s each; last_trip = desk.0 };
      callers = callers.1.table;
      one_holder_each = callers.1.one_holder_each;
      subjects_there = Each-both (HasDriven s.vehicles) (HasRider s.riders) (HasSubject s.riders s.vehicles)
          (λ caller driven there. subject_of caller.role s.riders s.vehicles driven there) s.callers vehicles.1.driven_there riders.1.riders_there;
      kept_in_order = kept.1.in_order;
      kept_of_callers = kept.1.of_callers;
      kept_writes = kept.1.writes;
      places = places.1;
      routes = routes.1;
      riders = riders.1.table;
      entries_in_order = entries.1.in_order;
      entries_of_riders = entries.1.of_riders;
      authors_there = entries.1.authors_there;
      files = entries.1.files;
      vehicles_in_order = vehicles.1.in_order;
      depots_there = vehicles.1.depots_there;
      fleet = vehicles.1.fleet;
      travel = travel.1.table;
      travel_of_places = travel.1.of_places;
      trips_in_order = trips.1.in_order;
      trips_numbered = trips.1.numbered;
      trips_of_riders = trips.1.of_riders;
      trip_places_there = trips.1.places_there;
      planned_in_order = plans.1.in_order;
      planned_routes = plans.1.routes;
      planned_trips_stand = plans.1.trips_stand;
      planned_have_stops = plans.1.have_stops;
      planned_drive = travel.1.drive;
      planned_load = loads.1;
      standing_planned = plans.1.standing_planned;
    }

-- ---- facts from the tables before a table

-- vehicles in their ranges have first days that are in the range of days
pub days_in : (vehicles : List Vehicle) → Each IsVehicle vehicles → Each HasFirstDay vehicles
days_in vehicles each = Each-weaker IsVehicle HasFirstDay (λ version is. is.from_day) vehicles each

pub days_to : (s : State) → IsSoundTo 10 s → Each HasFirstDay s.vehicles
days_to s each = let vehicles : IsSoundIn s table.Vehicles = among (IsSoundIn s) 10 each table.Vehicles (lit≤ tt) in days_in s.vehicles vehicles.0

pub routes_to : (s : State) → IsSoundTo 10 s → Each IsRoutePlan s.planned
routes_to s each = let plans : IsSoundIn s table.Stops = among (IsSoundIn s) 10 each table.Stops (lit≤ tt) in plans.1.routes

pub first_ten : (s : State) → IsSoundTo 13 s → IsSoundTo 10 s
first_ten s each = fewer (IsSoundIn s) 10 13 all_tables (omega arith) each
