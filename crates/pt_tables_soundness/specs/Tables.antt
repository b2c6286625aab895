-- The tables of the database, and what a sound state requires of each. These are the ranges of its records, and each
-- line of soundness whose last table it is.
use Rattle.std.specs.Prelude.{ℕ, Bool, true, IsTrue, List, Option, None, Some, is_some, ◌-◌, take}
use Rattle.pt_base_values.specs.declared.place.Place.{Place}
use Rattle.pt_base_values.specs.declared.rider.Rider.{Rider}
use Rattle.pt_base_values.specs.declared.trip.Trip.{Trip}
use Rattle.pt_base_values.specs.declared.vehicle.Vehicle.{Vehicle}
use Rattle.pt_corridor.specs.Route.{FixedRoute}
use Rattle.pt_base_records.specs.Records.{Each, IsInOrder, IsTable, record_at}
use Rattle.pt_desk_requests.specs.declared.caller.Caller.{Caller}
use Rattle.pt_desk_requests.specs.declared.caller.Role.{Role}
use Rattle.pt_desk_requests.specs.declared.caller.Role.TheVariants as role
use Rattle.pt_desk_scheduling.specs.Plan.{Plan, plan_key, IsRoutePlan}
use Rattle.pt_desk_rules.specs.Fleet.{has_version}
use Rattle.pt_desk_rules.specs.State.{most_callers, most_places, most_routes, most_riders, most_tables}
use Rattle.pt_desk_rules.specs.Sound.{HasOneHolder, IsKeptWrite, IsOfCaller, HasFiledRider, HasAuthor, IsSoundFile}
use Rattle.pt_desk_rules.specs.Sound.{HasDepot, IsFleet, IsOfPlaces, IsNumberedTo, IsOfRider, HasPlaces}
use Rattle.pt_desk_rules.specs.Sound.{HasStandingTrips, HasStops, DrivesIn, LoadsFitIn, IsPlanned}
use Rattle.pt_desk_rules.specs.State.{caller_key, kept_key, place_key, route_key, rider_key, entry_key, vehicle_key}
use Rattle.pt_desk_rules.specs.State.{travel_key, trip_key, entries_of, State}
use Rattle.pt_desk_rules.specs.Travel.{TravelTable}
use Rattle.pt_desk_rules.specs.declared.kept.Kept.{Kept}
use Rattle.pt_desk_rules.specs.declared.change.FiledEntry.{FiledEntry}
use Rattle.pt_desk_rules.specs.Parts.{Part, records_of}
use Rattle.pt_desk_rules.specs.Ranges.{FitsIn}
use Rattle.pt_desk_rules.specs.TableNames.{all_tables, number_of, part_of}
use Rattle.pt_desk_store.specs.Ranges.{IsWord}
use Rattle.pt_desk_rules.specs.declared.table_name.TableName.{TableName}
use Rattle.pt_desk_rules.specs.declared.table_name.TableName.TheVariants as table

-- the vehicle that a role names exists, if it names one
abbrev pub has_driven : Role → List Vehicle → Bool
has_driven (role.Driver vehicle) vehicles = has_version vehicle vehicles
has_driven _ vehicles = true

-- the rider that a role names exists, if it names one
abbrev pub has_rider : Role → List Rider → Bool
has_rider (role.Rider rider) riders = is_some (record_at rider_key rider riders)
has_rider _ riders = true

abbrev pub HasDriven : List Vehicle → Caller → Type 0
HasDriven vehicles caller = IsTrue (has_driven caller.role vehicles)

abbrev pub HasRider : List Rider → Caller → Type 0
HasRider riders caller = IsTrue (has_rider caller.role riders)

pub record AreSoundCallers (callers : List Caller) : Type 0 where
  pub table : IsTable caller_key most_callers callers
  pub one_holder_each : Each (HasOneHolder callers) callers

pub record AreSoundKept (callers : List Caller) (kept : List Kept) : Type 0 where
  pub in_order : IsInOrder kept_key kept
  pub of_callers : Each (IsOfCaller callers) kept
  pub writes : Each IsKeptWrite kept

abbrev pub AreSoundPlaces : List Place → Type 0
AreSoundPlaces places = IsTable place_key most_places places

abbrev pub AreSoundRoutes : List FixedRoute → Type 0
AreSoundRoutes routes = IsTable route_key most_routes routes

pub record AreSoundVehicles (callers : List Caller) (places : List Place) (vehicles : List Vehicle) : Type 0 where
  pub in_order : IsInOrder vehicle_key vehicles
  pub depots_there : Each (HasDepot places) vehicles
  pub fleet : IsFleet vehicles
  pub driven_there : Each (HasDriven vehicles) callers

pub record AreSoundRiders (callers : List Caller) (riders : List Rider) : Type 0 where
  pub table : IsTable rider_key most_riders riders
  pub riders_there : Each (HasRider riders) callers

-- each rider's file is sound
abbrev pub AreSoundFiles : List FiledEntry → Type 0
AreSoundFiles entries = (rider : ℕ) → IsSoundFile (entries_of rider entries)

pub record AreSoundEntries (callers : List Caller) (riders : List Rider) (entries : List FiledEntry) : Type 0 where
  pub in_order : IsInOrder entry_key entries
  pub of_riders : Each (HasFiledRider riders) entries
  pub authors_there : Each (HasAuthor callers) entries
  pub files : AreSoundFiles entries

pub record AreSoundTrips (places : List Place) (riders : List Rider) (last : ℕ) (trips : List Trip) : Type 0 where
  pub in_order : IsInOrder trip_key trips
  pub numbered : Each (IsNumberedTo last) trips
  pub of_riders : Each (IsOfRider riders) trips
  pub places_there : Each (HasPlaces places) trips

pub record AreSoundPlans (trips : List Trip) (plans : List Plan) : Type 0 where
  pub in_order : IsInOrder plan_key plans
  pub routes : Each IsRoutePlan plans
  pub trips_stand : Each (HasStandingTrips trips) plans
  pub have_stops : Each HasStops plans
  pub standing_planned : Each (IsPlanned plans) trips

-- the travel tables are sound, and by their times the vehicles can drive their plans
pub record AreSoundTables (places : List Place) (vehicles : List Vehicle) (trips : List Trip) (plans : List Plan)
    (travel : List TravelTable) : Type 0 where
  pub table : IsTable travel_key most_tables travel
  pub of_places : Each (IsOfPlaces places) travel
  pub drive : Each (DrivesIn vehicles travel trips) plans

-- The vehicles have room for all aboard. This needs the last tables too: the wheelchair places and the riders and trips
-- that take them.
abbrev pub AreSoundLoads : List Vehicle → List Trip → List Plan → Type 0
AreSoundLoads vehicles trips plans = Each (LoadsFitIn vehicles trips) plans

-- the records of a part are in their ranges
abbrev pub keeps_ranges : State → Option Part → Type 0
keeps_ranges s None = Unit {0}
keeps_ranges s (Some p) = Each (FitsIn p) (records_of p s)

-- the records of a table are in their ranges
abbrev pub KeepsRangesIn : State → TableName → Type 0
KeepsRangesIn s table.Desk = IsWord s.last_trip
KeepsRangesIn s t = keeps_ranges s (part_of t)

-- the other lines of soundness that belong to a table
abbrev pub KeepsLinesIn : State → TableName → Type 0
KeepsLinesIn s table.Desk = Unit {0}
KeepsLinesIn s table.Callers = AreSoundCallers s.callers
KeepsLinesIn s table.Kept = AreSoundKept s.callers s.kept
KeepsLinesIn s table.Places = AreSoundPlaces s.places
KeepsLinesIn s table.Fixed = AreSoundRoutes s.routes
KeepsLinesIn s table.Vehicles = AreSoundVehicles s.callers s.places s.vehicles
KeepsLinesIn s table.Riders = AreSoundRiders s.callers s.riders
KeepsLinesIn s table.Entries = AreSoundEntries s.callers s.riders s.entries
KeepsLinesIn s table.Trips = AreSoundTrips s.places s.riders s.last_trip s.trips
KeepsLinesIn s table.Stops = AreSoundPlans s.trips s.planned
KeepsLinesIn s table.Travel = AreSoundTables s.places s.vehicles s.trips s.planned s.travel
KeepsLinesIn s table.RiderChairs = Unit {0}
KeepsLinesIn s table.VehicleChairs = Unit {0}
KeepsLinesIn s table.TripChairs = AreSoundLoads s.vehicles s.trips s.planned

-- what a sound state requires of a table
abbrev pub IsSoundIn : State → TableName → Type 0
IsSoundIn s table = KeepsRangesIn s table × KeepsLinesIn s table

-- the first `number` tables are sound
abbrev pub IsSoundTo : ℕ → State → Type 0
IsSoundTo number s = Each (IsSoundIn s) (take number all_tables)

-- each table before this one is sound
abbrev pub IsSoundBefore : State → TableName → Type 0
IsSoundBefore s table = IsSoundTo (number_of table - 1) s
