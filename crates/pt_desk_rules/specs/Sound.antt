-- The states that the desk may be in: they keep its limits, its orders and its references.
use Rattle.std.specs.List.{list_any}
use Rattle.std.specs.Prelude.{◌≡◌, ℕ, ◌+◌, ◌<◌, ◌≤◌, ◌==◌, IsTrue, List, [], ◌∷◌, length, Any, Option, Some, is_some}
use Rattle.pt_base_values.specs.Day.{IsDay}
use Rattle.pt_base_values.specs.TripStatus.{stands}
use Rattle.pt_base_values.specs.declared.place.Place.{Place}
use Rattle.pt_base_values.specs.declared.rider.Rider.{Rider}
use Rattle.pt_base_values.specs.declared.trip.Trip.{Trip}
use Rattle.pt_base_values.specs.declared.vehicle.Vehicle.{Vehicle}
use Rattle.pt_feasible.specs.Loads.{LoadsFit}
use Rattle.pt_feasible.specs.ServiceTimes.{TimesFit}
use Rattle.pt_feasible.specs.declared.stop.Stop.{Stop}
use Rattle.pt_base_records.specs.Keys.{pair_key}
use Rattle.pt_base_records.specs.Records.{Each, IsInOrder, IsTable, record_at}
use Rattle.pt_desk_scheduling.specs.Plan.{Plan, plan_key, planned_stops, stops_among, IsRoutePlan}
use Rattle.pt_desk_scheduling.specs.Routes.{IsFeasible}
use Rattle.pt_desk_spelling.specs.Requests.{IsSpelling}
use Rattle.pt_travel.specs.Chain.{Row}
use Rattle.pt_desk_rules.specs.State.{most_callers, most_places, most_routes, most_riders, most_entries}
use Rattle.pt_desk_rules.specs.State.{most_vehicles, most_versions, most_tables}
use Rattle.pt_desk_rules.specs.State.{State, caller_key, kept_key, place_key, route_key, rider_key, entry_key}
use Rattle.pt_desk_rules.specs.State.{vehicle_key, travel_key, trip_key, entries_of}
use Rattle.pt_desk_rules.specs.Facts.{has_subject}
use Rattle.pt_desk_rules.specs.Ranges.{KeepsRanges}
use Rattle.pt_desk_rules.specs.Booking.{rows_of, AreTimes}
use Rattle.pt_desk_rules.specs.Fleet.{in_force, vehicle_count, versions_of}
use Rattle.pt_desk_rules.specs.Rules.{are_there}
use Rattle.pt_desk_rules.specs.Travel.{table_on, TravelTable}
use Rattle.pt_desk_requests.specs.declared.caller.Caller.{Caller}
use Rattle.pt_desk_rules.specs.declared.kept.Kept.{Kept}
use Rattle.pt_desk_rules.specs.declared.change.FiledEntry.{FiledEntry}

-- a record with this key is in the list
abbrev pub IsIn : {A : Type 0} → (A → ℕ) → List A → ℕ → Type 0
IsIn key xs k = IsTrue (is_some (record_at key k xs))

-- no two callers have the same digest
abbrev pub HasOneHolder : List Caller → Caller → Type 0
HasOneHolder callers a = Each (λ b. a.digest ≡ b.digest → a.id ≡ b.id) callers

-- the rider or the vehicle that a caller's role names exists
abbrev pub HasSubject : List Rider → List Vehicle → Caller → Type 0
HasSubject riders vehicles caller = IsTrue (has_subject caller.role riders vehicles)

abbrev pub IsOfCaller : List Caller → Kept → Type 0
IsOfCaller callers kept = IsIn caller_key callers kept.caller

-- an accepted write: its number is at least 1, and its bytes spell a valid request
pub record IsKeptWrite (kept : Kept) : Type 0 where
  pub numbered : 0 < kept.number
  pub spelled : IsSpelling kept.request

-- the rider of the entry's case file exists
abbrev pub HasFiledRider : List Rider → FiledEntry → Type 0
HasFiledRider riders filed = IsIn rider_key riders filed.rider

-- the author of the entry is a caller
abbrev pub HasAuthor : List Caller → FiledEntry → Type 0
HasAuthor callers filed = IsIn caller_key callers filed.entered.author

-- the positions of these entries count up from n with no gap
abbrev pub AreNumberedFrom : ℕ → List FiledEntry → Type 0
AreNumberedFrom n [] = Unit {0}
AreNumberedFrom n (filed ∷ later) = (filed.position ≡ n) × AreNumberedFrom (n + 1) later

-- a case file has at most 200 entries, counted from 0
pub record IsSoundFile (entries : List FiledEntry) : Type 0 where
  pub numbered : AreNumberedFrom 0 entries
  pub within : length entries ≤ most_entries

-- a version's first day is in the range of days
abbrev pub HasFirstDay : Vehicle → Type 0
HasFirstDay version = IsDay version.from_day

-- its depot exists
abbrev pub HasDepot : List Place → Vehicle → Type 0
HasDepot places version = IsIn place_key places version.depot

-- at most 50 vehicles, each of at most 20 versions
pub record IsFleet (vehicles : List Vehicle) : Type 0 where
  pub few : vehicle_count vehicles ≤ most_vehicles
  pub few_versions : (id : ℕ) → length (versions_of id vehicles) ≤ most_versions

-- the places in the rows of a travel table exist
abbrev pub IsOfPlaces : List Place → TravelTable → Type 0
IsOfPlaces places table = IsTrue (are_there table.rows places)

-- a trip's number is at most the last number given
abbrev pub IsNumberedTo : ℕ → Trip → Type 0
IsNumberedTo last trip = trip.id ≤ last

-- the rider of a trip exists
abbrev pub IsOfRider : List Rider → Trip → Type 0
IsOfRider riders trip = IsIn rider_key riders trip.rider

-- both places of a trip exist
abbrev pub HasPlaces : List Place → Trip → Type 0
HasPlaces places trip = IsIn place_key places trip.wish.from × IsIn place_key places trip.wish.to

-- the trip of this number is not cancelled, and its vehicle and day have this key
abbrev pub StandsIn : List Trip → ℕ → ℕ → Type 0
StandsIn trips key number =
    (trip : Trip) × (record_at trip_key number trips ≡ Some trip) × IsTrue (stands trip.status)
    × (pair_key trip.vehicle trip.wish.day ≡ key)

-- the stops of a plan are those of trips in its vehicle on its day that are not cancelled
abbrev pub HasStandingTrips : List Trip → Plan → Type 0
HasStandingTrips trips plan = Each (λ stop. StandsIn trips (plan_key plan) stop.trip) plan.stops

-- the day of a trip is in the range of days
abbrev pub HasDay : Trip → Type 0
HasDay trip = IsDay trip.wish.day

-- the day of a plan is in the range of days
abbrev pub IsOnDay : Plan → Type 0
IsOnDay plan = IsDay plan.day

-- if a trip is not cancelled, the plan of its vehicle on its day has it
abbrev pub IsPlanned : List Plan → Trip → Type 0
IsPlanned plans trip = IsTrue (stands trip.status) →
    IsTrue (list_any (λ stop. stop.trip == trip.id) (planned_stops trip.vehicle trip.wish.day plans))

-- a plan has stops
abbrev pub HasStops : Plan → Type 0
HasStops plan = 0 < length plan.stops

-- by the driving times of these rows the vehicle can drive the stops
abbrev pub CanDrive : List Row → List Stop → Vehicle → Type 0
CanDrive rows stops vehicle =
    (minutes : ℕ → ℕ → Option ℕ) × AreTimes rows minutes × IsFeasible minutes vehicle stops

-- by the driving times of these rows there are service times that keep the vehicle's limits at the stops
abbrev pub HasTimes : List Row → List Stop → Vehicle → Type 0
HasTimes rows stops vehicle =
    (minutes : ℕ → ℕ → Option ℕ) × AreTimes rows minutes × (b : List ℕ) × TimesFit minutes vehicle stops b

-- this holds of the version of this vehicle that is in force on this day, whether it runs that day or not
abbrev pub HoldsInForce : (Vehicle → Type 0) → List Vehicle → ℕ → ℕ → Type 0
HoldsInForce P vehicles id day = Any (λ version. (version.id ≡ id) × P version) (in_force day vehicles)

-- the vehicle of a plan can keep its times at the stops of its trips, by the travel table that holds on its day
abbrev pub DrivesIn : List Vehicle → List TravelTable → List Trip → Plan → Type 0
DrivesIn vehicles travel trips plan =
    HoldsInForce (HasTimes (rows_of (table_on plan.day travel)) (stops_among trips plan.stops))
    vehicles plan.vehicle plan.day

-- the vehicle has seats and wheelchair places for all who are aboard after each stop
abbrev pub LoadsFitIn : List Vehicle → List Trip → Plan → Type 0
LoadsFitIn vehicles trips plan =
    HoldsInForce (λ version. LoadsFit version (stops_among trips plan.stops)) vehicles plan.vehicle plan.day

-- Each line but the first speaks only of the tables that it needs. So a write to another table keeps that line true.
pub record IsSound (s : State) : Type 0 where
  pub ranges : KeepsRanges s
  pub callers : IsTable caller_key most_callers s.callers
  pub one_holder_each : Each (HasOneHolder s.callers) s.callers
  pub subjects_there : Each (HasSubject s.riders s.vehicles) s.callers
  pub kept_in_order : IsInOrder kept_key s.kept
  pub kept_of_callers : Each (IsOfCaller s.callers) s.kept
  pub kept_writes : Each IsKeptWrite s.kept
  pub places : IsTable place_key most_places s.places
  pub routes : IsTable route_key most_routes s.routes
  pub riders : IsTable rider_key most_riders s.riders
  pub entries_in_order : IsInOrder entry_key s.entries
  pub entries_of_riders : Each (HasFiledRider s.riders) s.entries
  pub authors_there : Each (HasAuthor s.callers) s.entries
  pub files : (rider : ℕ) → IsSoundFile (entries_of rider s.entries)
  pub vehicles_in_order : IsInOrder vehicle_key s.vehicles
  pub depots_there : Each (HasDepot s.places) s.vehicles
  pub fleet : IsFleet s.vehicles
  pub travel : IsTable travel_key most_tables s.travel
  pub travel_of_places : Each (IsOfPlaces s.places) s.travel
  pub trips_in_order : IsInOrder trip_key s.trips
  pub trips_numbered : Each (IsNumberedTo s.last_trip) s.trips
  pub trips_of_riders : Each (IsOfRider s.riders) s.trips
  pub trip_places_there : Each (HasPlaces s.places) s.trips
  pub planned_in_order : IsInOrder plan_key s.planned
  pub planned_routes : Each IsRoutePlan s.planned
  pub planned_trips_stand : Each (HasStandingTrips s.trips) s.planned
  pub planned_have_stops : Each HasStops s.planned
  pub planned_drive : Each (DrivesIn s.vehicles s.travel s.trips) s.planned
  pub planned_load : Each (LoadsFitIn s.vehicles s.trips) s.planned
  pub standing_planned : Each (IsPlanned s.planned) s.trips
