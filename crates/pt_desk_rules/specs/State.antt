-- The desk's tables, their limits, and the result of a change.
use Rattle.std.specs.Prelude.{ℕ, List, [], ◌∷◌, Option, bytes_eq, find, map, take}
use Rattle.std.specs.Option.{unwrap_or}
use Rattle.pt_base_values.specs.declared.place.Place.{Place}
use Rattle.pt_base_values.specs.declared.policy.Policy.{Policy}
use Rattle.pt_base_values.specs.declared.rider.Rider.{Rider}
use Rattle.pt_base_values.specs.declared.trip.Trip.{Trip}
use Rattle.pt_base_values.specs.declared.vehicle.Vehicle.{Vehicle}
use Rattle.pt_corridor.specs.Route.{FixedRoute}
use Rattle.pt_base_records.specs.Keys.{pair_key}
use Rattle.pt_base_records.specs.Records.{Edit, edited, record_at, take_away, within}
use Rattle.pt_base_records.specs.declared.span.Span.{Span}
pub use Rattle.pt_rights_files.specs.Limits.{most_entries}
use Rattle.pt_rights_files.specs.declared.entry.Entered.{Entered}
use Rattle.pt_desk_scheduling.specs.Plan.{Plan, plan_key}
use Rattle.pt_desk_rules.specs.Travel.{TravelTable}
use Rattle.pt_desk_requests.specs.declared.caller.Caller.{Caller}
use Rattle.pt_desk_rules.specs.declared.kept.Kept.{Kept}
use Rattle.pt_desk_rules.specs.declared.change.Change.{Change}
use Rattle.pt_desk_rules.specs.declared.change.FiledEntry.{FiledEntry}

-- each table is in the order of its keys
pub record State : Type 0 where
  pub callers : List Caller
  -- the last accepted write of each caller that has one
  pub kept : List Kept
  pub policy : Policy
  pub places : List Place
  pub routes : List FixedRoute
  pub riders : List Rider
  -- the entries of all case files, ordered by rider and by position in the file
  pub entries : List FiledEntry
  -- the versions of all vehicles; each holds from its day on
  pub vehicles : List Vehicle
  pub travel : List TravelTable
  pub trips : List Trip
  -- the routes of the vehicles from day to day, with the stops of the trips that are not cancelled
  pub planned : List Plan
  -- the number that was last given to a trip
  pub last_trip : ℕ

-- the state of an agency that has these callers and this policy, and nothing else yet
abbrev pub new_state : List Caller → Policy → State
new_state callers policy = record {
  callers = callers;
  kept = [];
  policy = policy;
  places = [];
  routes = [];
  riders = [];
  entries = [];
  vehicles = [];
  travel = [];
  trips = [];
  planned = [];
  last_trip = 0;
}

-- the limits of the tables
abbrev pub most_callers : ℕ
most_callers = 1_000

abbrev pub most_places : ℕ
most_places = 100

abbrev pub most_routes : ℕ
most_routes = 50

abbrev pub most_riders : ℕ
most_riders = 100_000

abbrev pub most_vehicles : ℕ
most_vehicles = 50

-- the limit of one vehicle's versions
abbrev pub most_versions : ℕ
most_versions = 20

abbrev pub most_tables : ℕ
most_tables = 50

-- the last number that a trip can have
abbrev pub last_trip_number : ℕ
last_trip_number = 4_294_967_295

abbrev pub no_edit : {A : Type 0} → Edit A
no_edit = record { away = []; puts = [] }

-- an edit that removes the records in a span and puts one
abbrev pub replaces : {A : Type 0} → Span → A → Edit A
replaces span new = record { away = span ∷ []; puts = new ∷ [] }

abbrev pub puts_one : {A : Type 0} → A → Edit A
puts_one new = record { away = []; puts = new ∷ [] }

-- the key of each table
abbrev pub caller_key : Caller → ℕ
caller_key caller = caller.id

abbrev pub kept_key : Kept → ℕ
kept_key kept = kept.caller

abbrev pub place_key : Place → ℕ
place_key place = place.id

abbrev pub route_key : FixedRoute → ℕ
route_key route = route.id

abbrev pub rider_key : Rider → ℕ
rider_key rider = rider.id

abbrev pub entry_key : FiledEntry → ℕ
entry_key filed = pair_key filed.rider filed.position

abbrev pub vehicle_key : Vehicle → ℕ
vehicle_key version = pair_key version.id version.from_day

abbrev pub travel_key : TravelTable → ℕ
travel_key table = table.from_day

abbrev pub trip_key : Trip → ℕ
trip_key trip = trip.id

-- the caller whose key has this digest
abbrev pub caller_with : List ℕ → State → Option Caller
caller_with digest s = find (λ caller. bytes_eq caller.digest digest) s.callers

abbrev pub caller_of : ℕ → State → Option Caller
caller_of id s = record_at caller_key id s.callers

abbrev pub kept_of : ℕ → State → Option Kept
kept_of caller s = record_at kept_key caller s.kept

abbrev pub place_of : ℕ → State → Option Place
place_of id s = record_at place_key id s.places

abbrev pub route_of : ℕ → State → Option FixedRoute
route_of id s = record_at route_key id s.routes

abbrev pub rider_of : ℕ → State → Option Rider
rider_of id s = record_at rider_key id s.riders

abbrev pub trip_of : ℕ → State → Option Trip
trip_of id s = record_at trip_key id s.trips

-- the route of a vehicle on a day, if it has stops
abbrev pub plan_of : ℕ → ℕ → State → Option Plan
plan_of vehicle day s = record_at plan_key (pair_key vehicle day) s.planned

-- the keys of a rider's entries
abbrev pub span_of : ℕ → Span
span_of rider = record { from = pair_key rider 0; to = pair_key rider 4_294_967_295 }

-- a rider's entries in order of their positions
abbrev pub entries_of : ℕ → List FiledEntry → List FiledEntry
entries_of rider entries = within entry_key (span_of rider) entries

-- these entries as a case file, which has room for 200
abbrev pub file_with : List FiledEntry → List Entered
file_with entries = map (λ filed. filed.entered) (take most_entries entries)

-- a rider's case file, empty if nothing was entered
abbrev pub file_of : ℕ → State → List Entered
file_of rider s = file_with (entries_of rider s.entries)

-- the keys of a vehicle's versions of this day and later
abbrev pub versions_from : ℕ → ℕ → Span
versions_from id day = record { from = pair_key id day; to = pair_key id 4_294_967_295 }

-- the keys of travel tables of this day and later
abbrev pub tables_from : ℕ → Span
tables_from day = record { from = day; to = 4_294_967_295 }

-- the travel tables that stay when one of this day is put
abbrev pub tables_before : ℕ → List TravelTable → List TravelTable
tables_before day tables = take_away travel_key (tables_from day) tables

-- the state after the change
abbrev pub applied : Change → State → State
applied change s = record {
  callers = edited caller_key change.callers s.callers;
  kept = edited kept_key change.kept s.kept;
  policy = unwrap_or change.policy s.policy;
  places = edited place_key change.places s.places;
  routes = edited route_key change.routes s.routes;
  riders = edited rider_key change.riders s.riders;
  entries = edited entry_key change.entries s.entries;
  vehicles = edited vehicle_key change.vehicles s.vehicles;
  travel = edited travel_key change.travel s.travel;
  trips = edited trip_key change.trips s.trips;
  planned = edited plan_key change.planned s.planned;
  last_trip = unwrap_or change.last_trip s.last_trip;
}
