-- The tables that hold records: what each holds, its place in a state and in a change, and its key. A definition over
-- all of them speaks of a part.
use Rattle.std.specs.Prelude.{ℕ, List}
use Rattle.pt_base_values.specs.declared.place.Place.{Place}
use Rattle.pt_base_values.specs.declared.rider.Rider.{Rider}
use Rattle.pt_base_values.specs.declared.trip.Trip.{Trip}
use Rattle.pt_base_values.specs.declared.vehicle.Vehicle.{Vehicle}
use Rattle.pt_corridor.specs.Route.{FixedRoute}
use Rattle.pt_base_records.specs.Records.{Edit}
use Rattle.pt_desk_requests.specs.declared.caller.Caller.{Caller}
use Rattle.pt_desk_scheduling.specs.Plan.{Plan, plan_key}
use Rattle.pt_desk_rules.specs.State.{State, caller_key, kept_key, place_key, route_key, rider_key, entry_key}
use Rattle.pt_desk_rules.specs.State.{vehicle_key, travel_key, trip_key}
use Rattle.pt_desk_rules.specs.Travel.{TravelTable}
use Rattle.pt_desk_rules.specs.declared.change.Change.{Change}
use Rattle.pt_desk_rules.specs.declared.change.FiledEntry.{FiledEntry}
use Rattle.pt_desk_rules.specs.declared.kept.Kept.{Kept}

pub data Part : Type 0 where
  callers : Part
  kept : Part
  places : Part
  routes : Part
  riders : Part
  entries : Part
  vehicles : Part
  travel : Part
  trips : Part
  planned : Part

-- the type of its records
abbrev pub record_in : Part → Type 0
record_in callers = Caller
record_in kept = Kept
record_in places = Place
record_in routes = FixedRoute
record_in riders = Rider
record_in entries = FiledEntry
record_in vehicles = Vehicle
record_in travel = TravelTable
record_in trips = Trip
record_in planned = Plan

-- its records in a state
abbrev pub records_of : (p : Part) → State → List (record_in p)
records_of callers s = s.callers
records_of kept s = s.kept
records_of places s = s.places
records_of routes s = s.routes
records_of riders s = s.riders
records_of entries s = s.entries
records_of vehicles s = s.vehicles
records_of travel s = s.travel
records_of trips s = s.trips
records_of planned s = s.planned

-- its edit in a change
abbrev pub edit_of : (p : Part) → Change → Edit (record_in p)
edit_of callers change = change.callers
edit_of kept change = change.kept
edit_of places change = change.places
edit_of routes change = change.routes
edit_of riders change = change.riders
edit_of entries change = change.entries
edit_of vehicles change = change.vehicles
edit_of travel change = change.travel
edit_of trips change = change.trips
edit_of planned change = change.planned

-- its key
abbrev pub key_in : (p : Part) → record_in p → ℕ
key_in callers = caller_key
key_in kept = kept_key
key_in places = place_key
key_in routes = route_key
key_in riders = rider_key
key_in entries = entry_key
key_in vehicles = vehicle_key
key_in travel = travel_key
key_in trips = trip_key
key_in planned = plan_key
