-- What a list keeper holds.
use Rattle.std.specs.Prelude.{ℕ, ◌≤◌, [], length}
use Rattle.pt_desk_rules.specs.State.{State}
use Rattle.pt_desk_rules.specs.declared.change.Change.{Change}

-- the room for more records in each table
pub record Room : Type 0 where
  pub callers : ℕ
  pub kept : ℕ
  pub places : ℕ
  pub routes : ℕ
  pub riders : ℕ
  pub entries : ℕ
  pub vehicles : ℕ
  pub travel : ℕ
  pub trips : ℕ
  pub planned : ℕ

abbrev pub no_room : Room
no_room = record {
  callers = 0;
  kept = 0;
  places = 0;
  routes = 0;
  riders = 0;
  entries = 0;
  vehicles = 0;
  travel = 0;
  trips = 0;
  planned = 0;
}

-- the records, and room for more
pub record Listed : Type 0 where
  pub content : State
  pub room : Room

-- The settings, which a keeper over a database holds in memory. It reads the kept requests, riders, entries, trips and
-- planned routes from its tables.
abbrev pub known_of : State → State
known_of s = record s { kept = []; riders = []; entries = []; trips = []; planned = [] }

-- a state with the known tables of another
abbrev pub with_known : State → State → State
with_known other s = record other {
  kept = s.kept;
  riders = s.riders;
  entries = s.entries;
  trips = s.trips;
  planned = s.planned;
}

-- there is room for what the change puts into the known tables
pub record HasKnownRoom (change : Change) (room : Room) : Type 0 where
  pub callers : length change.callers.puts ≤ room.callers
  pub places : length change.places.puts ≤ room.places
  pub routes : length change.routes.puts ≤ room.routes
  pub vehicles : length change.vehicles.puts ≤ room.vehicles
  pub travel : length change.travel.puts ≤ room.travel

-- there is room for all that the change puts
pub record HasRoom (change : Change) (room : Room) : Type 0 where
  pub callers : length change.callers.puts ≤ room.callers
  pub kept : length change.kept.puts ≤ room.kept
  pub places : length change.places.puts ≤ room.places
  pub routes : length change.routes.puts ≤ room.routes
  pub riders : length change.riders.puts ≤ room.riders
  pub entries : length change.entries.puts ≤ room.entries
  pub vehicles : length change.vehicles.puts ≤ room.vehicles
  pub travel : length change.travel.puts ≤ room.travel
  pub trips : length change.trips.puts ≤ room.trips
  pub planned : length change.planned.puts ≤ room.planned
