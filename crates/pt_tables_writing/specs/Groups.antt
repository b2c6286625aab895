-- When lists in memory, with all or some records of the tables, agree with the stored records. Also what a change makes
-- of a content, a few tables at a time.
use Rattle.std.specs.Prelude.{◌≡◌, ◌⊎◌, ℕ, List, None, [], ◌∷◌}
use Rattle.std.specs.Option.{unwrap_or}
use Rattle.sqlite.specs.Effect.{Database, IsDatabase}
use Rattle.pt_desk_rules.specs.Parts.{Part, edit_of, key_in, records_of}
use Rattle.pt_desk_rules.specs.Parts as part
use Rattle.pt_desk_rules.specs.State.{State, caller_key, kept_key, place_key, route_key, rider_key, entry_key}
use Rattle.pt_desk_rules.specs.State.{vehicle_key, travel_key, trip_key}
use Rattle.pt_desk_rules.specs.declared.change.Change.{Change}
use Rattle.pt_base_records.specs.Records.{Each, Edit, record_at, within, edited}
use Rattle.pt_base_records.specs.declared.span.Span.{Span}
use Rattle.pt_desk_scheduling.specs.Plan.{Plan, plan_key}
use Rattle.pt_tables_rows.specs.Rows.{desk_row, kept_row, rider_row, trip_row, vehicle_row, rider_chair_rows, trip_chair_rows}
use Rattle.pt_tables_rows.specs.Rows.{vehicle_chair_rows}
use Rattle.pt_tables_rows.specs.Schema.{desk_schema, desk_table, kept_table, riders_table, trips_table, vehicles_table, rider_chairs_table}
use Rattle.pt_tables_rows.specs.Schema.{trip_chairs_table, vehicle_chairs_table}
use Rattle.pt_tables_rows.specs.Tables.{Stands, IsWellFormed, PutsWellFormed}
use Rattle.pt_desk_spelling.specs.Ranges.{IsVehicle}
use Rattle.pt_desk_rules.specs.Ranges.{FitsKept, FitsRider, FitsTrip}
use Rattle.pt_tables_writing.specs.Stored.{EditsTable, PutsAll, TakesSpans}
use Rattle.pt_tables_writing.specs.Writes.{Rewrites}

-- within each of these spans of keys, the known records are the stored ones
abbrev pub KnowsTaken : {A : Type 0} → (A → ℕ) → List Span → List A → List A → Type 0
KnowsTaken key spans known there = Each (λ span. within key span known ≡ within key span there) spans

-- for the key of each of these records, the known record is the stored one, or none is known
abbrev pub KnowsReplaced : {A : Type 0} → (A → ℕ) → List A → List A → List A → Type 0
KnowsReplaced {A} key puts known there =
    let IsKnown : A → Type 0 = λ new. record_at key (key new) known ≡ record_at key (key new) there in
    Each (λ new. (record_at key (key new) known ≡ None) ⊎ IsKnown new) puts

-- `KnowsTaken` for what an edit removes, and `KnowsReplaced` for what it puts
pub record KnowsEdited {A : Type 0} (key : A → ℕ) (edit : Edit A) (known there : List A) : Type 0 where
  pub taken : KnowsTaken key edit.away known there
  pub replaced : KnowsReplaced key edit.puts known there

-- the known records of a part that the change removes are the stored ones; nothing is said of plans
abbrev pub KnowsIn : Part → Change → State → State → Type 0
KnowsIn part.planned change known there = Unit {0}
KnowsIn p change known there = KnowsTaken (key_in p) (edit_of p change).away (records_of p known) (records_of p there)

-- Except for plans, the known records that the change removes are the stored ones. So are the policy and the number
-- last given to a trip, unless the change gives new ones.
pub record AgreesFor (change : Change) (known there : State) : Type 0 where
  pub parts : (p : Part) → KnowsIn p change known there
  pub policy : unwrap_or change.policy known.policy ≡ unwrap_or change.policy there.policy
  pub last_trip : unwrap_or change.last_trip known.last_trip ≡ unwrap_or change.last_trip there.last_trip

-- what is known of the content agrees with the stored one, and so do these plans
abbrev pub AgreesWith : Change → State → List Plan → State → Type 0
AgreesWith change known plans there =
    AgreesFor change known there × KnowsEdited plan_key change.planned plans there.planned

-- each stored value that agrees is changed so
abbrev pub OfEach : {A : Type 0} → (A → Type 0) → (A → Database → Database → Type 0) → Database → Database → Type 0
OfEach {A} Agrees Changes old new = (there : A) → Agrees there → Changes there old new

-- callers, riders and their entries
abbrev pub with_people : Change → State → State
with_people change s = record s {
  callers = edited caller_key change.callers s.callers;
  riders = edited rider_key change.riders s.riders;
  entries = edited entry_key change.entries s.entries;
}

-- places, routes, vehicles and driving times
abbrev pub with_area : Change → State → State
with_area change s = record s {
  places = edited place_key change.places s.places;
  routes = edited route_key change.routes s.routes;
  vehicles = edited vehicle_key change.vehicles s.vehicles;
  travel = edited travel_key change.travel s.travel;
}

-- trips, planned stops, callers' last accepted writes and the agency's row
abbrev pub with_trips : Change → State → State
with_trips change s = record s {
  kept = edited kept_key change.kept s.kept;
  trips = edited trip_key change.trips s.trips;
  planned = edited plan_key change.planned s.planned;
  policy = unwrap_or change.policy s.policy;
  last_trip = unwrap_or change.last_trip s.last_trip;
}

-- If rows can represent the content and what the change puts, statements lead from the rows of `before` to those of
-- `after`.
abbrev pub Leads : Change → State → State → State → Database → Database → Type 0
Leads change content before after old new =
    IsWellFormed content → PutsWellFormed change → Stands before old → Stands after new

-- the same of statements whose last one leaves a database
abbrev pub Ends : Change → State → State → State → Database → Database → Type 0
Ends change content before after old new =
    IsWellFormed content → PutsWellFormed change → Stands before old → Stands after new × IsDatabase new

-- the one change, and then the other
abbrev pub Then : (Database → Database → Type 0) → (Database → Database → Type 0) → Database → Database → Type 0
Then First Next old new = (mid : Database) × First old mid × (mid.schema ≡ desk_schema → Next mid new)

-- the edit of riders, and then of the table of riders in wheelchairs
abbrev pub WritesRiders : Change → State → Database → Database → Type 0
WritesRiders change s =
    Then (EditsTable riders_table rider_key FitsRider (λ x. rider_row x ∷ []) change.riders s.riders)
    (EditsTable rider_chairs_table rider_key FitsRider rider_chair_rows change.riders s.riders)

-- the edit of trips, and then of the table of trips of riders in wheelchairs
abbrev pub WritesTrips : Change → State → Database → Database → Type 0
WritesTrips change s =
    Then (EditsTable trips_table trip_key FitsTrip (λ x. trip_row x ∷ []) change.trips s.trips)
    (EditsTable trip_chairs_table trip_key FitsTrip trip_chair_rows change.trips s.trips)

-- the edit of callers' last accepted writes, and then the agency's row as it is after the change; it leaves a database
abbrev pub WritesLast : Change → State → Database → Database → Type 0
WritesLast change s =
    Then (EditsTable kept_table kept_key FitsKept (λ x. kept_row x ∷ []) change.kept s.kept)
    (λ old new. Rewrites desk_table (desk_row s.policy s.last_trip ∷ [])
    (desk_row (unwrap_or change.policy s.policy) (unwrap_or change.last_trip s.last_trip) ∷ []) old new × IsDatabase new)

-- the edit of vehicles, and then the wheelchair places of those that are put
abbrev pub WritesVehicles : Change → State → Database → Database → Type 0
WritesVehicles change s =
    Then (EditsTable vehicles_table vehicle_key IsVehicle (λ x. vehicle_row x ∷ []) change.vehicles s.vehicles)
    (PutsAll vehicle_chairs_table vehicle_key IsVehicle vehicle_chair_rows change.vehicles.puts)

-- the same, after the wheelchair places of removed vehicles are deleted
abbrev pub WritesFleet : Change → State → Database → Database → Type 0
WritesFleet change s =
    Then (TakesSpans vehicle_chairs_table vehicle_key IsVehicle vehicle_chair_rows change.vehicles.away s.vehicles)
    (WritesVehicles change s)
