-- The tables and indexes of each version.
use Rattle.std.specs.Prelude.{ℕ, List, [], ◌∷◌, ◌+◌, ◌≤◌, ◌<◌, map, flat_map, take, drop, true, false, None, Some}
use Rattle.std.specs.Prelude.{codes}
use Rattle.std.specs.List.{sum_by}
use Rattle.sqlite.specs.Collation.TheVariants.{Binary}
use Rattle.sqlite.specs.declared.types.Value.TheVariants.{Null}
use Rattle.sqlite.specs.Table.{Table}
use Rattle.sqlite.specs.Schema.{Schema}
use Rattle.sqlite.specs.Kind.{Kind}
use Rattle.sqlite.specs.Kind.TheVariants.{Integer, Text, Blob}
use Rattle.sqlite_schema.specs.declared.schema.Column.{Column}
use Rattle.sqlite_schema.specs.declared.schema.Index.{Index}
use Rattle.sqlite_schema.specs.declared.schema.Reference.{Reference}
use Rattle.sqlite_schema.specs.declared.schema.Action.TheVariants.{NoAction}
use Rattle.sqlite_value.specs.declared.keys.Order.{Order}
use Rattle.pt_desk_rules.specs.declared.table_name.TableName.{TableName}
use Rattle.pt_desk_rules.specs.declared.table_name.TableName.TheVariants as named

-- a NOT NULL column of this kind; in a STRICT table it takes no values of another kind
abbrev pub column_of : Kind → List ℕ → Column
column_of kind name = record {
  name = name;
  kind = kind;
  is_strict = true;
  not_null = true;
  default = Null;
  collation = Binary;
}

abbrev pub number : List ℕ → Column
number name = column_of Integer name

abbrev pub bytes : List ℕ → Column
bytes name = column_of Blob name

abbrev pub text : List ℕ → Column
text name = column_of Text name

-- the INTEGER PRIMARY KEY, which is the rowid
abbrev pub row_number : List ℕ → Column
row_number name = record (number name) { not_null = false }

-- a foreign key: the column has row numbers of the parent table
abbrev pub refers : ℕ → List ℕ → Reference
refers column parent = record {
  columns = column ∷ [];
  parent = parent;
  parent_columns = codes "id" ∷ [];
  on_delete = NoAction;
  on_update = NoAction;
  is_deferred = false;
}

-- a foreign key of several columns, which are the key of a row of the parent table
abbrev pub refers_by : List ℕ → List ℕ → List (List ℕ) → Reference
refers_by columns parent key = record (refers 0 parent) { columns = columns; parent_columns = key }

abbrev pub ascending : Order
ascending = record { digits = 0 }

-- a table whose primary key is the rowid
abbrev pub numbered_table : List ℕ → ℕ → List Column → List Reference → Table
numbered_table name tree columns references = record {
  name = name;
  tree = tree;
  columns = columns;
  key = Some 0;
  primary = 0 ∷ [];
  uniques = [];
  orders = [];
  checks = [];
  references = references;
  computed = [];
  stamps = record { places = []; terms = []; formats = [] };
  is_counted = false;
}

-- a table whose primary key has these columns, counted from 1
abbrev pub keyed_table : List ℕ → ℕ → List Column → List ℕ → List Reference → Table
keyed_table name tree columns key references = record (numbered_table name tree columns references) {
  key = None;
  primary = key;
  uniques = key ∷ [];
  orders = ascending ∷ [];
}

abbrev pub desk_table : Table
desk_table = numbered_table (codes "desk") 0
    (row_number (codes "id") ∷ number (codes "version") ∷ number (codes "base") ∷ number (codes "transfer")
    ∷ number (codes "fare") ∷ number (codes "service") ∷ number (codes "extra_ride") ∷ number (codes "min_missed")
    ∷ number (codes "percent") ∷ number (codes "span_days") ∷ number (codes "last_trip") ∷ []) []

abbrev pub callers_table : Table
callers_table = record (numbered_table (codes "callers") 1
    (row_number (codes "id") ∷ number (codes "role") ∷ number (codes "subject") ∷ bytes (codes "digest") ∷ []) []) {
      uniques = (4 ∷ []) ∷ [];
      orders = ascending ∷ [];
    }

abbrev pub kept_table : Table
kept_table = numbered_table (codes "kept") 3
    (row_number (codes "caller") ∷ number (codes "number") ∷ bytes (codes "request") ∷ bytes (codes "reply") ∷ [])
    (refers 0 (codes "callers") ∷ [])

abbrev pub places_table : Table
places_table = numbered_table (codes "places") 4
    (row_number (codes "id") ∷ number (codes "x") ∷ number (codes "y") ∷ number (codes "core") ∷ []) []

abbrev pub fixed_table : Table
fixed_table = numbered_table (codes "fixed") 5
    (row_number (codes "id") ∷ number (codes "width") ∷ bytes (codes "points") ∷ number (codes "accessible")
    ∷ number (codes "days") ∷ number (codes "first_min") ∷ number (codes "last_min") ∷ []) []

abbrev pub vehicles_table : Table
vehicles_table = keyed_table (codes "vehicles") 6
    (number (codes "id") ∷ number (codes "from_day") ∷ number (codes "days") ∷ number (codes "depot")
    ∷ number (codes "capacity") ∷ number (codes "opens") ∷ number (codes "closes") ∷ number (codes "duration") ∷ [])
    (1 ∷ 2 ∷ []) (refers 4 (codes "places") ∷ [])

abbrev pub riders_table : Table
riders_table = numbered_table (codes "riders") 8
    (row_number (codes "id") ∷ number (codes "kind") ∷ number (codes "attendant") ∷ []) []

abbrev pub entries_table : Table
entries_table = keyed_table (codes "entries") 9
    (number (codes "rider") ∷ number (codes "place") ∷ number (codes "kind") ∷ number (codes "day")
    ∷ number (codes "author") ∷ number (codes "a") ∷ number (codes "b") ∷ text (codes "conditions")
    ∷ text (codes "words") ∷ [])
    (1 ∷ 2 ∷ []) (refers 1 (codes "riders") ∷ refers 5 (codes "callers") ∷ [])

abbrev pub trips_table : Table
trips_table = numbered_table (codes "trips") 11
    (row_number (codes "id") ∷ number (codes "rider") ∷ number (codes "day") ∷ number (codes "wish")
    ∷ number (codes "origin") ∷ number (codes "goal") ∷ number (codes "latest") ∷ number (codes "attendant")
    ∷ number (codes "companions") ∷ number (codes "fare") ∷ number (codes "service") ∷ number (codes "ride")
    ∷ number (codes "vehicle") ∷ number (codes "window_from") ∷ number (codes "window_to")
    ∷ number (codes "status") ∷ [])
    (refers 2 (codes "riders") ∷ refers 5 (codes "places") ∷ refers 6 (codes "places") ∷ [])

abbrev pub stops_table : Table
stops_table = keyed_table (codes "stops") 12
    (number (codes "vehicle") ∷ number (codes "day") ∷ number (codes "place") ∷ number (codes "trip")
    ∷ number (codes "kind") ∷ [])
    (1 ∷ 2 ∷ 3 ∷ []) (refers 4 (codes "trips") ∷ [])

abbrev pub travel_table : Table
travel_table = keyed_table (codes "travel") 14
    (number (codes "from_day") ∷ number (codes "a") ∷ number (codes "b") ∷ number (codes "minutes") ∷ [])
    (1 ∷ 2 ∷ 3 ∷ []) []

-- the riders in wheelchairs
abbrev pub rider_chairs_table : Table
rider_chairs_table =
    numbered_table (codes "rider_chairs") 16 (row_number (codes "rider") ∷ []) (refers 0 (codes "riders") ∷ [])

-- the wheelchair places of vehicles that have some
abbrev pub vehicle_chairs_table : Table
vehicle_chairs_table = keyed_table (codes "vehicle_chairs") 17
    (number (codes "id") ∷ number (codes "from_day") ∷ number (codes "chairs") ∷ []) (1 ∷ 2 ∷ [])
    (refers_by (1 ∷ 2 ∷ []) (codes "vehicles") (codes "id" ∷ codes "from_day" ∷ []) ∷ [])

-- the trips of riders in wheelchairs
abbrev pub trip_chairs_table : Table
trip_chairs_table =
    numbered_table (codes "trip_chairs") 19 (row_number (codes "trip") ∷ []) (refers 0 (codes "trips") ∷ [])

-- each table by its name
abbrev pub table_in : TableName → Table
table_in named.Desk = desk_table
table_in named.Callers = callers_table
table_in named.Kept = kept_table
table_in named.Places = places_table
table_in named.Fixed = fixed_table
table_in named.Vehicles = vehicles_table
table_in named.Riders = riders_table
table_in named.Entries = entries_table
table_in named.Trips = trips_table
table_in named.Stops = stops_table
table_in named.Travel = travel_table
table_in named.RiderChairs = rider_chairs_table
table_in named.VehicleChairs = vehicle_chairs_table
table_in named.TripChairs = trip_chairs_table

-- the tables of the first version
abbrev pub first_tables : List TableName
first_tables =
    named.Desk ∷ named.Callers ∷ named.Kept ∷ named.Places ∷ named.Fixed ∷ named.Vehicles ∷ named.Riders
    ∷ named.Entries ∷ named.Trips ∷ named.Stops ∷ named.Travel ∷ []

-- the tables that the second version adds
abbrev pub chairs_tables : List TableName
chairs_tables = named.RiderChairs ∷ named.VehicleChairs ∷ named.TripChairs ∷ []

-- the index that keeps the keys of a table unique
abbrev pub key_index : List ℕ → Table → List ℕ → Index
key_index name table columns = record {
  name = name;
  tree = table.tree + 1;
  table = table.tree;
  columns = columns;
  order = ascending;
  is_unique = true;
}

abbrev pub first_indexes : List Index
first_indexes =
    key_index (codes "sqlite_autoindex_callers_1") callers_table (4 ∷ [])
    ∷ key_index (codes "sqlite_autoindex_vehicles_1") vehicles_table (1 ∷ 2 ∷ [])
    ∷ key_index (codes "sqlite_autoindex_entries_1") entries_table (1 ∷ 2 ∷ [])
    ∷ key_index (codes "sqlite_autoindex_stops_1") stops_table (1 ∷ 2 ∷ 3 ∷ [])
    ∷ key_index (codes "sqlite_autoindex_travel_1") travel_table (1 ∷ 2 ∷ 3 ∷ []) ∷ []

abbrev pub chairs_index : Index
chairs_index = key_index (codes "sqlite_autoindex_vehicle_chairs_1") vehicle_chairs_table (1 ∷ 2 ∷ [])

-- an index of trips by one of their columns, counted from 1
abbrev pub trips_by : ℕ → List ℕ → ℕ → Index
trips_by tree name column =
    record (key_index name trips_table (column ∷ [])) { tree = tree; is_unique = false }

abbrev pub trips_rider : Index
trips_rider = trips_by 20 (codes "trips_rider") 2

abbrev pub trips_day : Index
trips_day = trips_by 21 (codes "trips_day") 3

abbrev pub trip_indexes : List Index
trip_indexes = trips_rider ∷ trips_day ∷ []

-- ---- versions

-- what a version adds to the one before it
pub record Version : Type 0 where
  pub tables : List TableName
  pub indexes : List Index
  -- how many statements make them
  pub statements : ℕ

-- the versions by number, from 1 on
abbrev pub versions : List Version
versions =
    record { tables = first_tables; indexes = first_indexes; statements = 11 }
    ∷ record { tables = chairs_tables; indexes = chairs_index ∷ trip_indexes; statements = 5 } ∷ []

-- the current version, the last one
abbrev pub table_version : ℕ
table_version = 2

-- a version before the current one
abbrev pub IsEarlier : ℕ → Type 0
IsEarlier version = (1 ≤ version) × (version < table_version)

-- the names of the tables of a version: those that it and the versions before it add
abbrev pub names_of : ℕ → List TableName
names_of version = flat_map (λ (v : Version). v.tables) (take version versions)

-- the names of the tables that the versions after `from` add, up to `to`
abbrev pub names_between : ℕ → ℕ → List TableName
names_between from to = flat_map (λ (v : Version). v.tables) (drop from (take to versions))

abbrev pub tables_of : ℕ → List Table
tables_of version = map table_in (names_of version)

abbrev pub tables_between : ℕ → ℕ → List Table
tables_between from to = map table_in (names_between from to)

abbrev pub indexes_of : ℕ → List Index
indexes_of version = flat_map (λ (v : Version). v.indexes) (take version versions)

-- how many statements make a version, with those before it
abbrev pub statement_count : ℕ → ℕ
statement_count version = sum_by (λ (v : Version). v.statements) (take version versions)

-- the tables of the current version
abbrev pub tables : List Table
tables = tables_of table_version

-- the database has the tables and indexes of this version, and no others
unfoldable pub schema_of : ℕ → Schema
schema_of version = record { tables = tables_of version; indexes = indexes_of version; views = [] }

-- those of the current version
unfoldable pub desk_schema : Schema
unfolding schema_of
desk_schema = schema_of table_version

-- a database with nothing in it
abbrev pub no_schema : Schema
no_schema = record { tables = []; indexes = []; views = [] }
