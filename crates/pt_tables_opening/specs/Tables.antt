-- What a content has of each table: its records as they are read back, and no records before that.
use Rattle.std.specs.Prelude.{◌≡◌, Option, None, Some, []}
use Rattle.pt_desk_rules.specs.Parts.{Part, key_in, record_in, records_of}
use Rattle.pt_desk_rules.specs.Parts as part
use Rattle.pt_desk_rules.specs.Ranges.{FitsIn}
use Rattle.pt_desk_rules.specs.State.{State}
use Rattle.pt_desk_rules.specs.TableNames.{part_of}
use Rattle.pt_base_records.specs.Records.{Each, IsInOrder}
use Rattle.pt_desk_rules.specs.declared.table_name.TableName.{TableName}
use Rattle.pt_desk_rules.specs.declared.table_name.TableName.TheVariants as table
use Rattle.pt_desk_spelling.specs.Ranges.{IsWord}
use Rattle.pt_tables_opening.specs.Gathered.{FitsRows}
use Rattle.pt_tables_rows.specs.Rows.{stop_rows}
use Rattle.pt_tables_rows.specs.Tables.{IsStoredPlan}

-- what is true of a record of a part when it is read back: a plan has a row for each of its stops
abbrev pub IsStoredIn : (p : Part) → record_in p → Type 0
IsStoredIn part.planned = FitsRows stop_rows IsStoredPlan
IsStoredIn p = FitsIn p

-- the records of a part are in the order of their keys, and each is in the ranges of its types
abbrev pub are_laid : State → Option Part → Type 0
are_laid s None = Unit {0}
are_laid s (Some p) = IsInOrder (key_in p) (records_of p s) × Each (IsStoredIn p) (records_of p s)

-- the same for the records of a table
abbrev pub IsLaidIn : State → TableName → Type 0
IsLaidIn s table.Desk = IsWord s.last_trip
IsLaidIn s t = are_laid s (part_of t)

-- no record of a part was read yet
abbrev pub are_none : State → Option Part → Type 0
are_none s None = Unit {0}
are_none s (Some p) = records_of p s ≡ []

-- no record of a table was read yet
abbrev pub HasNoneIn : State → TableName → Type 0
HasNoneIn s t = are_none s (part_of t)
