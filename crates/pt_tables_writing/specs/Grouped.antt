-- Rows that are added to a table, and stops that stay in theirs.
use Rattle.std.specs.Prelude.{◌≢◌, ℕ, List, ◌++◌, flat_map, take}
use Rattle.sqlite.specs.Effect.{Database}
use Rattle.sqlite.specs.Order.{Row}
use Rattle.sqlite.specs.Table.{Table}
use Rattle.pt_base_records.specs.Records.{Each}
use Rattle.pt_desk_scheduling.specs.Plan.{Plan, plan_key}
use Rattle.pt_desk_scheduling.specs.declared.planned.PlannedStop.{PlannedStop}
use Rattle.pt_tables_rows.specs.Rows.{stop_rows}
use Rattle.pt_tables_rows.specs.Schema.{stops_table}
use Rattle.pt_tables_rows.specs.Tables.{IsStoredPlan}
use Rattle.pt_tables_writing.specs.Writes.{Rewrites}

-- the table has these rows too; the other tables keep their rows
abbrev pub Adds : Table → List Row → Database → Database → Type 0
Adds table rows old new = (before : List Row) → Rewrites table before (rows ++ before) old new

-- the stops of this plan before this place stay, and so do all stops of other plans
abbrev pub KeepsStops : Plan → ℕ → Database → Database → Type 0
KeepsStops plan first old new =
    (stops : List PlannedStop) (others : List Plan) → Each (λ x. plan_key x ≢ plan_key plan) others
    → Each IsStoredPlan others
    → Rewrites stops_table (stop_rows (record plan { stops = stops }) ++ flat_map stop_rows others)
    (stop_rows (record plan { stops = take first stops }) ++ flat_map stop_rows others) old new
