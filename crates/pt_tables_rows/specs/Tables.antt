-- The tables of a database, the content that they have, and the contents that rows can represent. The records of such a
-- content are in the order of their keys and in their ranges. Each of its plans has a stop, since a plan with no stop
-- has no row.
use Rattle.std.specs.Prelude.{◌≡◌, ◌≢◌, ◌≤◌, ℕ, List, [], ◌∷◌, drop, map, IsTrue, IsPermutation}
use Rattle.std.specs.Prelude.{Result, Ok, Err}
use Rattle.std.specs.List.{AllByRecursion}
use Rattle.sqlite.specs.declared.error.Error.{Error}
use Rattle.sqlite.specs.Effect.{Database}
use Rattle.sqlite.specs.Order.{Row}
use Rattle.sqlite.specs.Rows.{shown}
use Rattle.sqlite.specs.State.{State as Connected, HasCleanDisk, KeepsCommit}
use Rattle.sqlite.specs.Table.{Table}
use Rattle.sqlite.specs.Tree.{Trees, IsTable, rowid}
use Rattle.sqlite.specs.View.{is_int}
use Rattle.pt_desk_rules.specs.Parts.{Part, key_in, record_in, records_of}
use Rattle.pt_desk_rules.specs.Parts as part
use Rattle.pt_desk_rules.specs.Ranges.{FitsIn, FitsPlan, KeepsRanges, PutsInRange}
use Rattle.pt_desk_rules.specs.Sound.{HasStops}
use Rattle.pt_desk_rules.specs.State.{State}
use Rattle.pt_desk_rules.specs.declared.change.Change.{Change}
use Rattle.pt_desk_rules.specs.declared.table_name.TableName.{TableName}
use Rattle.pt_base_records.specs.Records.{Each, IsInOrder}
use Rattle.pt_desk_scheduling.specs.Plan.{Plan}
use Rattle.pt_tables_rows.specs.Rows.{rows_in, versioned_rows}
use Rattle.pt_tables_rows.specs.Schema.{table_version, table_in, tables_of, tables_between, names_of, names_between}
use Rattle.pt_tables_rows.specs.Schema.{schema_of, desk_schema, tables}

-- the tables of version `from` keep their rows, and those that the versions after it add, up to `to`, have no row
pub record AddsVersions (from to : ℕ) (old new : Database) : Type 0 where
  pub schema : new.schema ≡ schema_of to
  pub kept : AllByRecursion (λ t. new.trees t.tree ≡ old.trees t.tree) (tables_of from)
  pub added : AllByRecursion (λ t. new.trees t.tree ≡ []) (tables_between from to)

-- the tables are there, and have no row
pub record IsBlank (db : Database) : Type 0 where
  pub schema : db.schema ≡ desk_schema
  pub rows : AllByRecursion (λ t. db.trees t.tree ≡ []) tables

-- a row of a table as a query shows it, without its rowid
abbrev pub columns_of : Table → Row → Row
columns_of table row = drop 1 (shown table row)

-- the rows of the table are these, in some order
abbrev pub AreRows : Table → Trees → List Row → Type 0
AreRows table trees rows = IsPermutation (map (columns_of table) (trees table.tree)) rows

-- the rows of this table are the content's
abbrev pub HasRowsIn : State → Trees → TableName → Type 0
HasRowsIn content trees t = AreRows (table_in t) trees (rows_in t content)

-- the rows of the tables are those of the content
abbrev pub HasRows : State → Trees → Type 0
HasRows content trees = (t : TableName) → HasRowsIn content trees t

-- The tables of this version have the rows of the content, and the agency's row has this version. In the tables that
-- later versions add, the content has no row: a content of version 1 has no wheelchair, and no place for one.
pub record HasRowsOf (version : ℕ) (content : State) (trees : Trees) : Type 0 where
  pub rows : AllByRecursion (λ t. AreRows (table_in t) trees (versioned_rows version t content)) (names_of version)
  pub none : AllByRecursion (λ t. rows_in t content ≡ []) (names_between version table_version)

-- the rowids are integers in ascending order
pub record HaveRowids (rows : List Row) : Type 0 where
  pub rising : IsTable rows
  pub whole : AllByRecursion (λ row. IsTrue (is_int (rowid row))) rows

-- the database has these tables, with the rows of the content
pub record Stands (content : State) (db : Database) : Type 0 where
  pub schema : db.schema ≡ desk_schema
  pub rows : HasRows content db.trees
  pub rowids : AllByRecursion (λ t. HaveRowids (db.trees t.tree)) tables

-- the connection, if it is open, has the content and has committed it
pub record IsKept (content : State) (s : Connected) : Type 0 where
  pub stands : IsTrue s.is_open → Stands content s.now
  pub committed : IsTrue s.is_open → s.committed ≡ s.now

-- each other table has the rows that it had
abbrev pub Others : Table → Trees → Trees → Type 0
Others table old new = AllByRecursion (λ t. t.tree ≢ table.tree → new t.tree ≡ old t.tree) tables

-- if the table was empty, it now has this row; the other tables keep their rows
pub record Fills (table : Table) (row : Row) (old new : Database) : Type 0 where
  pub schema : new.schema ≡ desk_schema
  pub rows : old.trees table.tree ≡ [] → AreRows table new.trees (row ∷ [])
  pub rowids : old.trees table.tree ≡ [] → HaveRowids (new.trees table.tree)
  pub others : Others table old.trees new.trees

-- On Ok, a statement in a transaction makes these changes to the desk's tables. It commits nothing, even on an error.
abbrev pub ChangesIfOk : {X : Type 0} → Connected → Connected → (Database → Database → Type 0) → Result X Error → Type 0
ChangesIfOk old new Changes (Ok x) =
    KeepsCommit old new × IsTrue new.in_transaction × (old.now.schema ≡ desk_schema → Changes old.now new.now)
ChangesIfOk old new Changes (Err e) = KeepsCommit old new

-- the same, if the disk stayed clean and a transaction is open
abbrev pub Makes : {X : Type 0} → Connected → Connected → (Database → Database → Type 0) → Result X Error → Type 0
Makes old new Changes result = HasCleanDisk new → IsTrue old.in_transaction → ChangesIfOk old new Changes result

-- On Ok, statements in a transaction add the versions after `from`, up to `to`. They commit nothing, even on an error.
abbrev pub AddsIfOk : {X : Type 0} → ℕ → ℕ → Connected → Connected → Result X Error → Type 0
AddsIfOk from to old new (Ok x) =
    KeepsCommit old new × IsTrue new.in_transaction
    × (from ≤ to → to ≤ table_version → old.now.schema ≡ schema_of from → AddsVersions from to old.now new.now)
AddsIfOk from to old new (Err e) = KeepsCommit old new

-- On Ok, statements in a transaction lead from a `From` database to a `To` database. They commit nothing, even on an
-- error.
abbrev pub LeadsIfOk : {X : Type 0} → Connected → Connected → (Database → Type 0) → (Database → Type 0)
    → Result X Error → Type 0
LeadsIfOk old new From To (Ok x) = KeepsCommit old new × IsTrue new.in_transaction × (From old.now → To new.now)
LeadsIfOk old new From To (Err e) = KeepsCommit old new

-- ---- the contents that rows can represent

-- a plan that rows can represent
abbrev pub IsStoredPlan : Plan → Type 0
IsStoredPlan plan = FitsPlan plan × HasStops plan

-- what is true of a record of a part that rows can represent
abbrev pub IsStored : (p : Part) → record_in p → Type 0
IsStored part.planned = IsStoredPlan
IsStored p = FitsIn p

pub record IsWellFormed (s : State) : Type 0 where
  pub order : (p : Part) → IsInOrder (key_in p) (records_of p s)
  pub stops : Each HasStops s.planned
  pub ranges : KeepsRanges s

-- rows can represent each record that the change puts
pub record PutsWellFormed (change : Change) : Type 0 where
  pub stops : Each HasStops change.planned.puts
  pub ranges : PutsInRange change
