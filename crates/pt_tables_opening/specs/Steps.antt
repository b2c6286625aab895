-- What an opening does, table after table: it reads the rows of one, and checks them before it reads the next.
use Rattle.std.specs.Prelude.{◌≡◌, ◌⊎◌, ℕ, ◌-◌, List, take, drop, map, flat_map, Result, IfOk, IfErr}
use Rattle.sqlite.specs.Order.{Row}
use Rattle.sqlite.specs.State.{State as Connected, HasCleanDisk}
use Rattle.sqlite.specs.Table.{Table}
use Rattle.sqlite.specs.Tree.{Trees}
use Rattle.pt_base_values.specs.declared.fault.Cause.TheVariants as cause
use Rattle.pt_desk_store.specs.Listed.{Listed}
use Rattle.pt_desk_rules.specs.State.{State, applied}
use Rattle.pt_desk_rules.specs.declared.change.Change.{Change}
use Rattle.pt_base_records.specs.Records.{Each, Edit}
use Rattle.pt_desk_rules.specs.TableNames.{all_tables, number_of}
use Rattle.pt_tables_soundness.specs.Tables.{IsSoundBefore, IsSoundTo}
use Rattle.pt_desk_rules.specs.declared.table_name.TableName.{TableName}
use Rattle.pt_tables_opening.specs.Beside.{NoneBeside}
use Rattle.pt_tables_opening.specs.Faults.{IsRefusal, fault, unsound}
use Rattle.pt_tables_opening.specs.Gathered.{AreRowsOfNone, FitsRows, IsFitting}
use Rattle.pt_tables_opening.specs.Opening.{IsCaused, Rests}
use Rattle.pt_tables_opening.specs.Refused.{SparesOtherVersion, TellsWhy}
use Rattle.pt_tables_opening.specs.Standing.{NoneStandsTo}
use Rattle.pt_tables_opening.specs.Tables.{HasNoneIn, IsLaidIn}
use Rattle.pt_tables_opening.specs.declared.open_fault.OpenFault.{OpenFault}
use Rattle.pt_tables_rows.specs.Schema.{desk_schema}
use Rattle.pt_tables_rows.specs.Tables.{AreRows, HasRowsIn}

-- the first `number` tables were read and found sound, and no others
pub record IsReadTo (number : ℕ) (s : State) : Type 0 where
  pub sound : IsSoundTo number s
  pub later : Each (HasNoneIn s) (drop number all_tables)

-- this table was read too, but not checked yet
pub record IsReadIn (table : TableName) (s : State) : Type 0 where
  pub laid : IsLaidIn s table
  pub sound : IsSoundBefore s table
  pub later : Each (HasNoneIn s) (drop (number_of table) all_tables)

-- the rows of the first `number` tables are the content's
abbrev pub HasRowsTo : ℕ → State → Trees → Type 0
HasRowsTo number s trees = Each (HasRowsIn s trees) (take number all_tables)

-- The change that puts records of such an edit adds a table to a content that has the earlier ones: if the tables show
-- the edit, the content then has the rows of this one too. If they show that there is none, no content has the rows.
pub record Adds {A : Type 0} (table : TableName) (s : State) (puts : Edit A → Change) (IsSuch : Edit A → Type 0)
    (Show : Trees → Edit A → Type 0) (ShowNone : Trees → Type 0) : Type 0 where
  pub read : (edit : Edit A) → IsSuch edit → IsReadIn table (applied (puts edit) s)
  pub rows : (edit : Edit A) (trees : Trees) → IsSuch edit → Show trees edit
      → HasRowsTo (number_of table - 1) s trees → HasRowsTo (number_of table) (applied (puts edit) s) trees
  pub none : (trees : Trees) → HasRowsTo (number_of table - 1) s trees → ShowNone trees
      → NoneStandsTo (number_of table) trees

-- the same of records that have all rows of a table
abbrev pub AddsRecords : {A : Type 0} → TableName → State → (Edit A → Change) → (A → ℕ) → Table → (A → List Row)
    → (A → Type 0) → Type 0
AddsRecords table s puts key home rows_of Fits =
    Adds table s puts (IsFitting key (FitsRows rows_of Fits))
    (λ trees edit. AreRows home trees (flat_map rows_of edit.puts))
    (AreRowsOfNone key home rows_of (FitsRows rows_of Fits))

-- the same of records that were known, with all rows of a second table
abbrev pub AddsMarks : {A : Type 0} → TableName → State → (Edit A → Change) → (A → ℕ) → Table → Table → (A → Row)
    → (A → List Row) → (A → Type 0) → List A → Type 0
AddsMarks table s puts key home second row_of beside_of Fits known =
    Adds table s puts (λ edit. IsFitting key Fits edit × (map row_of edit.puts ≡ map row_of known))
    (λ trees edit. AreRows second trees (flat_map beside_of edit.puts))
    (λ trees. AreRows home trees (map row_of known) → NoneBeside key home second row_of beside_of Fits trees)

-- out of memory, the store failed, or the rows of the table are at fault for this reason
abbrev pub IsFaultOf : TableName → Type 0 → OpenFault → Type 0
IsFaultOf table Why refused =
    (refused ≡ fault cause.Memory)
    ⊎ ((refused ≡ fault cause.StoreFailed) ⊎ ((refused ≡ unsound (number_of table)) × Why))

-- A table is read: if the content has the rows of all earlier tables, the change adds the records of this one.
pub record ReadsTable (table : TableName) (old new : Connected) (s : State) (result : Result Change OpenFault)
    : Type 0 where
  pub rests : Rests old new result
  pub read : IfOk result (λ change. IsReadIn table (applied change s))
  pub rows : HasCleanDisk new → old.now.schema ≡ desk_schema → HasRowsTo (number_of table - 1) s old.now.trees
      → IfOk result (λ change. HasRowsTo (number_of table) (applied change s) old.now.trees)
  pub faults : IfErr result (IsFaultOf table (HasCleanDisk new → old.now.schema ≡ desk_schema
      → HasRowsTo (number_of table - 1) s old.now.trees → NoneStandsTo (number_of table) old.now.trees))
  pub caused : IfErr result (IsCaused old new)

-- a table is read and then checked
pub record OpensTable (table : TableName) (old new : Connected) (s : State) (result : Result Listed OpenFault)
    : Type 0 where
  pub rests : Rests old new result
  pub read : IfOk result (λ keeper. IsReadTo (number_of table) keeper.content)
  pub rows : HasCleanDisk new → old.now.schema ≡ desk_schema → HasRowsTo (number_of table - 1) s old.now.trees
      → IfOk result (λ keeper. HasRowsTo (number_of table) keeper.content old.now.trees)
  pub faults : IfErr result (IsFaultOf table (HasCleanDisk new → old.now.schema ≡ desk_schema
      → HasRowsTo (number_of table - 1) s old.now.trees → NoneStandsTo (number_of table) old.now.trees))
  pub caused : IfErr result (IsCaused old new)

-- the first `number` tables are read and checked, one after the other
pub record OpensTo (number : ℕ) (old new : Connected) (result : Result Listed OpenFault) : Type 0 where
  pub rests : Rests old new result
  pub read : IfOk result (λ keeper. IsReadTo number keeper.content)
  pub rows : HasCleanDisk new → old.now.schema ≡ desk_schema
      → IfOk result (λ keeper. HasRowsTo number keeper.content old.now.trees)
  pub faults : IfErr result IsRefusal
  pub caused : IfErr result (IsCaused old new)
  pub why : HasCleanDisk new → old.now.schema ≡ desk_schema → IfErr result (TellsWhy old.now.trees)
  pub version : HasCleanDisk new → old.now.schema ≡ desk_schema → IfErr result (SparesOtherVersion old.now.trees)
