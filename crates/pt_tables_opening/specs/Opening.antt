-- What reads of the tables return, and what they do to the connection.
use Rattle.std.specs.Prelude.{◌≡◌, ◌≢◌, ◌⊎◌, ℕ, List, [], ◌∷◌, false, IsTrue, Result, IfOk}
use Rattle.std.specs.List.{AllByRecursion}
use Rattle.sqlite.specs.Effect.{Database}
use Rattle.sqlite.specs.Given.{IsPlain}
use Rattle.sqlite.specs.Listing.{understood, reads_listing}
use Rattle.sqlite.specs.Order.{Row, column}
use Rattle.sqlite.specs.Schema.{Schema}
use Rattle.sqlite.specs.State.{State as Connected, HasCleanDisk, IsUnchanged, Survives}
use Rattle.sqlite.specs.Table.{Table}
use Rattle.sqlite.specs.Tree.{Trees}
use Rattle.sqlite.specs.declared.error.Error.{Error}
use Rattle.sqlite.specs.declared.error.Error.TheVariants.{SqliteFailure}
use Rattle.sqlite.specs.declared.error.ErrorCode.TheVariants as code
use Rattle.sqlite_catalog.specs.Listing.{Lists}
use Rattle.pt_base_values.specs.declared.fault.Cause.TheVariants as cause
use Rattle.pt_tables_asking.specs.Objects.{catalog_tree}
use Rattle.pt_tables_asking.specs.Asking.{HasCause, IsAnswer, IsServedIn}
use Rattle.pt_tables_opening.specs.Faults.{fault}
use Rattle.pt_tables_opening.specs.declared.open_fault.OpenFault.{OpenFault}
use Rattle.pt_tables_rows.specs.Rows.{number_value}
use Rattle.pt_tables_rows.specs.Schema.{IsEarlier, schema_of, desk_schema, desk_table, tables}
use Rattle.pt_tables_rows.specs.Tables.{AreRows, HaveRowids}

-- an open connection was open before, keeps what was committed, and still shows it if it did before
pub record Stays (old new : Connected) : Type 0 where
  pub was_open : IsTrue new.is_open → IsTrue old.is_open
  pub now : IsTrue new.is_open → old.committed ≡ old.now → new.now ≡ old.now
  pub committed : IsTrue new.is_open → new.committed ≡ old.committed

-- Reads of tables with this schema change nothing if they succeed. If they fail, nothing is committed and no
-- transaction is open.
pub record RestsOn {X E : Type 0} (schema : Schema) (old new : Connected) (result : Result X E) : Type 0 where
  pub settled : old.in_transaction ≡ false → new.in_transaction ≡ false
  pub same : HasCleanDisk new → old.now.schema ≡ schema → IfOk result (λ _. IsUnchanged old new)
  pub stays : HasCleanDisk new → old.now.schema ≡ schema → Stays old new
  pub survives : Survives old new (λ _. old.now.schema ≢ schema)

-- the same for reads of the desk's tables
abbrev pub Rests : {X E : Type 0} → Connected → Connected → Result X E → Type 0
Rests old new result = RestsOn desk_schema old new result

-- if the disk stayed clean, reads of the desk's tables show this of the rows that were there
abbrev pub ReadsTables : Connected → Connected → (Trees → Type 0) → Type 0
ReadsTables old new Told = HasCleanDisk new → old.now.schema ≡ desk_schema → Told old.now.trees

-- memory was refused, or the failure of these calls has a cause
abbrev pub IsBlamed : Connected → Connected → Error → Type 0
IsBlamed old new e = (e ≡ SqliteFailure code.OutOfMemory) ⊎ HasCause old new

-- In tables with this schema, reads blame the store only with a cause: the connection was shut, its disk failed in
-- them, or a limit is set on the steps of queries.
abbrev pub IsCausedOn : Schema → Connected → Connected → OpenFault → Type 0
IsCausedOn schema old new refused =
    HasCleanDisk new → old.now.schema ≡ schema → refused ≡ fault cause.StoreFailed → HasCause old new

-- the same for the desk's tables
abbrev pub IsCaused : Connected → Connected → OpenFault → Type 0
IsCaused old new refused = IsCausedOn desk_schema old new refused

-- In tables with this schema, the text is a query of rows, which is refused only where its steps are limited.
pub record IsServedQuery (schema : Schema) (text : List ℕ) : Type 0 where
  pub plain : IsPlain (understood schema text)
  pub unlisted : reads_listing schema text ≡ false
  pub served : IsServedIn schema text []

-- the query returns all rows of this table of the desk, in such an order
pub record AsksForAll (text : List ℕ) (table : Table) (Ordered : List Row → Type 0) : Type 0 where
  pub plain : IsPlain (understood desk_schema text)
  pub unlisted : reads_listing desk_schema text ≡ false
  pub served : IsServedIn desk_schema text []
  pub answer : (db : Database) (rows : List Row) → IsAnswer text [] db rows → AreRows table db.trees rows × Ordered rows

-- a new connection to what the other had committed
pub record IsReopened (old new : Connected) : Type 0 where
  pub is_open : IsTrue new.is_open
  pub committed : new.committed ≡ new.now
  pub rows : new.now.trees ≡ old.committed.trees
  pub lists : Lists (new.now.trees catalog_tree) new.now.schema
  pub rowids : new.now.schema ≡ desk_schema → AllByRecursion (λ t. HaveRowids (new.now.trees t.tree)) tables

-- the schema is that of this earlier version, and the agency's only row has that version
pub record IsEarlierVersion (version : ℕ) (db : Database) : Type 0 where
  pub earlier : IsEarlier version
  pub schema : db.schema ≡ schema_of version
  pub row : Row
  pub rows : AreRows desk_table db.trees (row ∷ [])
  pub version_is : column row 1 ≡ number_value version
