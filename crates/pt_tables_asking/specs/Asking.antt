-- What one SQL query of the tables returns, which records its rows are, and what a read does to the connection.
use Rattle.std.specs.Prelude.{◌≡◌, ◌⊎◌, ◌≤◌, ℕ, false, IsSome, IsSorted, IsTrue, List, length, map, Option, None, Some, Result, Ok, Err}
use Rattle.std.specs.Prelude.{replicate}
use Rattle.sqlite.specs.Collation.TheVariants.{Binary}
use Rattle.sqlite.specs.Command.{Command}
use Rattle.sqlite.specs.Command.TheVariants.{Nothing}
use Rattle.sqlite.specs.Disk.{MoreFaults}
use Rattle.sqlite.specs.Effect.{Database, Reads, RefusesToRead}
use Rattle.sqlite.specs.Listing.{understood}
use Rattle.sqlite.specs.Order.{Row}
use Rattle.sqlite.specs.Query.{key_cmp}
use Rattle.sqlite.specs.Schema.{Schema}
use Rattle.sqlite.specs.State.{State as Connected, HasCleanDisk, KeepsCommit, Survives}
use Rattle.sqlite.specs.declared.error.Error.{Error}
use Rattle.sqlite_resolve.specs.declared.compiled.Compiled.{Compiled}
use Rattle.sqlite_resolve.specs.declared.error.CompileError.{CompileError}
use Rattle.sqlite_value.specs.Keys.{ascending}
use Rattle.pt_base_records.specs.Records.{Each}
use Rattle.pt_tables_rows.specs.Schema.{desk_schema}

abbrev pub command_in : Result Compiled CompileError → Command
command_in (Ok c) = c.command
command_in (Err e) = Nothing

-- the rows are in ascending order of this many first columns
abbrev pub AreInOrder : ℕ → List Row → Type 0
AreInOrder columns rows = IsSorted (key_cmp 0 (replicate columns (ascending Binary))) rows

-- these rows are an answer to the query in this database
abbrev pub IsAnswer : List ℕ → Row → Database → List Row → Type 0
IsAnswer text params db rows = Reads (command_in (understood desk_schema text)) db params rows

-- the text is one statement, and takes this many parameters
abbrev pub Takes : List ℕ → Row → Result Compiled CompileError → Type 0
Takes text params (Ok c) = (length text ≤ c.tail) × (length params ≡ length c.names)
Takes text params (Err e) = ⊥

-- In tables of this schema, the query with these parameters is refused only where its steps are limited.
pub record IsServedIn (schema : Schema) (text : List ℕ) (params : Row) : Type 0 where
  pub takes : Takes text params (understood schema text)
  pub refused : (limit : Option ℕ) (db : Database) (e : Error) → db.schema ≡ schema
      → RefusesToRead limit (command_in (understood schema text)) db params e → IsSome limit

-- the tables are the desk's, and these rows are the only answer to the query
pub record HasAnswer (text : List ℕ) (params : Row) (db : Database) (rows : List Row) : Type 0 where
  pub schema : db.schema ≡ desk_schema
  pub served : IsServedIn desk_schema text params
  pub shown : (found : List Row) → IsAnswer text params db found → rows ≡ found

-- if the disk stayed clean, an open connection shows what was committed
abbrev pub ShowsCommit : Connected → Type 0
ShowsCommit s = HasCleanDisk s → IsTrue s.is_open → s.now ≡ s.committed

-- A read of the tables commits nothing and leaves no transaction open. After it the connection shows what was
-- committed.
pub record Rests (old new : Connected) : Type 0 where
  pub settled : new.in_transaction ≡ false
  pub keeps : HasCleanDisk new → KeepsCommit old new
  pub undone : ShowsCommit new
  pub survives : Survives old new (λ _. ⊥)

-- Why calls fail, unless memory is refused: the connection was shut before them, the disk failed in them, or the steps
-- of queries are limited.
abbrev pub HasCause : Connected → Connected → Type 0
HasCause old new = (old.is_open ≡ false) ⊎ (MoreFaults old.faults new.faults ⊎ IsSome old.step_limit)

-- the connection was open, and the rows are an answer to the query if the tables are the desk's
pub record IsShown (text : List ℕ) (params : Row) (old : Connected) (rows : List Row) : Type 0 where
  pub was_open : IsTrue old.is_open
  pub answer : old.now.schema ≡ desk_schema → IsAnswer text params old.now rows

-- the records that have these rows, in their order, or None if no fitting records have them
abbrev pub TellsEach : {A : Type 0} → (A → Row) → (A → Type 0) → List Row → Option (List A) → Type 0
TellsEach row_of Fits rows (Some xs) = (map row_of xs ≡ rows) × Each Fits xs
TellsEach row_of Fits rows None = (xs : List _) → Each Fits xs → map row_of xs ≡ rows → ⊥
