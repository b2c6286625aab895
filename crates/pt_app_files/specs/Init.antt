-- What `desk init` does with a file.
use Rattle.std.specs.Prelude.{◌⊎◌, ℕ, List, Result, Ok, Err, IsErrAnd}
use Rattle.std.specs.IoError.{error_kind}
use Rattle.std.specs.declared.io.Error.{Error as IoError}
use Rattle.sqlite.specs.Held.{Held, state}
use Rattle.sqlite.specs.State.{State as Connected, HasCleanDisk, Survives}
use Rattle.sqlite.specs.Store.{Ghosts}
use Rattle.sqlite.specs.Tree.{Trees}
use Rattle.sqlite.specs.declared.error.Error.{Error as StoreError}
use Rattle.pt_base_values.specs.declared.fault.Fault.{Fault}
use Rattle.pt_tables_writing.specs.Committing.{LeavesDesk}
use Rattle.pt_tables_writing.specs.Least.{IsAsBefore, IsLeastDesk}
use Rattle.pt_app_files.specs.Faults.{IsFaultOfConnecting, IsFaultOfMaking, IsStoreFault}

-- The database has become that of a new desk, whose only caller is the admin with this key. An opening after a crash
-- finds that desk, and before the end of the call it may also find what it found before.
pub record IsMade (key : List ℕ) (old new : Connected) : Type 0 where
  pub desk : LeavesDesk new
  pub durable : HasCleanDisk new → (trees : Trees) → new.may_leave trees → IsLeastDesk key trees
  pub survives : Survives old new (IsLeastDesk key)

-- The database has not become a desk's, and shows what it showed before. It is never a desk's for another key.
pub record IsNotMade (key : List ℕ) (old new : Connected) (error : Fault) : Type 0 where
  pub told : IsStoreFault error
  pub unchanged : HasCleanDisk new → IsAsBefore old new
  pub survives : Survives old new (IsLeastDesk key)

-- how the database is made that of a new desk, from one state of a connection to the next
abbrev pub Makes : List ℕ → Connected → Connected → Result (Unit {0}) Fault → Type 0
Makes key old new (Ok _) = IsMade key old new
Makes key old new (Err error) = IsNotMade key old new error

-- A connection is made a new desk's and then left. `leaves` says which calls leave a connection.
pub record MakesAndLeaves {F S : Type 0} (g : Ghosts S) (leaves : F → Held S → F → Type 0) (key : List ℕ)
    (conn : Held S) (result : Result (Unit {0}) Fault) (old new : F) : Type 0 where
  pub last : Held S
  pub made : Makes key (state g conn) (state g last) result
  pub left : leaves old last new

-- The database in a file is opened, made a new desk's and left; the first call that fails ends it.
abbrev pub MakesIn : {F S : Type 0} → Ghosts S → (F → List ℕ → Result (Held S) StoreError → F → Type 0)
    → (F → Held S → F → Type 0) → List ℕ → List ℕ → Result (Unit {0}) Fault → F → F
    → Type 0
MakesIn {F} {S} g connects leaves file key result old new =
    ((why : StoreError) × connects old file (Err why) new × IsErrAnd result (IsFaultOfConnecting why))
    ⊎ ((conn : Held S) × (mid : F) × connects old file (Ok conn) mid × MakesAndLeaves g leaves key conn result mid new)

-- A file is made, which did not exist, and the database in that file is opened, made a new desk's and left. The first
-- call that fails ends it.
abbrev pub Inits : {F S : Type 0} → Ghosts S → (F → List ℕ → Result (Unit {0}) IoError → F → Type 0)
    → (F → List ℕ → Result (Held S) StoreError → F → Type 0) → (F → Held S → F → Type 0) → List ℕ → List ℕ
    → Result (Unit {0}) Fault → F → F
    → Type 0
Inits {F} g makes connects leaves file key result old new =
    ((why : IoError) × makes old file (Err why) new × IsErrAnd result (IsFaultOfMaking (error_kind why)))
    ⊎ ((mid : F) × makes old file (Ok tt) mid × MakesIn g connects leaves file key result mid new)
