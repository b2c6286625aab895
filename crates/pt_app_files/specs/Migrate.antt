-- What `desk migrate` does with a file.
use Rattle.std.specs.Prelude.{◌≡◌, ◌⊎◌, ℕ, List, Option, Result, Err, IfErr, IfOk, OnOk, codes}
use Rattle.std.specs.Io.KnownBytes.{Appends}
use Rattle.std.specs.declared.io.Error.{Error as IoError}
use Rattle.sqlite.specs.Held.{Held, state}
use Rattle.sqlite.specs.State.{State as Connected, HasCleanDisk, Survives}
use Rattle.sqlite.specs.Store.{Ghosts}
use Rattle.sqlite.specs.declared.error.Error.{Error as StoreError}
use Rattle.pt_app_commands.specs.declared.ending.Ending.{Ending}
use Rattle.pt_app_commands.specs.declared.ending.Ending.TheVariants.{Done}
use Rattle.pt_base_values.specs.Fault.{code_of, fault}
use Rattle.pt_base_values.specs.declared.fault.Cause.TheVariants as cause
use Rattle.pt_base_values.specs.declared.fault.Fault.{Fault}
use Rattle.pt_tables.specs.Migration.{IsMigrated, IsMigratedFrom}
use Rattle.pt_tables_opening.specs.Opening.{IsEarlierVersion}
use Rattle.pt_tables_writing.specs.Least.{IsAsBefore}
use Rattle.pt_app_files.specs.Faults.{IsStoreFault}
use Rattle.pt_app_files.specs.Known.{EndsBy, OverKnown}

-- `done` is printed; if memory or the writer fails, that is the fault
pub record PrintsDone (out_old out_new : Option (List ℕ)) (result : Result Ending Fault) : Type 0 where
  pub done : IfOk result (λ ending. ending ≡ Done)
  pub printed : OnOk result (Appends out_old out_new (codes "done\n"))
  pub fault : IfErr result (λ error. (error ≡ fault cause.Memory) ⊎ (error ≡ fault cause.WriteFailed))

-- The tables of an earlier version have become those of this one. An opening after a crash finds them, and before the
-- end of the call it may also find what it found before.
pub record HasMigrated (old new : Connected) : Type 0 where
  pub migrated : HasCleanDisk new → IsMigrated old new
  pub survives : Survives old new (IsMigratedFrom old)

-- The tables have not changed, and the database shows what it showed before. Only those of no earlier version are
-- refused as other tables.
pub record HasNotMigrated (old new : Connected) (error : Fault) : Type 0 where
  pub told : (error ≡ fault cause.OtherTables) ⊎ IsStoreFault error
  pub other_tables : HasCleanDisk new → error.code ≡ code_of cause.OtherTables
      → (version : ℕ) → IsEarlierVersion version old.now → ⊥
  pub unchanged : HasCleanDisk new → IsAsBefore old new
  pub survives : Survives old new (IsMigratedFrom old)

-- how the database of a connection is migrated and that is printed, from one state of the connection to the next
abbrev pub Migrates : Option (List ℕ) → Option (List ℕ) → Result Ending Fault → Connected → Connected → Type 0
Migrates out_old out_new result old new =
    (HasMigrated old new × PrintsDone out_old out_new result)
    ⊎ ((error : Fault) × HasNotMigrated old new error × (result ≡ Err error) × (out_new ≡ out_old))

-- A connection's database is migrated, and it is left. `leaves` says which calls leave a connection.
pub record MigratesAndLeaves {F S : Type 0} (g : Ghosts S) (leaves : F → Held S → F → Type 0)
    (out_old out_new : Option (List ℕ)) (result : Result Ending Fault) (conn : Held S) (old new : F) : Type 0 where
  pub last : Held S
  pub migrated : Migrates out_old out_new result (state g conn) (state g last)
  pub left : leaves old last new

-- The database in a file that must exist is opened, migrated and left.
abbrev pub MigratesFile : {F S : Type 0} → Ghosts S → (F → List ℕ → Result (Unit {0}) IoError → F → Type 0)
    → (F → List ℕ → Result (Held S) StoreError → F → Type 0) → (F → Held S → F → Type 0) → List ℕ
    → Option (List ℕ) → Option (List ℕ) → Result Ending Fault → F → F
    → Type 0
MigratesFile g finds connects leaves file out_old out_new result old new =
    OverKnown finds connects file (MigratesAndLeaves g leaves out_old out_new result)
    (EndsBy out_old out_new result) old new
