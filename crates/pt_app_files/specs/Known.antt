-- How the database in a file that must exist is opened.
use Rattle.std.specs.Prelude.{◌≡◌, ◌⊎◌, ℕ, List, Option, Result, Ok, Err, IsErrAnd}
use Rattle.std.specs.IoError.{error_kind}
use Rattle.std.specs.declared.io.Error.{Error as IoError}
use Rattle.sqlite.specs.declared.error.Error.{Error as StoreError}
use Rattle.pt_app_commands.specs.declared.ending.Ending.{Ending}
use Rattle.pt_base_values.specs.declared.fault.Fault.{Fault}
use Rattle.pt_app_files.specs.Faults.{IsFaultOfConnecting, IsFaultOfReading}

-- the database in a file is opened, or that fails
abbrev pub Connects : {F C : Type 0} → (F → List ℕ → Result C StoreError → F → Type 0) → List ℕ → Result C Fault
    → F → F
    → Type 0
Connects {F} {C} connects file opened old new =
    ((why : StoreError) × connects old file (Err why) new × IsErrAnd opened (IsFaultOfConnecting why))
    ⊎ ((conn : C) × connects old file (Ok conn) new × (opened ≡ Ok conn))

-- A file is found, and the database in that file is opened. The first call that fails ends it.
abbrev pub OpensKnown : {F C : Type 0} → (F → List ℕ → Result (Unit {0}) IoError → F → Type 0)
    → (F → List ℕ → Result C StoreError → F → Type 0) → List ℕ → Result C Fault → F → F
    → Type 0
OpensKnown {F} {C} finds connects file opened old new =
    ((why : IoError) × finds old file (Err why) new × IsErrAnd opened (IsFaultOfReading (error_kind why)))
    ⊎ ((mid : F) × finds old file (Ok tt) mid × Connects connects file opened mid new)

-- The database in a file that must exist is opened, and this is done with the connection. If it is not opened, its fault
-- ends it so, and nothing is done.
abbrev pub OverKnown : {F C : Type 0} → (F → List ℕ → Result (Unit {0}) IoError → F → Type 0)
    → (F → List ℕ → Result C StoreError → F → Type 0) → List ℕ → (C → F → F → Type 0) → (Fault → Type 0) → F → F
    → Type 0
OverKnown {F} {C} finds connects file Does Ends old new =
    ((conn : C) × (mid : F) × OpensKnown finds connects file (Ok conn) old mid × Does conn mid new)
    ⊎ ((error : Fault) × OpensKnown {C = C} finds connects file (Err error) old new × Ends error)

-- a fault ends the command, and nothing is printed
abbrev pub EndsBy : Option (List ℕ) → Option (List ℕ) → Result Ending Fault → Fault → Type 0
EndsBy out_old out_new result error = (result ≡ Err error) × (out_new ≡ out_old)
