-- What a command does that asks the desk in a file.
use Rattle.std.specs.Prelude.{◌≡◌, ◌⊎◌, ℕ, ℤ, List, [], Option, Result, Ok, Err}
use Rattle.std.specs.IoError.{error_kind}
use Rattle.std.specs.declared.io.Error.{Error as IoError}
use Rattle.sqlite.specs.Held.{Held}
use Rattle.sqlite.specs.Store.{Ghosts}
use Rattle.sqlite.specs.declared.error.Error.{Error as StoreError}
use Rattle.pt_app_command_line.specs.declared.asked.Task.{Task}
use Rattle.pt_app_command_line.specs.declared.asked.Task.TheVariants as task
use Rattle.pt_app_commands.specs.Tasks.{DoesTask}
use Rattle.pt_app_commands.specs.declared.ending.Ending.{Ending}
use Rattle.pt_base_values.specs.Moment.{Moment}
use Rattle.pt_base_values.specs.declared.fault.Fault.{Fault}
use Rattle.pt_tables_keeper.specs.Keeper.{KeptTables, store_of}
use Rattle.pt_app_files.specs.Clock.{AtMoment}
use Rattle.pt_app_files.specs.Desk.{OverDesk}
use Rattle.pt_app_files.specs.Faults.{IsFaultOfReading}
use Rattle.pt_app_files.specs.Known.{EndsBy}

-- a file that must exist is not read, for this fault
abbrev pub FailsToRead : {F : Type 0} → (F → List ℕ → Result (List ℕ) IoError → F → Type 0) → List ℕ → Fault → F → F
    → Type 0
FailsToRead reads file error old new =
    (why : IoError) × reads old file (Err why) new × IsFaultOfReading (error_kind why) error

-- this is the text of the file that a task names; empty if it names none, and then nothing is read
abbrev pub HasText : {F : Type 0} → (F → List ℕ → Result (List ℕ) IoError → F → Type 0) → Task → List ℕ → F → F → Type 0
HasText reads (task.Travel number day csv) text old new = reads old csv.now (Ok text) new
HasText reads (task.Audit log rider wish) text old new = reads old log.now (Ok text) new
HasText reads _ text old new = (text ≡ []) × (new ≡ old)

-- the file that a task names is not read, for this fault
abbrev pub LacksText : {F : Type 0} → (F → List ℕ → Result (List ℕ) IoError → F → Type 0) → Task → Fault → F → F → Type 0
LacksText reads (task.Travel number day csv) error old new = FailsToRead reads csv.now error old new
LacksText reads (task.Audit log rider wish) error old new = FailsToRead reads log.now error old new
LacksText reads _ error old new = ⊥

-- the desk does this task at this moment, as the caller with this key
abbrev pub DoesAsked : {S : Type 0} → Ghosts S → List ℕ → Moment → Task → List ℕ → Option (List ℕ) → Option (List ℕ)
    → Result Ending Fault → KeptTables S → KeptTables S
    → Type 0
DoesAsked g key now asked text out_old out_new result before after =
    DoesTask (store_of g) key now asked text before after out_old out_new result

-- At this moment: the text is read that the task names, if any, and then the desk's file is opened and the desk asked.
-- The first call that fails ends it.
abbrev pub AsksAt : {F S : Type 0} → Ghosts S → (F → List ℕ → Result (List ℕ) IoError → F → Type 0)
    → (F → List ℕ → Result (Unit {0}) IoError → F → Type 0) → (F → List ℕ → Result (Held S) StoreError → F → Type 0)
    → (F → Held S → F → Type 0) → List ℕ → List ℕ → Moment → Task
    → Option (List ℕ) → Option (List ℕ) → Result Ending Fault → F → F
    → Type 0
AsksAt {F} g reads finds connects leaves file key now asked out_old out_new result old new =
    ((error : Fault) × LacksText reads asked error old new × EndsBy out_old out_new result error)
    ⊎ ((text : List ℕ) × (mid : F) × HasText reads asked text old mid
    × OverDesk g finds connects leaves file (DoesAsked g key now asked text out_old out_new result)
    (EndsBy out_old out_new result) mid new)

-- The clock is read first. If it gives no moment in the zone, no file is touched.
abbrev pub AsksFile : {F S : Type 0} → Ghosts S → Type 0 → (ℤ → Type 0)
    → (F → List ℕ → Result (List ℕ) IoError → F → Type 0)
    → (F → List ℕ → Result (Unit {0}) IoError → F → Type 0) → (F → List ℕ → Result (Held S) StoreError → F → Type 0)
    → (F → Held S → F → Type 0) → List ℕ → List ℕ → List ℕ → Task
    → Option (List ℕ) → Option (List ℕ) → Result Ending Fault → F → F
    → Type 0
AsksFile g Unread Shows reads finds connects leaves file zone key asked out_old out_new result old new =
    AtMoment Unread Shows zone
    (λ now. AsksAt g reads finds connects leaves file key now asked out_old out_new result)
    (EndsBy out_old out_new result) old new
