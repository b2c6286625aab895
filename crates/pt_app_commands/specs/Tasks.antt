-- What a command does that asks the desk in a file.
use Rattle.std.specs.Prelude.{◌≡◌, ◌⊎◌, ℕ, List, map, Option, Result, Ok, Err, OnOk}
use Rattle.std.specs.Io.KnownBytes.{Appends}
use Rattle.pt_audit.specs.Text.{FailsAt, IsLogText}
use Rattle.pt_audit.specs.declared.line.Line.{Line}
use Rattle.pt_base_values.specs.declared.fault.Cause.TheVariants as cause
use Rattle.pt_base_values.specs.Fault.{code_of, fault}
use Rattle.pt_base_values.specs.declared.fault.Fault.{Fault}
use Rattle.pt_base_values.specs.Moment.{Moment}
use Rattle.pt_base_values.specs.declared.trip.Wish.{Wish}
use Rattle.pt_app_command_line.specs.declared.asked.Task.{Task}
use Rattle.pt_app_command_line.specs.declared.asked.Task.TheVariants as task
use Rattle.pt_app_commands.specs.Refusals.{EndsByFacts, IsAuditedFrom, IsExplainedFrom}
use Rattle.pt_app_commands.specs.Told.{EndsBy, fault_of, told_text}
use Rattle.pt_app_commands.specs.declared.ending.Ending.{Ending}
use Rattle.pt_desk.specs.Refusals.{IsFacts}
use Rattle.pt_desk_reads.specs.Refusal.{Refusal}
use Rattle.pt_desk_reads.specs.declared.explaining.Inquiry.{Inquiry}
use Rattle.pt_desk.specs.State.{place_key}
use Rattle.pt_desk.specs.Step.{IsOutcome}
use Rattle.pt_desk_requests.specs.declared.request.Answer.{Answer}
use Rattle.pt_desk_requests.specs.declared.request.Read.TheVariants as read
use Rattle.pt_desk_requests.specs.declared.request.Request.{Request}
use Rattle.pt_desk_requests.specs.declared.request.Request.TheVariants as request
use Rattle.pt_desk_requests.specs.declared.request.Write.TheVariants as write
use Rattle.pt_desk_store.specs.Store.{Store, Answers, Reads}
use Rattle.pt_desk_store.specs.declared.keeper.StoreFault.{StoreFault}
use Rattle.pt_travel.specs.Chain.{Row}
use Rattle.pt_travel.specs.Text.{IsFirstFault, ReadsAs}

-- the caller with this key makes a request, under a number if it is a write, and the answer is printed
abbrev pub Prints : List ℕ → Moment → ℕ → Request → Store → Store → Option (List ℕ) → Option (List ℕ)
    → Result Ending Fault → Type 0
Prints key now number asked before after old new result =
    (reply : Result Answer StoreFault) × Answers before after (IsOutcome key now number asked) reply
    × EndsBy reply result
    × ((told : Answer) → reply ≡ Ok told → OnOk result (Appends old new (told_text told)))

-- what reading this text as driving times of these places comes to
abbrev pub IsTimesRead : List ℕ → List ℕ → Result (List Row) Fault → Type 0
IsTimesRead text places (Ok rows) = ReadsAs text places rows
IsTimesRead text places (Err error) = (error ≡ fault cause.Memory) ⊎ IsFirstFault text places error

-- the same, where the desk was asked for its places
abbrev pub IsTimesReadBy : List ℕ → Result (List ℕ) StoreFault → Result (List Row) Fault → Type 0
IsTimesReadBy text (Ok places) rows = IsTimesRead text places rows
IsTimesReadBy text (Err failed) rows = rows ≡ Err (fault_of failed)

-- this text is read as driving times of the desk's places
abbrev pub ReadsTimes : List ℕ → Store → Store → Result (List Row) Fault → Type 0
ReadsTimes text before after rows =
    (places : Result (List ℕ) StoreFault) × Reads before after (λ s. map place_key s.places) places
    × IsTimesReadBy text places rows

-- the command ends with this error, changes nothing if `Same` says so, and prints nothing
abbrev pub EndsUnread : Fault → Type 0 → Option (List ℕ) → Option (List ℕ) → Result Ending Fault → Type 0
EndsUnread error Same old new result = (result ≡ Err error) × Same × (new ≡ old)

-- times that were read are put under this number, from this day on; a text that was not read ends the command
abbrev pub PutsRead : {K : Type 0} → (K → Store) → List ℕ → Moment → ℕ → ℕ → Result (List Row) Fault → K → K
    → Option (List ℕ) → Option (List ℕ) → Result Ending Fault → Type 0
PutsRead store key now number day (Ok rows) before after old new result =
    Prints key now number (request.Write (write.Travel day rows)) (store before) (store after) old new result
PutsRead store key now number day (Err error) before after old new result =
    EndsUnread error (after ≡ before) old new result

-- the times of a text are read and put
abbrev pub PutsTimes : {K : Type 0} → (K → Store) → List ℕ → Moment → ℕ → ℕ → List ℕ → K → K → Option (List ℕ)
    → Option (List ℕ) → Result Ending Fault → Type 0
PutsTimes {K} store key now number day text before after old new result =
    (between : K) × (rows : Result (List Row) Fault) × ReadsTimes text (store before) (store between) rows
    × PutsRead store key now number day rows between after old new result

-- why a rider's wish would be refused is asked, and this is made of the answer
abbrev pub Inquires : (Refusal → Option (List ℕ) → Option (List ℕ) → Result Ending Fault → Type 0) → List ℕ → Moment
    → ℕ → Wish → Store → Store → Option (List ℕ) → Option (List ℕ) → Result Ending Fault → Type 0
Inquires Ends key now rider wish before after old new result =
    (found : Result Inquiry StoreFault) × Answers before after (IsFacts key now rider wish) found
    × EndsByFacts Ends found old new result

-- what reading this text as a log comes to
abbrev pub IsLogRead : List ℕ → Result (List Line) Fault → Type 0
IsLogRead text (Ok lines) = IsLogText text lines
IsLogRead text (Err error) =
    (error ≡ fault cause.Memory) ⊎ ((error.code ≡ code_of cause.LogLine) × FailsAt text error.row)

-- a log that was read is judged; a text that was not read ends the command
abbrev pub AuditsRead : {K : Type 0} → (K → Store) → List ℕ → Moment → ℕ → Wish → Result (List Line) Fault → K → K
    → Option (List ℕ) → Option (List ℕ) → Result Ending Fault → Type 0
AuditsRead store key now rider wish (Ok lines) before after old new result =
    Inquires (IsAuditedFrom lines) key now rider wish (store before) (store after) old new result
AuditsRead store key now rider wish (Err error) before after old new result =
    EndsUnread error (after ≡ before) old new result

-- the log of a text is read and judged
abbrev pub AuditsLog : {K : Type 0} → (K → Store) → List ℕ → Moment → ℕ → Wish → List ℕ → K → K → Option (List ℕ)
    → Option (List ℕ) → Result Ending Fault → Type 0
AuditsLog store key now rider wish text before after old new result =
    (lines : Result (List Line) Fault) × IsLogRead text lines
    × AuditsRead store key now rider wish lines before after old new result

-- the caller with this key has the desk do this task at this moment; the text is that of the file that it names, if any
abbrev pub DoesTask : {K : Type 0} → (K → Store) → List ℕ → Moment → Task → List ℕ → K → K → Option (List ℕ)
    → Option (List ℕ) → Result Ending Fault → Type 0
DoesTask store key now (task.Travel number day csv) text before after old new result =
    PutsTimes store key now number day text before after old new result
DoesTask store key now (task.Manifest vehicle day) text before after old new result =
    Prints key now 0 (request.Read (read.Manifest vehicle day)) (store before) (store after) old new result
DoesTask store key now (task.Trips day) text before after old new result =
    Prints key now 0 (request.Read (read.Export day)) (store before) (store after) old new result
DoesTask store key now (task.Explain rider wish) text before after old new result =
    Inquires IsExplainedFrom key now rider wish (store before) (store after) old new result
DoesTask store key now (task.Audit log rider wish) text before after old new result =
    AuditsLog store key now rider wish text before after old new result
