-- What `explain` and `audit` print about a refusal, and their endings.
use Rattle.std.specs.Prelude.{◌≡◌, ◌⊎◌, ℕ, List, ◌++◌, Option, Result, Ok, Err, codes}
use Rattle.std.specs.Io.KnownBytes.{Appends}
use Rattle.pt_audit.specs.RightLog.{IsRightLog}
use Rattle.pt_audit.specs.declared.line.Line.{Line}
use Rattle.pt_base_values.specs.declared.fault.Cause.TheVariants as cause
use Rattle.pt_base_values.specs.Fault.{fault}
use Rattle.pt_base_values.specs.Rule.{name_of}
use Rattle.pt_base_values.specs.declared.fault.Fault.{Fault}
use Rattle.pt_desk_booking.specs.Planning.{SomeVehicleCan, on_duty}
use Rattle.pt_desk_store.specs.declared.keeper.StoreFault.{StoreFault}
use Rattle.pt_desk.specs.Booking.{AreTimes}
use Rattle.pt_desk_reads.specs.Refusal.{Refusal}
use Rattle.pt_desk_reads.specs.declared.explaining.Inquiry.{Inquiry}
use Rattle.pt_desk_reads.specs.declared.explaining.Inquiry.TheVariants as inquiry
use Rattle.pt_insertion_search.specs.declared.duty.Duty.{Duty}
use Rattle.pt_insertion_log.specs.Written.{WritesRightLog}
use Rattle.pt_app_commands.specs.Told.{fault_of}
use Rattle.pt_app_commands.specs.declared.ending.Ending.{Ending}
use Rattle.pt_app_commands.specs.declared.ending.Ending.TheVariants.{Done, Denied}

-- this holds for the vehicles of a refusal, borrowed with their routes, by the driving times of its rows
abbrev pub OfRefusal : ((ℕ → ℕ → Option ℕ) → List Duty → Type 0) → Refusal → Type 0
OfRefusal P found =
    (minutes : ℕ → ℕ → Option ℕ) × AreTimes found.rows minutes
    × (duties : List Duty) × (on_duty duties ≡ found.vehicles) × P minutes duties

-- a correct log of the refusal was written
abbrev pub WritesRefusal : Refusal → Option (List ℕ) → Option (List ℕ) → Type 0
WritesRefusal found old new =
    OfRefusal (λ minutes duties. WritesRightLog minutes duties found.asked old new) found

-- these are the lines of a correct log of the refusal
abbrev pub IsLogOf : Refusal → List Line → Type 0
IsLogOf found lines = OfRefusal (λ minutes duties. IsRightLog minutes duties found.asked lines) found

-- these are not the lines of a correct log of the refusal
abbrev pub IsNoLogOf : Refusal → List Line → Type 0
IsNoLogOf found lines = OfRefusal (λ minutes duties. ¬ IsRightLog minutes duties found.asked lines) found

-- some vehicle can take the trip
abbrev pub SomeCan : Refusal → Type 0
SomeCan found =
    (minutes : ℕ → ℕ → Option ℕ) × AreTimes found.rows minutes × SomeVehicleCan minutes found.vehicles found.asked

-- no vehicle can take the trip
abbrev pub NoneCan : Refusal → Type 0
NoneCan found =
    (minutes : ℕ → ℕ → Option ℕ) × AreTimes found.rows minutes × ¬ SomeVehicleCan minutes found.vehicles found.asked

-- the faults of a command that do not come from the desk
abbrev pub IsOwnFault : Fault → Type 0
IsOwnFault error = (error ≡ fault cause.Memory) ⊎ (error ≡ fault cause.WriteFailed)

-- the ending of `explain` by the facts of a refusal: its log, or the word that the wish is possible
abbrev pub IsExplainedFrom : Refusal → Option (List ℕ) → Option (List ℕ) → Result Ending Fault → Type 0
IsExplainedFrom found old new (Ok Done) = NoneCan found × WritesRefusal found old new
IsExplainedFrom found old new (Ok Denied) = SomeCan found × Appends old new (codes "possible\n")
IsExplainedFrom found old new (Ok ending) = ⊥
IsExplainedFrom found old new (Err error) = IsOwnFault error

-- the ending of `audit` for a log of these lines
abbrev pub IsAuditedFrom : List Line → Refusal → Option (List ℕ) → Option (List ℕ) → Result Ending Fault → Type 0
IsAuditedFrom lines found old new (Ok Done) = NoneCan found × IsLogOf found lines × Appends old new (codes "yes\n")
IsAuditedFrom lines found old new (Ok Denied) = IsNoLogOf found lines × Appends old new (codes "no\n")
IsAuditedFrom lines found old new (Ok ending) = ⊥
IsAuditedFrom lines found old new (Err error) = IsOwnFault error

-- a denial is printed as the name of its rule
abbrev pub IsDeniedBy : List ℕ → Option (List ℕ) → Option (List ℕ) → Result Ending Fault → Type 0
IsDeniedBy name old new (Ok ending) = (ending ≡ Denied) × Appends old new (name ++ codes "\n")
IsDeniedBy name old new (Err error) = IsOwnFault error

-- the ending of a command by the reply to a question for the facts of a refusal
abbrev pub EndsByFacts : (Refusal → Option (List ℕ) → Option (List ℕ) → Result Ending Fault → Type 0)
    → Result Inquiry StoreFault → Option (List ℕ) → Option (List ℕ) → Result Ending Fault → Type 0
EndsByFacts Ends (Err failed) old new result = result ≡ Err (fault_of failed)
EndsByFacts Ends (Ok (inquiry.Denied first)) old new result = IsDeniedBy (name_of first) old new result
EndsByFacts Ends (Ok (inquiry.Facts found)) old new result = Ends found old new result
