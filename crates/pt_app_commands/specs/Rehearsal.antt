-- A rehearsal from a new desk.
use Rattle.std.specs.Prelude.{◌≡◌, ◌≢◌, ◌≤◌, ℕ, List, length, Option, Some, Result, Err, IfErr, OnOk}
use Rattle.std.specs.Io.KnownBytes.{Appends}
use Rattle.pt_base_values.specs.declared.fault.Cause.TheVariants as cause
use Rattle.pt_base_values.specs.Fault.{fault}
use Rattle.pt_base_values.specs.declared.fault.Fault.{Fault}
use Rattle.pt_desk_store.specs.LeastState.{IsLeastState}
use Rattle.pt_http_rehearsal.specs.Exchange.{Desk}
use Rattle.pt_http_rehearsal.specs.Rehearsal.{Exchanged, HasBadLine, IsFinished, IsRehearsalFault, Rehearses, ServesSome}
use Rattle.pt_http_rehearsal.specs.Rehearsal.{most_messages}

-- A desk that never failed, and has only an admin with this key, answers these messages at the front of the bytes. It
-- writes these bytes in reply, and leaves this rest.
abbrev pub RehearsesFromLeast : List ℕ → List Exchanged → List ℕ → List ℕ → List ℕ → Type 0
RehearsesFromLeast key messages bytes written rest =
    (least after : Desk) × IsLeastState key least.content × (least.failures ≡ 0)
    × Rehearses messages bytes least written rest after

-- The same desk answers some messages, whatever the input gives.
abbrev pub ServesFromLeast : {T : Type 0} → List ℕ → Option (List ℕ) → Option (List ℕ) → Result T Fault → Type 0
ServesFromLeast key out_old out_new result =
    (least after : Desk) × IsLeastState key least.content × (least.failures ≡ 0)
    × ServesSome least after out_old out_new result

-- a rehearsal on a new desk, whose admin has this key, of an input that gives these bytes, if they are known
pub record RehearsesWith {T : Type 0} (key : List ℕ) (given out_old out_new : Option (List ℕ)) (result : Result T Fault)
    : Type 0 where
  pub finished : (bytes : List ℕ) → given ≡ Some bytes
      → OnOk result ((messages : List Exchanged) × (written : List ℕ) × (rest : List ℕ)
      × RehearsesFromLeast key messages bytes written rest × Appends out_old out_new written
      × IsFinished messages rest × (length messages ≤ most_messages))
  -- On an error the desk was in the state after the last answered message, whose reply may not be wholly written.
  pub stopped : (bytes : List ℕ) → given ≡ Some bytes
      → IfErr result (λ error. error ≢ fault cause.Memory
      → (messages : List Exchanged) × (written : List ℕ) × (rest : List ℕ)
      × RehearsesFromLeast key messages bytes written rest
      × (error ≢ fault cause.WriteFailed → Appends out_old out_new written)
      × (error ≡ fault cause.MomentLine → HasBadLine rest) × (length messages ≤ most_messages))
  -- this holds whatever the input gives, also if its bytes are not known
  pub served : result ≢ Err (fault cause.Memory) → ServesFromLeast key out_old out_new result
  pub fault : IfErr result IsRehearsalFault
