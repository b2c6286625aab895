-- Why a clock gives no moment.
use Rattle.std.proofs.Common.{◌≡◌, ◌⊎◌, ℕ, ℤ, List, Result, Ok, Err, IfErr, ap, inl, inr}
use Rattle.pt_base_values.specs.declared.fault.Cause.TheVariants as cause
use Rattle.pt_base_values.specs.Fault.{fault}
use Rattle.pt_base_values.specs.declared.fault.Fault.{Fault}
use Rattle.pt_app_serve.specs.Serving.{IsOutOfRange, LacksMoment}

-- an instant that a clock showed gives no moment in a zone
pub lacks_by_instant : {T : Type 0} (Unread : Type 0) (Shows : ℤ → Type 0) (zone : List ℕ) (instant : ℤ)
    (result : Result T Fault) → Shows instant
    → IfErr result (λ error. (error ≡ fault cause.NoSuchZone) ⊎ (error ≡ fault cause.DateOutOfRange))
    → (result ≡ Err (fault cause.DateOutOfRange) → IsOutOfRange zone instant)
    → IfErr result (LacksMoment Unread Shows zone)
lacks_by_instant Unread Shows zone instant (Ok value) shown why outside = tt
lacks_by_instant Unread Shows zone instant (Err error) shown (inl unruled) outside = inl unruled
lacks_by_instant Unread Shows zone instant (Err error) shown (inr out) outside =
    inr (out, inr (instant, shown, outside (ap Err out)))
