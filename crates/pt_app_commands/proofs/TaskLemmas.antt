-- The results of reading the text of a file.
use Rattle.std.proofs.Common.{◌≡◌, ◌⊎◌, ℕ, List, Result, Ok, Err, ap, subst, sym}
use Rattle.std.specs.Prelude.{IfErr, IfOk, IsErrAnd}
use Rattle.pt_base_values.specs.declared.fault.Cause.TheVariants as cause
use Rattle.pt_base_values.specs.Fault.{fault}
use Rattle.pt_base_values.specs.declared.fault.Fault.{Fault}
use Rattle.pt_app_commands.specs.Tasks.{IsTimesRead, IsTimesReadBy}
use Rattle.pt_desk_store.specs.declared.keeper.StoreFault.{StoreFault}
use Rattle.pt_travel.specs.Chain.{Row}
use Rattle.pt_travel.specs.Text.{IsFirstFault, ReadsAs}

pub times_read : (text places : List ℕ) (rows : Result (List Row) Fault) → IfOk rows (λ rows. ReadsAs text places rows)
    → IfErr rows (λ error. (error ≡ fault cause.Memory) ⊎ IsFirstFault text places error) → IsTimesRead text places rows
times_read text places (Ok rows) reads faulty = reads
times_read text places (Err error) reads faulty = faulty

-- the result for these places is the result for the desk's places
pub times_read_by : (text places : List ℕ) (told : Result (List ℕ) StoreFault) (rows : Result (List Row) Fault)
    → told ≡ Ok places → IsTimesRead text places rows → IsTimesReadBy text told rows
times_read_by text places told rows is read = subst (λ t. IsTimesReadBy text t rows) (sym is) read

-- an error that is returned further is that error
pub error_handed : {T : Type 0} (result : Result T Fault) (error : Fault) → IsErrAnd result (λ e. e ≡ error)
    → result ≡ Err error
error_handed (Ok x) error is = absurd is
error_handed (Err e) error is = ap Err is
