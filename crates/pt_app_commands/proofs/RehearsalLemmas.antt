-- A rehearsal that could not begin.
use Rattle.std.proofs.Common.{◌≡◌, ◌∙◌, ℕ, List, Result, Ok, Err, inl, ap}
use Rattle.std.specs.Prelude.{IsErrAnd, Option}
use Rattle.pt_app_commands.specs.Rehearsal.{RehearsesWith}
use Rattle.pt_base_values.specs.declared.fault.Cause.TheVariants as cause
use Rattle.pt_base_values.specs.Fault.{fault}
use Rattle.pt_base_values.specs.declared.fault.Fault.{Fault}

-- memory was refused
pub rehearses_nothing : {T : Type 0} (key : List ℕ) (given out_old out_new : Option (List ℕ)) (told : Fault)
    (result : Result T Fault) → told ≡ fault cause.Memory → IsErrAnd result (λ error. error ≡ told)
    → RehearsesWith key given out_old out_new result
rehearses_nothing key given out_old out_new told (Ok value) memory is = absurd is
rehearses_nothing key given out_old out_new told (Err error) memory is = record {
  finished = λ bytes known. tt;
  stopped = λ bytes known other. absurd (other (is ∙ memory));
  served = λ other. absurd (other (ap Err (is ∙ memory)));
  fault = inl (inl (is ∙ memory));
}
