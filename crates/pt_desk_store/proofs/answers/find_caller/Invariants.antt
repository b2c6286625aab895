use Rattle.std.proofs.Common.{◌≡◌, drop}
use Rattle.std.specs.Prelude.{find, bytes_eq}
use Rattle.pt_desk_store.proofs.answers.find_caller.Given as goal

abbrev pub invariant-loop-caller : goal.invariant-loop-caller
invariant-loop-caller l = find (λ c. bytes_eq c.digest l.digest) (drop l.caller-index l.callers) ≡ find (λ c. bytes_eq c.digest l.digest) l.callers
