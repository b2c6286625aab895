use Rattle.std.proofs.Common.{refl}
use Rattle.pt_app_command_line.proofs.asked.id_at.Goals as goal

pub returns-in_err-number_at-clause-none : goal.returns-in_err-number_at-clause-none
returns-in_err-number_at-clause-none g c = λ none id has. c.in_err-number_at.ensures.none refl id has
