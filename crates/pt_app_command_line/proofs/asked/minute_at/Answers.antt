use Rattle.std.proofs.Common.{refl}
use Rattle.pt_app_command_line.proofs.asked.minute_at.Goals as goal

pub returns-in_err-number_at-clause-none : goal.returns-in_err-number_at-clause-none
returns-in_err-number_at-clause-none c = λ none minute has. c.in_err-number_at.ensures.none refl minute has
