use Rattle.std.proofs.Common.{Err, Ok, refl}
use Rattle.pt_app_commands.proofs.TaskLemmas.{error_handed}
use Rattle.pt_app_commands.proofs.tasks.audit_text.Goals as goal

pub returns-in_err-log : goal.returns-in_err-log
returns-in_err-log g c = record { audited = (Err _, c.in_err-log.ensures.fault, (error_handed _ _ c.from_residual.ensures.1, refl, refl)) }

pub returns : goal.returns
returns g c = record { audited = (Ok c.in_ok-log.log.lines.items, c.in_ok-log.ensures.log, c.audit_refusal.ensures.asked) }
