use Rattle.pt_audit.proofs.LawLemmas.{right_log_refuses}
use Rattle.pt_audit.proofs.law.right_log_shows_that_nothing_is_possible.Goals as goal

pub returns : goal.returns
returns c = right_log_refuses
