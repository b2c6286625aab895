use Rattle.pt_insertion_log.proofs.ExistenceLemmas.{refusals_have_logs}
use Rattle.pt_insertion_log.proofs.law.refusals_have_logs.Goals as goal

pub returns : goal.returns
returns c = refusals_have_logs
