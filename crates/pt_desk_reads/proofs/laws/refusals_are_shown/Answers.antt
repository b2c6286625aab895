use Rattle.pt_desk_reads.proofs.ExplainLemmas.{refusals_are_shown}
use Rattle.pt_desk_reads.proofs.laws.refusals_are_shown.Goals as goal

pub returns : goal.returns
returns c = refusals_are_shown
