use Rattle.pt_desk.proofs.RefusalLemmas.{refusals_are_told}
use Rattle.pt_desk.proofs.laws.refusals_are_told.Goals as goal

pub returns : goal.returns
returns c = refusals_are_told
