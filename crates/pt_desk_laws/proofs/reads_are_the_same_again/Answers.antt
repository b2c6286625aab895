use Rattle.pt_desk_laws.proofs.AgainLemmas.{reads_are_the_same_again}
use Rattle.pt_desk_laws.proofs.reads_are_the_same_again.Goals as goal

pub returns : goal.returns
returns c = reads_are_the_same_again
