use Rattle.pt_desk_laws.proofs.AgainLemmas.{denials_are_the_same_again}
use Rattle.pt_desk_laws.proofs.denials_are_the_same_again.Goals as goal

pub returns : goal.returns
returns c = denials_are_the_same_again
