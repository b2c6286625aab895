use Rattle.pt_desk_laws.proofs.AgainLemmas.{requests_are_the_same_again}
use Rattle.pt_desk_laws.proofs.requests_are_the_same_again.Goals as goal

pub returns : goal.returns
returns c = requests_are_the_same_again
