use Rattle.pt_desk_laws.proofs.NumberLemmas.{repeats_are_told_the_same}
use Rattle.pt_desk_laws.proofs.repeats_are_told_the_same.Goals as goal

pub returns : goal.returns
returns c = repeats_are_told_the_same
