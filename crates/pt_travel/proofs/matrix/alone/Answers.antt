use Rattle.pt_travel.proofs.matrix.alone.Goals as goal
use Rattle.pt_travel.proofs.MatrixLemmas.{alone-at}

pub returns : goal.returns
returns c = λ j in_j. alone-at 100 1440 c.args.i j c.requires in_j
