use Rattle.pt_desk_laws.proofs.RightLemmas.{denials_are_right}
use Rattle.pt_desk_laws.proofs.denials_are_right.Goals as goal

pub returns : goal.returns
returns c = denials_are_right
