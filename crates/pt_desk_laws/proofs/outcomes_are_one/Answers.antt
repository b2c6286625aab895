use Rattle.pt_desk_laws.proofs.OneLemmas.{outcomes_are_one}
use Rattle.pt_desk_laws.proofs.outcomes_are_one.Goals as goal

pub returns : goal.returns
returns c = outcomes_are_one
