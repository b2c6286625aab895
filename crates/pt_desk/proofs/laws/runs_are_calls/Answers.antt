use Rattle.pt_desk.proofs.RunLemmas.{runs_are_calls}
use Rattle.pt_desk.proofs.laws.runs_are_calls.Goals as goal

pub returns : goal.returns
returns c = runs_are_calls
