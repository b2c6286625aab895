use Rattle.pt_desk_planning_laws.proofs.ExplanationLemmas.{explanations_are_right}
use Rattle.pt_desk_planning_laws.proofs.explanations_are_right.Goals as goal

pub returns : goal.returns
returns c = explanations_are_right
