use Rattle.pt_rights_conditions.proofs.TextLemmas.{condition_text-injective}
use Rattle.pt_rights_conditions.proofs.law.condition_text_tells_its_condition.Goals as goal

pub returns : goal.returns
returns c = condition_text-injective
