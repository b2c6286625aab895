use Rattle.pt_desk_laws.proofs.NumberLemmas.{last_accepted_is_kept}
use Rattle.pt_desk_laws.proofs.last_accepted_is_kept.Goals as goal

pub returns : goal.returns
returns c = last_accepted_is_kept
