use Rattle.pt_desk_laws.proofs.NumberLemmas.{accepted_writes_are_kept}
use Rattle.pt_desk_laws.proofs.accepted_writes_are_kept.Goals as goal

pub returns : goal.returns
returns c = accepted_writes_are_kept
