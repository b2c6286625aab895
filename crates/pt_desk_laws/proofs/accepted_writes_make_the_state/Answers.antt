use Rattle.pt_desk_laws.proofs.NumberLemmas.{accepted_writes_make_the_state}
use Rattle.pt_desk_laws.proofs.accepted_writes_make_the_state.Goals as goal

pub returns : goal.returns
returns c = accepted_writes_make_the_state
