use Rattle.pt_desk_laws.proofs.NumberLemmas.{writes_may_be_sent_again}
use Rattle.pt_desk_laws.proofs.writes_may_be_sent_again.Goals as goal

pub returns : goal.returns
returns c = writes_may_be_sent_again
