use Rattle.pt_desk_laws.proofs.NumberLemmas.{accepted_numbers_rise}
use Rattle.pt_desk_laws.proofs.accepted_numbers_rise.Goals as goal

pub returns : goal.returns
returns c = accepted_numbers_rise
