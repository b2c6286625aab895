use Rattle.pt_desk_laws.proofs.HasTourLemmas.{have_tours}
use Rattle.pt_desk_laws.proofs.sound_states_have_tours.Goals as goal

pub returns : goal.returns
returns c = have_tours
