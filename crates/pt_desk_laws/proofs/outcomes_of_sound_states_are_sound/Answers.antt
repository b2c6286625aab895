use Rattle.pt_desk_laws.proofs.SoundLemmas.{request_sound}
use Rattle.pt_desk_laws.proofs.outcomes_of_sound_states_are_sound.Goals as goal

pub returns : goal.returns
returns c = request_sound
