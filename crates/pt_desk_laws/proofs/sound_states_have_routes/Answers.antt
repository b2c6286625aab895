use Rattle.pt_desk_laws.proofs.DutyLemmas.{has_routes}
use Rattle.pt_desk_laws.proofs.sound_states_have_routes.Goals as goal

pub returns : goal.returns
returns c = has_routes
