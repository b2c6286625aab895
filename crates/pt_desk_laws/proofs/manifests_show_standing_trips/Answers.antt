use Rattle.pt_desk_laws.proofs.ShownLemmas.{show_standing_trips}
use Rattle.pt_desk_laws.proofs.manifests_show_standing_trips.Goals as goal

pub returns : goal.returns
returns c = show_standing_trips
