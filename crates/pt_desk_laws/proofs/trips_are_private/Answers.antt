use Rattle.pt_desk_laws.proofs.PrivacyLemmas.{trips_are_private}
use Rattle.pt_desk_laws.proofs.trips_are_private.Goals as goal

pub returns : goal.returns
returns c = trips_are_private
