use Rattle.pt_desk_laws.proofs.PrivacyLemmas.{standings_are_private}
use Rattle.pt_desk_laws.proofs.standings_are_private.Goals as goal

pub returns : goal.returns
returns c = standings_are_private
