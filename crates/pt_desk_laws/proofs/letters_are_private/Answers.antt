use Rattle.pt_desk_laws.proofs.PrivacyLemmas.{letters_are_private}
use Rattle.pt_desk_laws.proofs.letters_are_private.Goals as goal

pub returns : goal.returns
returns c = letters_are_private
