use Rattle.pt_desk_spelling.proofs.RequestLemmas.{spelling-injective}
use Rattle.pt_desk_spelling.proofs.law.spelling_tells_its_request.Goals as goal

pub returns : goal.returns
returns c = spelling-injective
