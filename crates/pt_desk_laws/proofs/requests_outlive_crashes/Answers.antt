use Rattle.pt_desk_laws.proofs.AgainLemmas.{requests_outlive_crashes}
use Rattle.pt_desk_laws.proofs.requests_outlive_crashes.Goals as goal

pub returns : goal.returns
returns c = requests_outlive_crashes
