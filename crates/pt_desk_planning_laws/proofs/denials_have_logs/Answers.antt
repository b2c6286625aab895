use Rattle.pt_desk_planning_laws.proofs.LogLemmas.{denials_have_logs}
use Rattle.pt_desk_planning_laws.proofs.denials_have_logs.Goals as goal

pub returns : goal.returns
returns c = denials_have_logs c.denials_are_right.ensures
