use Rattle.pt_desk.proofs.RunLemmas.{runs_leave_accepted_writes}
use Rattle.pt_desk.proofs.laws.runs_leave_accepted_writes.Goals as goal

pub returns : goal.returns
returns c = runs_leave_accepted_writes
