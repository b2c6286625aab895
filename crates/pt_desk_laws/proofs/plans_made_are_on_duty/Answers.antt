use Rattle.pt_desk_laws.proofs.PlanDutyLemmas.{plans_made_are_on_duty}
use Rattle.pt_desk_laws.proofs.plans_made_are_on_duty.Goals as goal

pub returns : goal.returns
returns c = plans_made_are_on_duty
