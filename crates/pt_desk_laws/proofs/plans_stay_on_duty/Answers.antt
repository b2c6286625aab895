use Rattle.pt_desk_laws.proofs.PlanDutyLemmas.{plans_stay_on_duty}
use Rattle.pt_desk_laws.proofs.plans_stay_on_duty.Goals as goal

pub returns : goal.returns
returns c = plans_stay_on_duty
