use Rattle.pt_tables_opening.proofs.PlanReading.{plan-once}
use Rattle.pt_tables_opening.proofs.plans.PlansGathered.of_rows.Goals as goal

pub returns-clause-once : goal.returns-clause-once
returns-clause-once c = plan-once
