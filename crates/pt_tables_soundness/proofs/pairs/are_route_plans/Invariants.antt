use Rattle.std.proofs.Common.{drop}
use Rattle.pt_desk_scheduling.specs.Plan.{IsRoutePlan}
use Rattle.pt_base_records.specs.Records.{Each}
use Rattle.pt_tables_soundness.proofs.pairs.are_route_plans.Given as goal

abbrev pub invariant-loop-plan : goal.invariant-loop-plan
invariant-loop-plan l = Each (IsRoutePlan) (drop l.plan-index l.plans) → Each (IsRoutePlan) l.plans
