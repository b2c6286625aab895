use Rattle.std.proofs.Common.{arith}
use Rattle.pt_desk_scheduling.specs.Plan.{IsRoutePlan}
use Rattle.pt_tables_soundness.proofs.EachLemmas.{each_past, fails_at, holds_all}
use Rattle.pt_tables_soundness.proofs.pairs.are_route_plans.Goals as goal

pub loop-plan-preserved : goal.loop-plan-preserved
loop-plan-preserved c =
    each_past (IsRoutePlan) c.plan-item.result c.args.plans.now c.loop-plan.plan-index (omega arith) c.plan-item.is
    (c.is_route_plan.ensures.0 c.if-not-is_route_plan.false) c.loop-plan.invariant

pub returns-then-not-is_route_plan : goal.returns-then-not-is_route_plan
returns-then-not-is_route_plan c =
    fails_at (IsRoutePlan) c.plan-item.result c.args.plans.now c.loop-plan.plan-index c.is_route_plan.result (omega arith) c.plan-item.is
    c.is_route_plan.ensures.1 c.if-not-is_route_plan.true

pub returns : goal.returns
returns c = holds_all (IsRoutePlan) c.args.plans.now c.loop-plan.plan-index (omega arith) c.loop-plan.invariant
