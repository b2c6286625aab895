use Rattle.std.proofs.Common.{arith}
use Rattle.pt_desk_rules.specs.Sound.{StandsIn}
use Rattle.pt_desk_scheduling.specs.Plan.{plan_key}
use Rattle.pt_desk_scheduling.specs.declared.planned.PlannedStop.{PlannedStop}
use Rattle.pt_tables_soundness.proofs.EachLemmas.{each_past, fails_at, holds_all}
use Rattle.pt_tables_soundness.proofs.plans.stand_in.Goals as goal

pub loop-stop-preserved : goal.loop-stop-preserved
loop-stop-preserved c =
    each_past (λ (stop : PlannedStop). StandsIn c.args.trips.now.items (plan_key c.args.plan.now) stop.trip) c.stop-item.result c.args.stops.now c.loop-stop.stop-index (omega arith) c.stop-item.is
    (c.stands_in.ensures.0 c.if-not-stands_in.false) c.loop-stop.invariant

pub returns-then-not-stands_in : goal.returns-then-not-stands_in
returns-then-not-stands_in c =
    fails_at (λ (stop : PlannedStop). StandsIn c.args.trips.now.items (plan_key c.args.plan.now) stop.trip)
    c.stop-item.result c.args.stops.now c.loop-stop.stop-index c.stands_in.result (omega arith) c.stop-item.is
    c.stands_in.ensures.1 c.if-not-stands_in.true

pub returns : goal.returns
returns c = holds_all (λ (stop : PlannedStop). StandsIn c.args.trips.now.items (plan_key c.args.plan.now) stop.trip) c.args.stops.now c.loop-stop.stop-index (omega arith) c.loop-stop.invariant
