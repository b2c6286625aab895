use Rattle.std.proofs.Common.{arith}
use Rattle.pt_desk_rules.specs.Sound.{DrivesIn}
use Rattle.pt_desk_scheduling.specs.Plan.{IsRoutePlan}
use Rattle.pt_tables_soundness.proofs.EachLemmas.{each_at, each_past, fails_at, holds_all}
use Rattle.pt_tables_soundness.proofs.fits.all_drive.Goals as goal

pub drives-requires-clause-route : goal.drives-requires-clause-route
drives-requires-clause-route c =
    each_at IsRoutePlan c.plan-item.result c.args.plans.now c.loop-plan.plan-index (omega arith) c.plan-item.is
    c.requires.routes

pub loop-plan-preserved : goal.loop-plan-preserved
loop-plan-preserved c =
    each_past (DrivesIn c.args.vehicles.now.items c.args.travel.now c.args.trips.now.items) c.plan-item.result
    c.args.plans.now c.loop-plan.plan-index (omega arith) c.plan-item.is (c.in_ok-drives.ensures.0 c.if-not-branch.false)
    c.loop-plan.invariant

pub returns-then-not-branch : goal.returns-then-not-branch
returns-then-not-branch c =
    fails_at (DrivesIn c.args.vehicles.now.items c.args.travel.now c.args.trips.now.items) c.plan-item.result
    c.args.plans.now c.loop-plan.plan-index c.in_ok-drives.field-0 (omega arith) c.plan-item.is c.in_ok-drives.ensures.1
    c.if-not-branch.true

pub returns : goal.returns
returns c =
    holds_all (DrivesIn c.args.vehicles.now.items c.args.travel.now c.args.trips.now.items) c.args.plans.now
    c.loop-plan.plan-index (omega arith) c.loop-plan.invariant
