use Rattle.std.proofs.Common.{◌≡◌, true, false, arith}
use Rattle.std.specs.Prelude.{◌==◌}
use Rattle.std.proofs.lemmas.Bool.Decides.{nat_tests}
use Rattle.pt_desk_store.proofs.WishedLemmas.{none_read, other_read, plan_read}
use Rattle.pt_desk_store.proofs.wished.gather_plan_on.Goals as goal

pub returns-in_default : goal.returns-in_default
returns-in_default g c = record { reads = none_read _ _ c.args.vehicle c.args.day c.in_ok-plan.field-0 c.in_ok-plan.ensures.reads c.in_default.is }

pub returns-then-not-is_on : goal.returns-then-not-is_on
returns-then-not-is_on g c =
    let value = c.is_on.ensures.value in
    let branch = c.if-not-is_on.true in
    let off : (c.in-Some.plan.day == c.args.day) ≡ false = grind (arith, nat_tests) in
    record {
      reads = other_read _ _ c.args.vehicle c.args.day c.in_ok-plan.field-0 c.in-Some.plan c.in_ok-plan.ensures.reads c.in-Some.is c.is_on.ensures.ranges.0.1 c.is_on.ensures.ranges.1.1 off;
    }

pub returns : goal.returns
returns g c =
    let value = c.is_on.ensures.value in
    let branch = c.if-not-is_on.false in
    let on : (c.in-Some.plan.day == c.args.day) ≡ true = grind (arith, nat_tests) in
    record { reads = plan_read _ _ c.args.vehicle c.args.day c.in_ok-plan.field-0 c.in-Some.plan c.in_ok-plan.ensures.reads c.in-Some.is on }
