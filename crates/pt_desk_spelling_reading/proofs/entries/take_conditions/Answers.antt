use Rattle.std.proofs.Common.{◌∷◌, [], length, length-append, ap, arith}
use Rattle.std.specs.Int.{IsInRange}
use Rattle.pt_rights_files.specs.Conditions.{IsCondition}
use Rattle.pt_rights_files.specs.declared.conditions.Condition.TheVariants.{Always}
use Rattle.pt_desk_spelling.specs.Requests.{condition_bytes}
use Rattle.pt_desk_spelling_reading.proofs.ListReading.{taken-first, taken-more, taken-short}
use Rattle.pt_desk_spelling_reading.proofs.entries.take_conditions.Goals as goal

pub loop-taken-init : goal.loop-taken-init
loop-taken-init c = record {
  taken = taken-first condition_bytes (IsInRange 1 4) IsCondition c.args.left.now.now _ c.new-members.result.items
      c.in_ok-count.count c.in_ok-count.ensures.taken c.new-members.ensures;
  number = ap length c.new-members.ensures;
}

pub returns-in_err-take_condition : goal.returns-in_err-take_condition
returns-in_err-take_condition c = λ xs later fits e.
    absurd (taken-short condition_bytes (IsInRange 1 4) IsCondition c.args.left.now.now c.loop-taken.left.now _
    c.loop-taken.members.items c.in_ok-count.count c.loop-taken._taken c.take_condition.result Always
    c.loop-taken-test.true c.loop-taken.invariant.taken c.take_condition.ensures c.in_err-take_condition.was xs later
    fits e)

pub loop-taken-preserved : goal.loop-taken-preserved
loop-taken-preserved c =
    let members = c.loop-taken.members.items in
    let condition = c.in_ok-take_condition.field-0 in
    let size = ap length c.push.ensures.items in
    let number = c.loop-taken.invariant.number in
    record {
      taken = taken-more condition_bytes (IsInRange 1 4) IsCondition c.args.left.now.now c.loop-taken.left.now _ members
          _ c.in_ok-count.count c.loop-taken._taken c.take_condition.result condition c.loop-taken-test.true
          c.loop-taken.invariant.taken c.take_condition.ensures c.in_ok-take_condition.was c.push.ensures.items;
      number = omega (arith, size, number, length-append members (condition ∷ []));
    }
