use Rattle.std.proofs.Common.{◌≡◌, ◌<◌, ◌+◌, ◌++◌, ◌∷◌, [], List, map, length, length-append, rules, arith}
use Rattle.std.proofs.Common.{ℕ, refl, sym, ap, ap₂, ◌∙◌, subst}
use Rattle.pt_rights_conditions.specs.Texts.{condition_text}
use Rattle.pt_rights_files.specs.Conditions.{IsConditions}
use Rattle.pt_rights_files.specs.declared.conditions.Condition.{Condition}
use Rattle.pt_tables_reading.specs.Fitting.{joined, parts_of, FitsConditions}
use Rattle.pt_tables_reading.proofs.ConditionReading.{AreConditions, no-conditions, no-last, parted-more, fit-more}
use Rattle.pt_tables_reading.proofs.ConditionReading.{not-whole, text-joined, conditions-read}
use Rattle.pt_tables_reading.proofs.conditions.conditions_from.Goals as goal
use Rattle.pt_tables_reading.proofs.conditions.conditions_from.Goals.{in-Some+in_ok-condition_from, in_default}

pub returns-in_err-condition_from : goal.returns-in_err-condition_from
returns-in_err-condition_from c =
    let text = c.args.text.now in
    let members = c.loop-taken.members.items in
    let first : parts_of c.loop-taken.rest.now ≡ c.in-Some.part.now ∷ parts_of c.in-Some.later.now = search rules in
    let parted = c.loop-taken.invariant.parted
    ∙ ap (λ (p : List (List ℕ)). map condition_text members ++ p) first in
    let none : (conditions : List Condition) → FitsConditions conditions → joined conditions ≡ text → ⊥
    = λ conditions fits same. no-conditions conditions text c.in-Some.part.now (map condition_text members)
    (parts_of c.in-Some.later.now) fits same parted (c.in_err-condition_from.ensures.none refl) in
    search (rules, none)

pub loop-taken-preserved : goal.loop-taken-preserved
loop-taken-preserved c =
    let text = c.args.text.now in
    let members = c.loop-taken.members.items in
    let rest = c.loop-taken.rest.now in
    elim c.match-cut.branch [
      | in-Some+in_ok-condition_from w ↦
          let part = w.in-Some.part.now in
          let later = w.in-Some.later.now in
          let condition = w.in_ok-condition_from.field-0 in
          let spelled = w.in_ok-condition_from.ensures.spelled in
          let first : parts_of rest ≡ part ∷ parts_of later = search rules in
          let pushed : c.match-cut.members.items ≡ members ++ condition ∷ [] = ap (λ m. m.items) w.members-is ∙ w.push.ensures.items in
          let left : c.match-cut.rest.now ≡ later = ap (λ r. r.now) w.rest-is in
          let size : length c.match-cut.members.items ≡ length members + 1 = ap length pushed ∙ length-append members (condition ∷ []) in
          record {
            utf8 = search rules;
            parted = parted-more members condition text rest part later c.loop-taken.invariant.parted first spelled
                ∙ ap₂ (λ m r. map condition_text m ++ parts_of r) (sym pushed) (sym left);
            fit = subst AreConditions (sym pushed) (fit-more members condition part c.loop-taken.invariant.fit spelled);
            few = omega (arith, size, c.loop-taken.invariant.few);
            whole = λ short. absurd (not-whole rest part later (c.loop-taken.invariant.whole (omega (arith, size, short))) first);
          }
      | in_default w ↦
          let same : c.match-cut.members.items ≡ members = ap (λ m. m.items) w.members-is in
          let left : c.match-cut.rest.now ≡ rest = ap (λ r. r.now) w.rest-is in
          let whole_now : parts_of rest ≡ rest ∷ [] = search rules in
          let size : length c.match-cut.members.items ≡ length members = ap length same in
          record {
            utf8 = search rules;
            parted = c.loop-taken.invariant.parted
                ∙ ap₂ (λ m r. map condition_text m ++ parts_of r) (sym same) (sym left);
            fit = subst AreConditions (sym same) c.loop-taken.invariant.fit;
            few = omega (arith, size, c.loop-taken.invariant.few);
            whole = λ short. subst (λ r. parts_of r ≡ r ∷ []) (sym left) whole_now;
          }
    ]

pub returns-in_err-condition_from-2 : goal.returns-in_err-condition_from-2
returns-in_err-condition_from-2 c =
    let text = c.args.text.now in
    let members = c.loop-taken.members.items in
    let rest = c.loop-taken.rest.now in
    let few : length members < 3 → parts_of rest ≡ rest ∷ []
    = λ short. c.loop-taken.invariant.whole (omega (arith, short, c.loop-taken-test.false)) in
    let none : (conditions : List Condition) → FitsConditions conditions → joined conditions ≡ text → ⊥
    = λ conditions fits same. no-last conditions text rest members fits same c.loop-taken.invariant.parted few
    (c.in_err-condition_from-2.ensures.none refl) in
    search (rules, none)

pub returns : goal.returns
returns c =
    let text = c.args.text.now in
    let members = c.loop-taken.members.items in
    let rest = c.loop-taken.rest.now in
    let condition = c.in_ok-condition_from-2.field-0 in
    let spelled = c.in_ok-condition_from-2.ensures.spelled in
    let conditions = members ++ condition ∷ [] in
    let given : c.deref.result.now ≡ conditions = search rules in
    let size = length-append members (condition ∷ []) in
    let number : IsConditions conditions
    = (omega (arith, size), omega (arith, size, c.loop-taken.invariant.few, c.loop-taken.auto._taken-end)) in
    conditions-read c.of.result text c.deref.result.now conditions given c.of.ensures.in_range c.of.ensures.value
    (text-joined members condition text rest c.loop-taken.invariant.parted spelled)
    (fit-more members condition rest c.loop-taken.invariant.fit spelled) number
