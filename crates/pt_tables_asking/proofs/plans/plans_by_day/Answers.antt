use Rattle.std.proofs.Common.{◌≡◌, ◌++◌, ◌+◌, ◌∷◌, ◌<◌, suc, List, length, drop, drop-cons, add-one, append-nil, append_assoc, sym, ap, subst, ◌∙◌, arith, rules}
use Rattle.std.specs.Option.{option_to_list}
use Rattle.std.specs.Prelude.{◌==◌}
use Rattle.std.proofs.lemmas.List.{drop_all}
use Rattle.sqlite.specs.Held.{state}
use Rattle.sqlite.specs.State.{HasCleanDisk}
use Rattle.pt_desk_rules.specs.Parts as part
use Rattle.pt_desk_rules.specs.Planned.{planned_on}
use Rattle.pt_base_records.specs.Keys.{pair_key}
use Rattle.pt_base_records.specs.Records.{Each, IsInOrder, record_at}
use Rattle.pt_base_records.proofs.TableLemmas.{IsInOrder-filter}
use Rattle.pt_desk_scheduling.specs.Plan.{Plan, plan_key}
use Rattle.pt_tables_asking.specs.Plans.{HasVersionAmong, vehicle_ids}
use Rattle.pt_tables_asking.proofs.ContentLemmas.{kept_still}
use Rattle.pt_tables_asking.proofs.DayLemmas.{plans_of, plans_of_day}
use Rattle.pt_tables_asking.proofs.InsideLemmas.{rests_then}
use Rattle.pt_tables_asking.proofs.ReadLemmas.{ok_same}
use Rattle.pt_tables_asking.proofs.CauseLemmas.{excused_after, excuses_as, excuses_none}
use Rattle.pt_tables_asking.proofs.plans.plans_by_day.Goals as goal

pub returns-in_err-found-clause-excused : goal.returns-in_err-found-clause-excused
returns-in_err-found-clause-excused g c clean content readable same carried few held =
    let cur = state g.S.Store c.loop-id.conn in
    let early : HasCleanDisk cur = omega (arith, clean, c.in_err-found.ensures.rests.survives.clean) in
    let now = kept_still content (state g.S.Store c.args.conn.now) cur c.loop-id.invariant.rests early held in
    let why = c.in_err-found.ensures.excused clean content readable few now in
    let old = state g.S.Store c.args.conn.now in
    let new = state g.S.Store c.plan_by_key.new.conn in
    excuses_as old new c.from_residual-in_err-found.result c.in_err-found.field-0.0 (search rules)
    (excused_after old cur new (λ _. ⊥) (λ _. ⊥) c.in_err-found.field-0.0 c.loop-id.invariant.rests.survives early c.in_err-found.ensures.rests.survives why)

pub loop-id-preserved : goal.loop-id-preserved
loop-id-preserved g c =
    let old = state g.S.Store c.args.conn.now in
    let cur = state g.S.Store c.loop-id.conn in
    let new = state g.S.Store c.plan_by_key.new.conn in
    let day = c.args.day in
    let ids = c.deref-id-items.result.now in
    let i = c.loop-id.id-index in
    let id = c.id-item.result in
    record {
      rests = rests_then old cur new c.loop-id.invariant.rests c.in_ok-found.ensures.rests;
      plans = λ clean content readable held.
          let early : HasCleanDisk cur = omega (arith, clean, c.in_ok-found.ensures.rests.survives.clean) in
          let now = kept_still content old cur c.loop-id.invariant.rests early held in
          let before = c.loop-id.plans.items in
          let rest = plans_of day content.planned (drop (i + 1) ids) in
          let told = c.in_ok-found.ensures.told clean content readable now in
          let found : c.in_ok-found.found ≡ record_at plan_key (pair_key id day) content.planned = search rules in
          let low : i < length ids = c.loop-id-test.true in
          let these : drop i ids ≡ id ∷ drop (i + 1) ids = drop-cons ids i id low ∙ ap (λ n. n ∷ drop (suc i) ids) (sym c.id-item.is) ∙ ap (λ n. id ∷ drop n ids) (sym (add-one i)) in
          ap (λ l. l ++ rest) c.in_ok-push_found.ensures.value
          ∙ append_assoc before (option_to_list c.in_ok-found.found) rest
          ∙ ap (λ o. before ++ (option_to_list o ++ rest)) found
          ∙ ap (λ l. before ++ plans_of day content.planned l) (sym these)
          ∙ c.loop-id.invariant.plans early content readable held;
    }

pub returns-clause-told : goal.returns-clause-told
returns-clause-told g c clean content readable same carried held =
    let day = c.args.day in
    let ids = c.deref-id-items.result.now in
    let plans = c.loop-id.plans.items in
    let last = c.number-date.ensures.in_range.1 in
    let low : day < 4_294_967_296 = omega (arith, last, c.number-date.ensures.value) in
    let whole : plans ≡ plans_of day content.planned ids =
    sym (append-nil plans) ∙ sym (ap (λ l. plans ++ plans_of day content.planned l) (drop_all c.loop-id.id-index ids (omega (arith, c.loop-id-test.false))))
    ∙ c.loop-id.invariant.plans clean content readable held in
    ok_same c.in_order.result plans (planned_on day content.planned) c.in_order.ensures.told
    (whole ∙ ap (plans_of day content.planned) (c.deref-id-items.ensures.value ∙ c.in_ok-ids.ensures.value ∙ ap vehicle_ids (sym same))
    ∙ plans_of_day content readable (subst (λ vs. Each (HasVersionAmong vs) content.planned) (sym same) carried) day low)

pub returns-clause-excused : goal.returns-clause-excused
returns-clause-excused g c clean content readable same carried few held =
    let day = c.args.day in
    let ids = c.deref-id-items.result.now in
    let plans = c.loop-id.plans.items in
    let last = c.number-date.ensures.in_range.1 in
    let low : day < 4_294_967_296 = omega (arith, last, c.number-date.ensures.value) in
    let whole : plans ≡ plans_of day content.planned ids =
    sym (append-nil plans) ∙ sym (ap (λ l. plans ++ plans_of day content.planned l) (drop_all c.loop-id.id-index ids (omega (arith, c.loop-id-test.false))))
    ∙ c.loop-id.invariant.plans clean content readable held in
    excuses_none (state g.S.Store c.args.conn.now) (state g.S.Store c.loop-id.conn) c.in_order.result (IsInOrder plan_key plans) c.in_order.ensures.ordered
    (subst (λ (xs : List Plan). IsInOrder plan_key xs)
    (sym (whole ∙ ap (plans_of day content.planned) (c.deref-id-items.ensures.value ∙ c.in_ok-ids.ensures.value ∙ ap vehicle_ids (sym same))
    ∙ plans_of_day content readable (subst (λ vs. Each (HasVersionAmong vs) content.planned) (sym same) carried) day low))
    (IsInOrder-filter plan_key (λ plan. plan.day == day) content.planned (readable.order part.planned)))
