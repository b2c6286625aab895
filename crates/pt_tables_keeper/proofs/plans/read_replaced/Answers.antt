use Rattle.std.proofs.Common.{◌≡◌, ◌+◌, ◌∷◌, ◌<◌, suc, length, map, drop, drop-cons, add-one, sym, ap, subst, ◌∙◌, arith, rules}
use Rattle.sqlite.specs.Held.{state}
use Rattle.sqlite.specs.State.{HasCleanDisk}
use Rattle.pt_base_records.specs.Records.{record_at}
use Rattle.pt_desk_scheduling.specs.Plan.{plan_key}
use Rattle.pt_tables_asking.proofs.ContentLemmas.{kept_still}
use Rattle.pt_tables_asking.proofs.InsideLemmas.{rests_then}
use Rattle.pt_tables_keeper.proofs.PlanLemmas.{still_plans}
use Rattle.pt_tables_keeper.specs.Plans.{plans_at, plans_with, ArePlansOf}
use Rattle.pt_tables_keeper.proofs.plans.read_replaced.Goals as goal

pub loop-new-preserved : goal.loop-new-preserved
loop-new-preserved g c =
    let old = state g.S.Store c.args.conn.now in
    let cur = state g.S.Store c.loop-new.conn in
    let items = c.args.news.now in
    let i = c.loop-new.new-index in
    let item = c.new-item.result in
    record {
      rests = rests_then old cur (state g.S.Store c.read_unread.new.conn) c.loop-new.invariant.rests c.in_ok-read_unread.ensures.rests;
      plans = λ clean content readable held are.
          let early : HasCleanDisk cur = omega (arith, clean, c.in_ok-read_unread.ensures.rests.survives.clean) in
          let now = kept_still content old cur c.loop-new.invariant.rests early held in
          let before = c.loop-new.plans.items in
          let so_far = c.loop-new.invariant.plans early content readable held are in
          let said = c.in_ok-read_unread.ensures.told clean content readable now so_far.1 in
          let told : c.read_unread.new.plans.items ≡ plans_with (record_at plan_key (plan_key c.new-item.result) content.planned) before = search rules in
          let low : i < length items = c.loop-new-test.true in
          let these : drop i items ≡ item ∷ drop (i + 1) items = drop-cons items i item low ∙ ap (λ l. l ∷ drop (suc i) items) (sym c.new-item.is) ∙ ap (λ n. item ∷ drop n items) (sym (add-one i)) in (
            ap (plans_at content.planned (map plan_key (drop (i + 1) items))) told
                ∙ ap (λ l. plans_at content.planned (map plan_key l) before) (sym these)
                ∙ so_far.0,
            subst (ArePlansOf content.planned) (sym told) (still_plans content.planned (plan_key c.new-item.result) before so_far.1),
          );
    }
