use Rattle.std.proofs.Common.{◌≡◌, ◌+◌, ◌∷◌, ◌<◌, suc, length, map, drop, drop-cons, add-one, sym, ap, ◌∙◌, arith, rules}
use Rattle.sqlite.specs.Held.{state}
use Rattle.sqlite.specs.State.{HasCleanDisk}
use Rattle.pt_base_records.specs.Records.{record_at}
use Rattle.pt_base_records.specs.declared.span.Span.{Span}
use Rattle.pt_desk_scheduling.specs.Plan.{plan_key}
use Rattle.pt_tables_asking.proofs.ContentLemmas.{kept_still}
use Rattle.pt_tables_asking.proofs.InsideLemmas.{rests_then}
use Rattle.pt_tables_keeper.specs.Plans.{plans_at, plans_with}
use Rattle.pt_tables_keeper.proofs.plans.read_taken.Goals as goal

pub loop-span-preserved : goal.loop-span-preserved
loop-span-preserved g c =
    let old = state g.S.Store c.args.conn.now in
    let cur = state g.S.Store c.loop-span.conn in
    let items = c.args.spans.now in
    let i = c.loop-span.span-index in
    let item = c.span-item.result in
    record {
      rests = rests_then old cur (state g.S.Store c.read_plan.new.conn) c.loop-span.invariant.rests c.in_ok-read_plan.ensures.rests;
      plans = λ clean content readable held.
          let early : HasCleanDisk cur = omega (arith, clean, c.in_ok-read_plan.ensures.rests.survives.clean) in
          let now = kept_still content old cur c.loop-span.invariant.rests early held in
          let before = c.loop-span.plans.items in
          let said = c.in_ok-read_plan.ensures.told clean content readable now in
          let told : c.read_plan.new.plans.items ≡ plans_with (record_at plan_key c.span-item.result.from content.planned) before = search rules in
          let low : i < length items = c.loop-span-test.true in
          let these : drop i items ≡ item ∷ drop (i + 1) items = drop-cons items i item low ∙ ap (λ l. l ∷ drop (suc i) items) (sym c.span-item.is) ∙ ap (λ n. item ∷ drop n items) (sym (add-one i)) in
          ap (plans_at content.planned (map (λ (span : Span). span.from) (drop (i + 1) items))) told
          ∙ ap (λ l. plans_at content.planned (map (λ (span : Span). span.from) l) before) (sym these)
          ∙ c.loop-span.invariant.plans early content readable held;
    }
