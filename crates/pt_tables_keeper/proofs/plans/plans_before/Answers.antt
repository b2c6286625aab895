use Rattle.std.proofs.Common.{◌≡◌, [], map, sym, ap, subst, ◌∙◌, arith}
use Rattle.sqlite.specs.Held.{state}
use Rattle.sqlite.specs.State.{HasCleanDisk}
use Rattle.pt_base_records.specs.declared.span.Span.{Span}
use Rattle.pt_desk_scheduling.specs.Plan.{plan_key}
use Rattle.pt_tables_asking.proofs.ContentLemmas.{kept_still}
use Rattle.pt_tables_keeper.specs.Plans.{plans_at, ArePlansOf}
use Rattle.pt_tables_keeper.proofs.PlanLemmas.{plans_are, plans_then}
use Rattle.pt_tables_keeper.proofs.plans.plans_before.Goals as goal

pub returns-clause-told : goal.returns-clause-told
returns-clause-told g c clean content readable held =
    let there = content.planned in
    let edits = c.args.edits.now in
    let keys = map (λ (span : Span). span.from) in
    let mid = state g.S.Store c.read_taken.new.conn in
    let early : HasCleanDisk mid = omega (arith, clean, c.in_ok-read_replaced.ensures.rests.survives.clean) in
    let now = kept_still content (state g.S.Store c.args.conn.now) mid c.in_ok-read_taken.ensures.rests early held in
    let one : c.read_taken.new.plans.items ≡ plans_at there (keys edits.away) [] =
    c.in_ok-read_taken.ensures.told early content readable held ∙ ap (λ l. plans_at there (keys l) c.none-plans.result.items) c.spans.ensures.value
    ∙ ap (plans_at there (keys edits.away)) c.none-plans.ensures.value in
    c.in_ok-read_replaced.ensures.told clean content readable now
    (subst (ArePlansOf there) (sym one) (plans_are there (keys edits.away))) ∙ ap (λ l. plans_at there (map plan_key l) c.read_taken.new.plans.items) c.puts.ensures.value
    ∙ ap (plans_at there (map plan_key edits.puts)) one ∙ sym (plans_then there (keys edits.away) (map plan_key edits.puts) [])
