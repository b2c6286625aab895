use Rattle.std.proofs.Common.{◌≡◌, ◌+◌, suc, slice_set, slice_index_or, length, map, drop, ap, ◌∙◌, arith, rules}
use Rattle.std.proofs.lemmas.List.{take_at}
use Rattle.sqlite.specs.Held.{state}
use Rattle.sqlite.specs.State.{HasCleanDisk}
use Rattle.pt_tables_asking.specs.Marks.{marked_in}
use Rattle.pt_tables_asking.proofs.InsideLemmas.{rests_then}
use Rattle.pt_tables_asking.proofs.MarkLemmas.{all_changed, first_changed, marks_still, one_more}
use Rattle.pt_tables_asking.proofs.CauseLemmas.{excused_after, excuses_as}
use Rattle.pt_tables_asking.proofs.marks.mark_each.Goals as goal

pub returns-in_err-found-clause-excused : goal.returns-in_err-found-clause-excused
returns-in_err-found-clause-excused g c clean all order fits has =
    let key = g.M.Record.Keyed.key in
    let rows = g.M.TableOf.rows_of in
    let old = state g.S.Store c.args.conn.now in
    let cur = state g.S.Store c.loop-owner.conn in
    let early : HasCleanDisk cur = omega (arith, clean, c.in_err-found.ensures.rests.survives.clean) in
    let why = c.in_err-found.ensures.excused clean all order fits (marks_still key rows c.args.text.now all old cur c.requires.committed c.loop-owner.invariant.rests early has) in
    let new = state g.S.Store c.is_marked.new.conn in
    excuses_as old new c.from_residual.result c.in_err-found.field-0.0 (search rules)
    (excused_after old cur new (λ _. ⊥) (λ _. ⊥) c.in_err-found.field-0.0 c.loop-owner.invariant.rests.survives early c.in_err-found.ensures.rests.survives why)

pub loop-owner-preserved : goal.loop-owner-preserved
loop-owner-preserved g c =
    let key = g.M.Record.Keyed.key in
    let rows = g.M.TableOf.rows_of in
    let old = state g.S.Store c.args.conn.now in
    let cur = state g.S.Store c.loop-owner.conn in
    let new = state g.S.Store c.is_marked.new.conn in
    record {
      rests = rests_then old cur new c.loop-owner.invariant.rests c.in_ok-found.ensures.rests;
      marked = λ clean all order has.
          let f : _ → _ = marked_in key rows g.M.Marking.marked all in
          let i = c.loop-owner.owner-index in
          let items = c.loop-owner.owner-items in
          let known = c.deref_mut-owner-items.result.now in
          let next : suc i ≡ i + 1 = omega arith in
          let early : HasCleanDisk cur = omega (arith, clean, c.in_ok-found.ensures.rests.survives.clean) in
          let told = c.in_ok-found.ensures.told clean all order (marks_still key rows c.args.text.now all old cur c.requires.committed c.loop-owner.invariant.rests early has) in
          let made : c.mark.new.owner ≡ f (slice_index_or items i c.owner-item.result) = search rules in
          ap (slice_set items i) made
          ∙ ap (λ l. slice_set l i (f (slice_index_or l i c.owner-item.result))) (c.loop-owner.invariant.marked early all order has)
          ∙ one_more f i known c.owner-item.result c.loop-owner-test.true
          ∙ ap (λ n. first_changed f n known) next;
    }

pub returns-clause-told : goal.returns-clause-told
returns-clause-told g c clean all order has =
    let f : _ → _ = marked_in g.M.Record.Keyed.key g.M.TableOf.rows_of g.M.Marking.marked all in
    let items = c.loop-owner.owner-items in
    let known = c.deref_mut-owner-items.result.now in
    let long : length items ≡ c.args.records.len = omega (arith, c.deref_mut-owner-items.ensures.len, c.loop-owner.auto.owner-items) in
    take_at items (drop (length items) c.args.records.items) c.args.records.len long
    ∙ c.loop-owner.invariant.marked clean all order has
    ∙ all_changed f c.loop-owner.owner-index known c.loop-owner-test.false
    ∙ ap (map f) c.deref_mut-owner-items.ensures.value
