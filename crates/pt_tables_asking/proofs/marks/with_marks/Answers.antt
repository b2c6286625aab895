use Rattle.std.proofs.Common.{◌≡◌, ◌+◌, suc, slice_set, slice_index_or, length, map, drop, ap, ◌∙◌, arith, rules}
use Rattle.std.proofs.lemmas.List.{take_at}
use Rattle.pt_tables_asking.specs.Marks.{has_mark}
use Rattle.pt_tables_asking.proofs.MarkLemmas.{all_changed, first_changed, one_more}
use Rattle.pt_tables_asking.proofs.marks.with_marks.Goals as goal

pub loop-owner-preserved : goal.loop-owner-preserved
loop-owner-preserved g c =
    let f : _ → _ = λ x. g.M.Marking.marked x (has_mark c.args.marks.now (g.M.Record.Keyed.key x)) in
    let i = c.loop-owner.owner-index in
    let items = c.loop-owner.owner-items in
    let known = c.deref_mut-owner-items.result.now in
    let next : suc i ≡ i + 1 = omega arith in
    let made : c.mark.new.owner ≡ f (slice_index_or items i c.owner-item.result) = search rules in
    ap (slice_set items i) made
    ∙ ap (λ l. slice_set l i (f (slice_index_or l i c.owner-item.result))) c.loop-owner.invariant
    ∙ one_more f i known c.owner-item.result c.loop-owner-test.true
    ∙ ap (λ n. first_changed f n known) next

pub returns : goal.returns
returns g c =
    let f : _ → _ = λ x. g.M.Marking.marked x (has_mark c.args.marks.now (g.M.Record.Keyed.key x)) in
    let items = c.loop-owner.owner-items in
    let known = c.deref_mut-owner-items.result.now in
    let long : length items ≡ c.args.records.len = omega (arith, c.deref_mut-owner-items.ensures.len, c.loop-owner.auto.owner-items) in
    record {
      marked = take_at items (drop (length items) c.args.records.items) c.args.records.len long
          ∙ c.loop-owner.invariant
          ∙ all_changed f c.loop-owner.owner-index known c.loop-owner-test.false
          ∙ ap (map f) c.deref_mut-owner-items.ensures.value;
    }
