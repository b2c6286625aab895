use Rattle.std.proofs.Common.{◌≡◌, ◌+◌, ◌++◌, ◌∷◌, [], take, sym, ap, ◌∙◌, arith}
use Rattle.std.proofs.lemmas.List.{take_all, take_more}
use Rattle.sqlite.specs.Held.{state}
use Rattle.pt_base_records.specs.Records.{within}
use Rattle.pt_tables_writing.specs.Groups.{KnowsTaken, OfEach}
use Rattle.pt_tables_writing.specs.Stored.{TakesSpans}
use Rattle.pt_tables_writing.proofs.ChangeLemmas.{did_at, did_then}
use Rattle.pt_tables_writing.proofs.StoredLemmas.{known_at, spans_next}
use Rattle.pt_tables_writing.proofs.stored.take_spans.Goals as goal

pub loop-span-preserved : goal.loop-span-preserved
loop-span-preserved g c =
    let t = g.T.TableOf.home in
    let key = g.T.Record.Keyed.key in
    let Fits = g.T.TableOf.Fits in
    let rows = g.T.TableOf.rows_of in
    let old = state g.S.Store c.args.tx.now.conn.now in
    let mid = state g.S.Store c.loop-span.tx.conn.now in
    let new = state g.S.Store c.take_each.new.tx.conn.now in
    let spans = c.args.spans.now in
    let at = c.loop-span.span-index in
    let done = take at spans in
    let item = c.span-item.result in
    let items = c.args.records.now.items in
    let more : take (at + 1) spans ≡ done ++ item ∷ [] =
    take_more spans at item (omega arith) ∙ ap (λ x. done ++ x ∷ []) (sym c.span-item.is) in
    did_at (λ ss. OfEach (KnowsTaken key spans items) (TakesSpans t key Fits rows ss)) (sym more)
    (did_then c.loop-span.invariant c.in_ok-take_each.ensures.step
    (λ has first next there agrees.
    let same : within key item items ≡ within key item there =
    known_at key spans at item items there (omega arith) c.span-item.is agrees in
    let found : c.within.result.now ≡ within key item there = c.within.ensures.value ∙ same in
    spans_next t key Fits rows done item there c.within.result.now found old.now mid.now new.now (first there agrees)
    next))

pub returns : goal.returns
returns g c =
    let t = g.T.TableOf.home in
    let key = g.T.Record.Keyed.key in
    let spans = c.args.spans.now in
    let all = take_all c.loop-span.span-index spans (omega (arith, c.loop-span-test.false)) in
    let items = c.args.records.now.items in
    record {
      step = did_at (λ ss. OfEach (KnowsTaken key spans items)
          (TakesSpans t key g.T.TableOf.Fits g.T.TableOf.rows_of ss)) all c.loop-span.invariant;
    }
