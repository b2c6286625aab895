use Rattle.std.proofs.Common.{◌≡◌, ◌+◌, ◌++◌, ◌∷◌, [], take, sym, ap, ◌∙◌, arith}
use Rattle.std.proofs.lemmas.List.{take_more}
use Rattle.sqlite.specs.Held.{state}
use Rattle.pt_tables_writing.specs.Stored.{PutsAll}
use Rattle.pt_tables_writing.proofs.ChangeLemmas.{did_at, did_then}
use Rattle.pt_tables_writing.proofs.StoredLemmas.{puts_next}
use Rattle.pt_tables_writing.proofs.stored.put_each.Goals as goal

pub loop-new-preserved : goal.loop-new-preserved
loop-new-preserved g c =
    let t = g.T.TableOf.home in
    let key = g.T.Record.Keyed.key in
    let Fits = g.T.TableOf.Fits in
    let rows = g.T.TableOf.rows_of in
    let old = state g.S.Store c.args.tx.now.conn.now in
    let mid = state g.S.Store c.loop-new.tx.conn.now in
    let new = state g.S.Store c.put.new.tx.conn.now in
    let done = take c.loop-new.new-index c.args.news.now in
    let item = c.new-item.result in
    let more : take (c.loop-new.new-index + 1) c.args.news.now ≡ done ++ item ∷ [] =
    take_more c.args.news.now c.loop-new.new-index item (omega arith) ∙ ap (λ x. done ++ x ∷ []) (sym c.new-item.is) in
    did_at (PutsAll t key Fits rows) (sym more) (did_then c.loop-new.invariant c.in_ok-put.ensures.step
    (λ has first next. puts_next t key Fits rows done item old.now mid.now new.now first next))
