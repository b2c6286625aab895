use Rattle.std.proofs.Common.{◌≡◌, ◌+◌, ◌++◌, ◌∷◌, [], take, sym, ap, ◌∙◌, arith}
use Rattle.std.proofs.lemmas.List.{take_more}
use Rattle.sqlite.specs.Held.{state}
use Rattle.pt_tables_writing.specs.Stored.{TakesAll}
use Rattle.pt_tables_writing.proofs.ChangeLemmas.{did_at, did_then}
use Rattle.pt_tables_writing.proofs.StoredLemmas.{takes_next}
use Rattle.pt_tables_writing.proofs.stored.take_each.Goals as goal

pub loop-old-preserved : goal.loop-old-preserved
loop-old-preserved g c =
    let t = g.T.TableOf.home in
    let key = g.T.Record.Keyed.key in
    let Fits = g.T.TableOf.Fits in
    let rows = g.T.TableOf.rows_of in
    let old = state g.S.Store c.args.tx.now.conn.now in
    let mid = state g.S.Store c.loop-old.tx.conn.now in
    let new = state g.S.Store c.take.new.tx.conn.now in
    let done = take c.loop-old.old-index c.args.gone.now in
    let item = c.old-item.result in
    let more : take (c.loop-old.old-index + 1) c.args.gone.now ≡ done ++ item ∷ [] =
    take_more c.args.gone.now c.loop-old.old-index item (omega arith) ∙ ap (λ x. done ++ x ∷ []) (sym c.old-item.is) in
    did_at (TakesAll t key Fits rows) (sym more) (did_then c.loop-old.invariant c.in_ok-take.ensures.step
    (λ has first next. takes_next t key Fits rows done item old.now mid.now new.now first next))
