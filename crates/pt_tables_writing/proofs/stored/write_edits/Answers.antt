use Rattle.std.proofs.Common.{sym, subst}
use Rattle.sqlite.specs.Held.{state}
use Rattle.pt_tables_writing.specs.Groups.{KnowsTaken}
use Rattle.pt_tables_writing.proofs.ChangeLemmas.{did_then}
use Rattle.pt_tables_writing.proofs.StoredLemmas.{edits_made}
use Rattle.pt_tables_writing.proofs.stored.write_edits.Goals as goal

pub returns : goal.returns
returns g c =
    let t = g.T.TableOf.home in
    let key = g.T.Record.Keyed.key in
    let Fits = g.T.TableOf.Fits in
    let rows = g.T.TableOf.rows_of in
    let old = state g.S.Store c.args.tx.now.conn.now in
    let mid = state g.S.Store c.take_spans.new.tx.conn.now in
    let new = state g.S.Store c.put_each.new.tx.conn.now in
    let xs = c.args.records.now.items in
    record {
      step = did_then c.in_ok-take_spans.ensures.step c.put_each.ensures.step
          (λ has first next there agrees.
          edits_made t key Fits rows c.args.edits.now c.spans.result.now c.puts.result.now there c.spans.ensures.value
          c.puts.ensures.value old.now mid.now new.now
          (first there (subst (λ ss. KnowsTaken key ss xs there) (sym c.spans.ensures.value) agrees)) next);
    }
