use Rattle.sqlite.specs.Held.{state}
use Rattle.pt_desk_rules.specs.Parts as part
use Rattle.pt_tables_writing.proofs.ChangeLemmas.{did_at, did_then}
use Rattle.pt_tables_writing.proofs.GroupLemmas.{Known-riders, Marked-riders}
use Rattle.pt_tables_writing.proofs.writes.write_riders.Goals as goal

pub returns : goal.returns
returns g c =
    let change = c.args.change.now in
    let mid = state g.S.Store c.write_edits.new.tx.conn.now in
    let rows = did_at (Known-riders change) c.riders_table-riders.ensures.value c.in_ok-write_edits.ensures.step in
    let marks = did_at (Marked-riders change) c.riders_table-riders.ensures.value c.write_edits-2.ensures.step in
    record {
      step = did_then rows marks (λ has first next there agrees.
          let known = agrees.parts part.riders in
          (mid.now, first there.riders known, λ kept. next kept there.riders known));
    }
