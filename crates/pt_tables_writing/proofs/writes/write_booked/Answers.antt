use Rattle.sqlite.specs.Held.{state}
use Rattle.pt_desk_rules.specs.Parts as part
use Rattle.pt_tables_writing.proofs.ChangeLemmas.{did_at, did_then}
use Rattle.pt_tables_writing.proofs.GroupLemmas.{Known-trips, Marked-trips}
use Rattle.pt_tables_writing.proofs.writes.write_booked.Goals as goal

pub returns : goal.returns
returns g c =
    let change = c.args.change.now in
    let mid = state g.S.Store c.write_edits.new.tx.conn.now in
    let rows = did_at (Known-trips change) c.trips_table-trips.ensures.value c.in_ok-write_edits.ensures.step in
    let marks = did_at (Marked-trips change) c.trips_table-trips.ensures.value c.write_edits-2.ensures.step in
    record {
      step = did_then rows marks (λ has first next there agrees.
          let known = agrees.parts part.trips in
          (mid.now, first there.trips known, λ kept. next kept there.trips known));
    }
