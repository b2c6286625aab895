use Rattle.sqlite.specs.Held.{state}
use Rattle.pt_tables_writing.proofs.ChangeLemmas.{did_as, did_at, did_next}
use Rattle.pt_tables_writing.proofs.GroupLemmas.{Known-callers, Known-entries, people_lead}
use Rattle.pt_tables_writing.proofs.writes.write_people.Goals as goal

pub returns : goal.returns
returns g c =
    let change = c.args.change.now in
    let old = state g.S.Store c.args.tx.now.conn.now in
    let new = state g.S.Store c.write_edits-2.new.tx.conn.now in
    let callers = did_at (Known-callers change) c.callers_table.ensures.value c.in_ok-write_edits.ensures.step in
    let entries = did_at (Known-entries change) c.entries_table.ensures.value c.write_edits-2.ensures.step in
    let all = did_next (did_next callers c.in_ok-write_riders.ensures.step) entries in
    record { step = did_as all (people_lead change c.args.known.now.content old.now new.now) }
