use Rattle.sqlite.specs.Held.{state}
use Rattle.pt_tables_writing.proofs.ChangeLemmas.{did_as, did_next, open_then}
use Rattle.pt_tables_writing.proofs.GroupLemmas.{trips_lead}
use Rattle.pt_tables_writing.proofs.writes.write_trips.Goals as goal

pub returns-clause-step : goal.returns-clause-step
returns-clause-step g c =
    let old = state g.S.Store c.args.tx.now.conn.now in
    let new = state g.S.Store c.write_last.new.tx.conn.now in
    let two = did_next c.in_ok-write_booked.ensures.step c.in_ok-write_plans.ensures.step in
    did_as (did_next two c.write_last.ensures.step)
    (trips_lead c.args.change.now c.args.known.now.content c.args.plans.now.items old.now new.now)

pub returns-clause-open : goal.returns-clause-open
returns-clause-open g c =
    let two = did_next c.in_ok-write_booked.ensures.step c.in_ok-write_plans.ensures.step in
    open_then two c.write_last.ensures.step c.write_last.ensures.open
