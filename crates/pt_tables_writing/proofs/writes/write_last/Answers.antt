use Rattle.sqlite.specs.Held.{state}
use Rattle.pt_tables_writing.proofs.ChangeLemmas.{did_as}
use Rattle.pt_tables_writing.proofs.LastLemmas.{kept_last}
use Rattle.pt_tables_writing.proofs.writes.write_last.Goals as goal

pub returns-in-Some-clause-step : goal.returns-in-Some-clause-step
returns-in-Some-clause-step g c =
    let old = state g.S.Store c.args.tx.now.conn.now in
    let new = state g.S.Store c.put_kept.new.tx.conn.now in
    did_as c.put_kept.ensures.step
    (λ both. kept_last c.args.change.now c.args.known.now.content c.in-Some.kept.now c.in-Some.ensures.kept c.in-Some.ensures.policy
    c.in-Some.ensures.last_trip old.now new.now both.0 both.1)
