use Rattle.sqlite.specs.Held.{state}
use Rattle.pt_tables_writing.proofs.RaiseWrites.{raised_sound, raises, schema_stays}
use Rattle.pt_tables_writing.proofs.ChangeLemmas.{did_run}
use Rattle.pt_tables_writing.proofs.numbered.desk.raise_version.Goals as goal

pub returns-clause-step : goal.returns-clause-step
returns-clause-step g c =
    let old = state g.S.Store c.args.tx.now.conn.now in
    let new = state g.S.Store c.execute.new.self.conn.now in
    let ran = c.in_ok-execute.ensures in
    did_run ran.same_reference ran.runs ran.survives (λ it has.
    let run = rw (c.params-to_sql.ensures, c.params-to_sql-2.ensures) at it in
    record {
      schema = schema_stays old new c.in_ok-execute.field-0 has run;
      rows = λ v p n. raises v p n old new c.in_ok-execute.field-0 has run;
    })

pub returns-clause-open : goal.returns-clause-open
returns-clause-open g c clean inside = let ran = c.in_ok-execute.ensures.runs clean inside in ran.1.was_open

pub returns-clause-sound : goal.returns-clause-sound
returns-clause-sound g c clean inside has =
    let old = state g.S.Store c.args.tx.now.conn.now in
    let new = state g.S.Store c.execute.new.self.conn.now in
    let ran = c.in_ok-execute.ensures.runs clean inside in
    let run = rw (c.params-to_sql.ensures, c.params-to_sql-2.ensures) at ran.0 in
    raised_sound old new c.in_ok-execute.field-0 has run
