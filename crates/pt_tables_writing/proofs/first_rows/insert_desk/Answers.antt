use Rattle.sqlite.specs.Held.{state}
use Rattle.pt_tables_writing.proofs.FirstRowLemmas.{fills_desk}
use Rattle.pt_tables_writing.proofs.ChangeLemmas.{did_run}
use Rattle.pt_tables_writing.proofs.first_rows.insert_desk.Goals as goal

pub returns : goal.returns
returns g c =
    let old = state g.S.Store c.args.tx.now.conn.now in
    let new = state g.S.Store c.execute.new.self.conn.now in
    let ran = c.in_ok-execute.ensures in
    record {
      step = did_run ran.same_reference ran.runs ran.survives
          (λ run has. fills_desk c.args.policy.now c.args.last_trip old new
          c.in_ok-execute.field-0 has (rw (
            c.params-to_sql.ensures,
            c.params-to_sql-2.ensures,
            c.params-to_sql-3.ensures,
            c.params-to_sql-4.ensures,
            c.params-to_sql-5.ensures,
            c.params-to_sql-6.ensures,
            c.params-to_sql-7.ensures,
            c.params-to_sql-8.ensures,
            c.params-to_sql-9.ensures,
            c.params-to_sql-10.ensures,
            c.params-to_sql-11.ensures,
            c.from.ensures,
            c.from-2.ensures,
            c.from-3.ensures,
            c.from-4.ensures,
            c.from-5.ensures,
          ) at run));
    }
