use Rattle.std.proofs.Common.{SFits, w64, to_z-of_z}
use Rattle.sqlite.specs.Held.{state}
use Rattle.pt_tables_writing.proofs.NumberedTables.{trip_stored}
use Rattle.pt_tables_writing.proofs.ChangeLemmas.{did_run}
use Rattle.pt_tables_writing.proofs.numbered.TripsStored.put.Goals as goal

pub returns : goal.returns
returns g c =
    let old = state g.S.Store c.args.tx.now.conn.now in
    let new = state g.S.Store c.execute.new.self.conn.now in
    let fits : SFits w64 c.optional_number.result = record { sfits = c.optional_number.type_inv } in
    let ran = c.in_ok-execute.ensures in
    record {
      step = did_run ran.same_reference ran.runs ran.survives
          (λ run has. trip_stored.puts c.args.trip.now old new c.in_ok-execute.field-0
          has (rw (
            c.params-to_sql.ensures,
            c.params-to_sql-2.ensures,
            c.params-to_sql-3.ensures,
            c.params-to_sql-4.ensures,
            c.params-to_sql-5.ensures,
            c.params-to_sql-6.ensures,
            c.params-to_sql-7.ensures,
            c.params-to_sql-8.ensures,
            c.params-to_sql-9.ensures,
            c.params-to_sql-10.ensures,
            c.params-to_sql-11.ensures,
            c.params-to_sql-12.ensures,
            c.params-to_sql-13.ensures,
            c.params-to_sql-14.ensures,
            c.params-to_sql-15.ensures,
            c.params-to_sql-16.ensures,
            c.number.ensures.value,
            c.number-2.ensures.value,
            c.number-3.ensures.value,
            c.number-4.ensures.value,
            c.number-5.ensures.value,
            c.number-6.ensures.value,
            c.number-7.ensures.value,
            c.number-8.ensures.value,
            c.number-9.ensures.value,
            to_z-of_z fits,
            c.optional_number.ensures.value,
            c.status_number.ensures.value,
            c.from.ensures,
            c.from-2.ensures,
            c.from-3.ensures,
            c.from-4.ensures,
          ) at run));
    }
