use Rattle.std.proofs.Common.{rules}
use Rattle.sqlite.specs.Held.{state}
use Rattle.pt_tables_writing.proofs.ChangeLemmas.{did_run}
use Rattle.pt_tables_writing.proofs.ChairWrites.{takes_trip_chair}
use Rattle.pt_tables_writing.proofs.chairs.TripChairsStored.take.Goals as goal

pub returns : goal.returns
returns g c =
    let old = state g.S.Store c.args.tx.now.conn.now in
    let new = state g.S.Store c.execute.new.self.conn.now in
    let ran = c.in_ok-execute.ensures in
    record {
      step = did_run ran.same_reference ran.runs ran.survives
          (λ run has. takes_trip_chair c.args.trip.now old new c.in_ok-execute.field-0 has (search rules));
    }
