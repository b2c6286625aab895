use Rattle.std.proofs.Common.{◌<◌, ◌^◌, arith, rules}
use Rattle.sqlite.specs.Held.{state}
use Rattle.pt_tables_writing.proofs.ChangeLemmas.{did_run}
use Rattle.pt_tables_writing.proofs.ChairWrites.{takes_vehicle_chairs}
use Rattle.pt_tables_writing.proofs.chairs.VehicleChairsStored.take.Goals as goal

pub returns : goal.returns
returns g c =
    let old = state g.S.Store c.args.tx.now.conn.now in
    let new = state g.S.Store c.execute.new.self.conn.now in
    let gone = c.args.version.now in
    let low : gone.from_day < 2 ^ 32 = omega (arith, c.number-2.ensures.value, c.number-2.ensures.in_range.1) in
    let ran = c.in_ok-execute.ensures in
    record {
      step = did_run ran.same_reference ran.runs ran.survives
          (λ run has. takes_vehicle_chairs gone old new c.in_ok-execute.field-0 has low (search rules));
    }
