use Rattle.std.proofs.Common.{rules}
use Rattle.sqlite.specs.Held.{state}
use Rattle.pt_tables_writing.proofs.ChangeLemmas.{did_run}
use Rattle.pt_tables_writing.proofs.ChairWrites.{adds_vehicle_chairs}
use Rattle.pt_tables_writing.proofs.chairs.add_vehicle_chairs.Goals as goal

pub returns : goal.returns
returns g c =
    let old = state g.S.Store c.args.tx.now.conn.now in
    let new = state g.S.Store c.execute.new.self.conn.now in
    let version = c.args.version.now in
    let ran = c.in_ok-execute.ensures in
    record {
      step = did_run ran.same_reference ran.runs ran.survives
          (λ run has. adds_vehicle_chairs version old new c.in_ok-execute.field-0 has c.requires.some (search rules));
    }
