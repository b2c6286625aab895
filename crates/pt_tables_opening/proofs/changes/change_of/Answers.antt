use Rattle.sqlite.specs.Held.{state}
use Rattle.pt_tables_opening.proofs.AddedTables.{reads_none, reads_some}
use Rattle.pt_tables_opening.proofs.changes.change_of.Goals as goal

pub returns : goal.returns
returns g c s adds =
    reads_some c.args.table (state g.S.Store c.args.conn.now) (state g.S.Store c.gathered_in.new.conn) s c.gathered_in.result c.gathered_in.ensures.rests adds
    c.in_ok-records.records c.in_ok-records.was c.in_ok-records.ensures.fitting c.in_ok-records.ensures.told _ c.change.ensures.value

pub returns-in_err-records : goal.returns-in_err-records
returns-in_err-records g c s adds =
    reads_none c.args.table (state g.S.Store c.args.conn.now) (state g.S.Store c.gathered_in.new.conn) s c.gathered_in.result c.gathered_in.ensures.rests adds
    _ c.from_residual.result c.from_residual.ensures.0 c.from_residual.ensures.1 c.in_err-records.ensures.faults c.in_err-records.ensures.caused
