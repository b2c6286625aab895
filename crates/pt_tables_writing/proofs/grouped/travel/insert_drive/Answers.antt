use Rattle.std.proofs.Common.{rules}
use Rattle.sqlite.specs.Held.{state}
use Rattle.pt_tables_writing.proofs.ChangeLemmas.{did_run}
use Rattle.pt_tables_writing.proofs.TravelRows.{drive-added}
use Rattle.pt_tables_writing.proofs.grouped.travel.insert_drive.Goals as goal

pub returns : goal.returns
returns g c =
    let old = state g.S.Store c.args.tx.now.conn.now in
    let new = state g.S.Store c.execute.new.self.conn.now in
    let ran = c.in_ok-execute.ensures in
    record {
      step = did_run ran.same_reference ran.runs ran.survives
          (λ run has. drive-added c.args.from_day (c.args.from, c.args.to, c.args.minutes) old new c.in_ok-execute.field-0
          has (search rules));
    }
