use Rattle.std.proofs.Common.{rules}
use Rattle.std.proofs.Math.Facts.{to_z-of_z}
use Rattle.sqlite.specs.Held.{state}
use Rattle.pt_tables_writing.proofs.ChangeLemmas.{did_run}
use Rattle.pt_tables_writing.proofs.StopRows.{two-added}
use Rattle.pt_tables_writing.proofs.grouped.stops.insert_two_stops.Goals as goal

pub returns : goal.returns
returns g c =
    let old = state g.S.Store c.args.tx.now.conn.now in
    let new = state g.S.Store c.execute.new.self.conn.now in
    let ran = c.in_ok-execute.ensures in
    record {
      step = did_run ran.same_reference ran.runs ran.survives
          (λ run has. two-added c.args.vehicle c.args.day c.args.place
          c.args.next c.args.stop c.args.later old new c.in_ok-execute.field-0 has
          (search (rules, to_z-of_z c.ranges.place, to_z-of_z c.ranges.next)));
    }
