use Rattle.std.proofs.Common.{Ok, length, map}
use Rattle.pt_tables_writing.specs.Step.{Writes}
use Rattle.pt_tables_rows.specs.Rows.{travel_row}
use Rattle.pt_tables_rows.specs.Schema.{travel_table}
use Rattle.pt_tables_writing.proofs.ChangeLemmas.{AddsBut}
use Rattle.pt_tables_writing.proofs.grouped.travel.insert_drives.Given as goal

abbrev pub invariant-loop-left : goal.invariant-loop-left
invariant-loop-left g l =
    let row = travel_row l.fn.from_day in
    Writes {X = Unit {0}} g.S.Store l.initial.tx l.tx
    (AddsBut travel_table (map row l.left) (map row l.fn.rows)) (Ok tt)

abbrev pub decreases-loop-left : goal.decreases-loop-left
decreases-loop-left g l = length l.left
