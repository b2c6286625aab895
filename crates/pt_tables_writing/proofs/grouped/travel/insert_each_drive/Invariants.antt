use Rattle.std.proofs.Common.{Ok, map, take}
use Rattle.pt_tables_writing.specs.Grouped.{Adds}
use Rattle.pt_tables_writing.specs.Step.{Writes}
use Rattle.pt_tables_rows.specs.Rows.{travel_row}
use Rattle.pt_tables_rows.specs.Schema.{travel_table}
use Rattle.pt_tables_writing.proofs.grouped.travel.insert_each_drive.Given as goal

abbrev pub invariant-loop-row : goal.invariant-loop-row
invariant-loop-row g l =
    Writes {X = Unit {0}} g.S.Store l.initial.tx l.tx
    (Adds travel_table (map (travel_row l.fn.from_day) (take l.row-index l.fn.rows))) (Ok tt)
