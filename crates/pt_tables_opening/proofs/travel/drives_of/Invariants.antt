use Rattle.std.proofs.Common.{◌≡◌, map, take}
use Rattle.pt_base_records.specs.Records.{Each}
use Rattle.pt_desk_rules.specs.Ranges.{FitsDrive}
use Rattle.pt_tables_rows.specs.Rows.{travel_row}
use Rattle.pt_tables_opening.proofs.travel.drives_of.Given as goal

abbrev pub invariant-loop-row : goal.invariant-loop-row
invariant-loop-row l = record {
  rows_are : map (travel_row l.from_day) l.drives.items ≡ take l.row-index l.rows;
  each : Each FitsDrive l.drives.items;
}
