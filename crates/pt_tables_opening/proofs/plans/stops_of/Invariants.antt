use Rattle.std.proofs.Common.{◌≡◌, length, take}
use Rattle.pt_tables_opening.specs.Gathered.{FitStops}
use Rattle.pt_tables_rows.specs.Rows.{stop_rows_from}
use Rattle.pt_tables_opening.proofs.plans.stops_of.Given as goal

abbrev pub invariant-loop-place : goal.invariant-loop-place
invariant-loop-place l = record {
  rows_are : stop_rows_from 0 l.fn.vehicle l.fn.day l.stops.items ≡ take l.place l.rows;
  count : length l.stops.items ≡ l.place;
  fit : FitStops l.fn.vehicle l.fn.day l.stops.items;
}
