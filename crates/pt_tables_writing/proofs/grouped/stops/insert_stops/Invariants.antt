use Rattle.std.proofs.Common.{◌-◌, ◌≤◌, Ok, drop, length, take}
use Rattle.pt_tables_writing.specs.Grouped.{Adds}
use Rattle.pt_tables_writing.specs.Step.{Writes}
use Rattle.pt_tables_rows.specs.Rows.{stop_rows_from}
use Rattle.pt_tables_rows.specs.Schema.{stops_table}
use Rattle.pt_tables_writing.proofs.grouped.stops.insert_stops.Given as goal

abbrev pub invariant-loop-place : goal.invariant-loop-place
invariant-loop-place g l =
    let plan = l.fn.plan in
    let first = l.fn.first in
    record {
      from : first ≤ l.place;
      step : Writes {X = Unit {0}} g.S.Store l.initial.tx l.tx
          (Adds stops_table
          (stop_rows_from first plan.vehicle plan.day (take (l.place - first) (drop first plan.stops)))) (Ok tt);
    }

abbrev pub decreases-loop-place : goal.decreases-loop-place
decreases-loop-place g l = length l.fn.plan.stops - l.place
