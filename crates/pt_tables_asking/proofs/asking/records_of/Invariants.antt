use Rattle.std.proofs.Common.{◌≡◌, map, take}
use Rattle.pt_base_records.specs.Records.{Each}
use Rattle.pt_tables_asking.proofs.asking.records_of.Given as goal

abbrev pub invariant-loop-row : goal.invariant-loop-row
invariant-loop-row g l = record {
  rows : map g.T.OneRow.row_of l.records.items ≡ take l.row-index l.rows;
  each : Each g.T.TableOf.Fits l.records.items;
}
