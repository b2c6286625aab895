use Rattle.std.proofs.Common.{◌≡◌, ◌++◌, List, [], map, flat_map, take, drop}
use Rattle.pt_base_records.specs.Records.{Each, IsInOrder}
use Rattle.pt_tables_opening.proofs.BesideLemmas.{Goes}
use Rattle.pt_tables_opening.proofs.beside.merge.Given as goal

abbrev pub invariant-loop-known : goal.invariant-loop-known
invariant-loop-known g l = record {
  away : l.found.away ≡ [];
  rows : map g.T.First.OneRow.row_of l.found.puts ≡ map g.T.First.OneRow.row_of (take l.known-index l.records);
  done : flat_map g.T.TableOf.rows_of l.found.puts ++ l.left ≡ l.fn.rows;
  each : Each g.T.TableOf.Fits l.found.puts;
  back : (xs : List _) → Each g.T.TableOf.Fits xs → IsInOrder g.T.Record.Keyed.key xs
      → map g.T.First.OneRow.row_of xs ≡ map g.T.First.OneRow.row_of l.records
      → flat_map g.T.TableOf.rows_of xs ≡ l.fn.rows
      → Goes g.T.Record.Keyed.key g.T.First.OneRow.row_of g.T.TableOf.rows_of g.T.TableOf.Fits (drop l.known-index l.records) l.left;
}
