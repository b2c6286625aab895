use Rattle.std.proofs.Common.{◌≡◌, ◌++◌, List, [], length, flat_map}
use Rattle.pt_base_records.specs.Records.{Each}
use Rattle.pt_tables_opening.specs.Gathered.{FitsRows}
use Rattle.pt_tables_opening.proofs.GatheredLemmas.{Remain}
use Rattle.pt_tables_opening.proofs.gathered.gathered_of.Given as goal

abbrev pub invariant-loop-left : goal.invariant-loop-left
invariant-loop-left g l =
    let Fits = FitsRows g.T.TableOf.rows_of g.T.TableOf.Fits in
    record {
      away : l.records.away ≡ [];
      done : flat_map g.T.TableOf.rows_of l.records.puts ++ l.left ≡ l.fn.rows;
      each : Each Fits l.records.puts;
      back : (xs : List _) → Each Fits xs → flat_map g.T.TableOf.rows_of xs ≡ l.fn.rows → Remain g.T.TableOf.rows_of Fits l.left;
    }

abbrev pub decreases-loop-left : goal.decreases-loop-left
decreases-loop-left g l = length l.left
