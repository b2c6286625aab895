use Rattle.std.proofs.Common.{◌≡◌, IsTrue, List}
use Rattle.sqlite.specs.Held.{state}
use Rattle.sqlite.specs.State.{HasCleanDisk}
use Rattle.pt_base_records.specs.Records.{IsInOrder}
use Rattle.pt_tables_asking.specs.Asking.{Rests}
use Rattle.pt_tables_asking.specs.Marks.{HasMarks, marked_in}
use Rattle.pt_tables_asking.proofs.MarkLemmas.{first_changed}
use Rattle.pt_tables_asking.proofs.marks.mark_each.Given as goal

abbrev pub invariant-loop-owner : goal.invariant-loop-owner
invariant-loop-owner g l = record {
  rests : Rests (state g.S.Store l.initial.conn) (state g.S.Store l.conn);
  marked : HasCleanDisk (state g.S.Store l.conn) → (all : List _) → IsInOrder g.M.Record.Keyed.key all
      → (IsTrue (state g.S.Store l.initial.conn).is_open → HasMarks l.text g.M.Record.Keyed.key g.M.TableOf.rows_of (state g.S.Store l.initial.conn).now all)
      → l.owner-items ≡ first_changed (marked_in g.M.Record.Keyed.key g.M.TableOf.rows_of g.M.Marking.marked all) l.owner-index l.initial.owner-items;
}
