use Rattle.std.proofs.Common.{◌≡◌, ◌++◌, drop}
use Rattle.sqlite.specs.Held.{state}
use Rattle.sqlite.specs.State.{HasCleanDisk}
use Rattle.pt_desk_rules.specs.State.{State}
use Rattle.pt_tables_asking.specs.Asking.{Rests}
use Rattle.pt_tables_rows.specs.Tables.{IsKept, IsWellFormed}
use Rattle.pt_tables_asking.proofs.DayLemmas.{plans_of}
use Rattle.pt_tables_asking.proofs.plans.plans_by_day.Given as goal

abbrev pub invariant-loop-id : goal.invariant-loop-id
invariant-loop-id g l = record {
  rests : Rests (state g.S.Store l.initial.conn) (state g.S.Store l.conn);
  plans : HasCleanDisk (state g.S.Store l.conn) → (content : State) → IsWellFormed content → IsKept content (state g.S.Store l.initial.conn)
      → l.plans.items ++ plans_of l.fn.day content.planned (drop l.id-index l.id-items) ≡ plans_of l.fn.day content.planned l.id-items;
}
