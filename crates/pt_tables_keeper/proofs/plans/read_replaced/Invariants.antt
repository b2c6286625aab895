use Rattle.std.proofs.Common.{◌≡◌, drop, map}
use Rattle.sqlite.specs.Held.{state}
use Rattle.sqlite.specs.State.{HasCleanDisk}
use Rattle.pt_desk_rules.specs.State.{State}
use Rattle.pt_desk_scheduling.specs.Plan.{plan_key}
use Rattle.pt_tables_asking.specs.Asking.{Rests}
use Rattle.pt_tables_keeper.specs.Plans.{plans_at, ArePlansOf}
use Rattle.pt_tables_rows.specs.Tables.{IsKept, IsWellFormed}
use Rattle.pt_tables_keeper.proofs.plans.read_replaced.Given as goal

abbrev pub invariant-loop-new : goal.invariant-loop-new
invariant-loop-new g l = record {
  rests : Rests (state g.S.Store l.initial.conn) (state g.S.Store l.conn);
  plans : HasCleanDisk (state g.S.Store l.conn) → (content : State) → IsWellFormed content → IsKept content (state g.S.Store l.initial.conn)
      → ArePlansOf content.planned l.initial.plans.items
      → (plans_at content.planned (map plan_key (drop l.new-index l.news)) l.plans.items ≡ plans_at content.planned (map plan_key l.news) l.initial.plans.items)
      × ArePlansOf content.planned l.plans.items;
}
