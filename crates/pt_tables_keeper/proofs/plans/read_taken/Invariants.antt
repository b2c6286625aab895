use Rattle.std.proofs.Common.{◌≡◌, drop, map}
use Rattle.sqlite.specs.Held.{state}
use Rattle.sqlite.specs.State.{HasCleanDisk}
use Rattle.pt_desk_rules.specs.State.{State}
use Rattle.pt_base_records.specs.declared.span.Span.{Span}
use Rattle.pt_tables_asking.specs.Asking.{Rests}
use Rattle.pt_tables_keeper.specs.Plans.{plans_at}
use Rattle.pt_tables_rows.specs.Tables.{IsKept, IsWellFormed}
use Rattle.pt_tables_keeper.proofs.plans.read_taken.Given as goal

abbrev pub invariant-loop-span : goal.invariant-loop-span
invariant-loop-span g l = record {
  rests : Rests (state g.S.Store l.initial.conn) (state g.S.Store l.conn);
  plans : HasCleanDisk (state g.S.Store l.conn) → (content : State) → IsWellFormed content → IsKept content (state g.S.Store l.initial.conn)
      → plans_at content.planned (map (λ (span : Span). span.from) (drop l.span-index l.spans)) l.plans.items ≡
      plans_at content.planned (map (λ (span : Span). span.from) l.spans) l.initial.plans.items;
}
