use Rattle.std.proofs.Common.{◌+◌, ◌-◌, ◌<◌, ◌≤◌, Ok}
use Rattle.sqlite.specs.Held.{state}
use Rattle.pt_desk_rules.specs.TableNames.{table_count}
use Rattle.pt_tables_opening.specs.Steps.{OpensTo}
use Rattle.pt_tables_opening.proofs.whole.all_tables.Given as goal

abbrev pub invariant-loop-table : goal.invariant-loop-table
invariant-loop-table g l = record {
  late : 1 < l.number;
  within : l.number ≤ table_count + 1;
  opens : OpensTo (l.number - 1) (state g.S.Store l.fn.conn) (state g.S.Store l.conn) (Ok l.keeper);
}

abbrev pub decreases-loop-table : goal.decreases-loop-table
decreases-loop-table g l = table_count + 1 - l.number
