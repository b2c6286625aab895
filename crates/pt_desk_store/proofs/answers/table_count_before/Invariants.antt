use Rattle.std.proofs.Common.{◌≡◌, ◌+◌, ◌≤◌, drop, length}
use Rattle.pt_desk_rules.specs.State.{tables_before}
use Rattle.pt_desk_store.proofs.answers.table_count_before.Given as goal

abbrev pub invariant-loop-table : goal.invariant-loop-table
invariant-loop-table l = record {
  few : l.count ≤ l.table-index;
  rest : l.count + length (tables_before l.day (drop l.table-index l.tables)) ≡ length (tables_before l.day l.tables);
}
