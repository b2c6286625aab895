use Rattle.std.proofs.Common.{◌≡◌, drop}
use Rattle.std.specs.Prelude.{find}
use Rattle.pt_desk_rules.specs.Travel.{holds_on}
use Rattle.pt_desk_rules.proofs.travel.table_on.Given as goal

abbrev pub invariant-loop-table : goal.invariant-loop-table
invariant-loop-table l = find (holds_on l.day l.tables) (drop l.table-index l.tables) ≡ find (holds_on l.day l.tables) l.tables
