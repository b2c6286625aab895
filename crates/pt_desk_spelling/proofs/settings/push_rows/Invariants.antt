use Rattle.std.proofs.Common.{◌≡◌, ℕ, ◌<◌, ◌++◌, take, get_or}
use Rattle.std.specs.List.{flat_map}
use Rattle.pt_travel.specs.Chain.{Row}
use Rattle.pt_desk_spelling.specs.Ranges.{IsRow}
use Rattle.pt_desk_spelling.specs.Requests.{row_bytes}
use Rattle.pt_desk_spelling.proofs.settings.push_rows.Given as goal

abbrev pub invariant-loop-row : goal.invariant-loop-row
invariant-loop-row l = record {
  text : l.out.items ≡ l.initial.out.items ++ flat_map row_bytes (take l.row-index l.rows);
  ranges : (k : ℕ) → k < l.row-index → (d : Row) → IsRow (get_or l.rows k d);
}
