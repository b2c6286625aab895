use Rattle.std.proofs.Common.{◌≤◌}
use Rattle.pt_desk_spelling.specs.Ranges.{IsRow, IsWord}
use Rattle.pt_desk_spelling.specs.Requests.{row_bytes}
use Rattle.pt_travel.specs.Chain.{Row}
use Rattle.pt_desk_spelling_reading.proofs.ListReading.{TakenSoFar}
use Rattle.pt_desk_spelling_reading.proofs.travel.take_rows.Given as goal

abbrev FitsRow : Row → Type 0
FitsRow row = IsRow row × (row.2 ≤ 1439)

abbrev pub invariant-loop-taken : goal.invariant-loop-taken
invariant-loop-taken l =
    TakenSoFar row_bytes IsWord FitsRow l.fn.left.now l.left.now l.rows.items l.count l._taken
