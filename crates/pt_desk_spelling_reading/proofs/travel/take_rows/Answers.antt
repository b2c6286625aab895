use Rattle.std.proofs.Common.{◌≤◌}
use Rattle.pt_desk_spelling.specs.Ranges.{IsRow, IsWord}
use Rattle.pt_desk_spelling.specs.Requests.{row_bytes}
use Rattle.pt_travel.specs.Chain.{Row}
use Rattle.pt_desk_spelling_reading.proofs.ListReading.{taken-more, taken-short}
use Rattle.pt_desk_spelling_reading.proofs.travel.take_rows.Goals as goal

abbrev FitsRow : Row → Type 0
FitsRow row = IsRow row × (row.2 ≤ 1439)

pub returns-in_default-take_row : goal.returns-in_default-take_row
returns-in_default-take_row c = λ xs later fits e.
    absurd (taken-short row_bytes IsWord FitsRow c.args.left.now.now c.loop-taken.left.now _ c.loop-taken.rows.items
    c.in-Some.count c.loop-taken._taken c.take_row.result (0, 0, 0) c.loop-taken-test.true
    c.loop-taken.invariant c.take_row.ensures c.in_default-take_row.is xs later fits e)

pub loop-taken-preserved : goal.loop-taken-preserved
loop-taken-preserved c =
    taken-more row_bytes IsWord FitsRow c.args.left.now.now c.loop-taken.left.now _ c.loop-taken.rows.items _
    c.in-Some.count c.loop-taken._taken c.take_row.result c.in-Some-take_row.row c.loop-taken-test.true
    c.loop-taken.invariant c.take_row.ensures c.in-Some-take_row.is c.in_ok-push.ensures.items
