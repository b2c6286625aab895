use Rattle.std.proofs.Common.{◌≤◌, ◌∙◌, List, length, Some, sym, ap, subst, arith}
use Rattle.std.specs.List.{All}
use Rattle.pt_rights_conditions.proofs.ResultLemmas.{some-from_only}
use Rattle.pt_desk_spelling.proofs.TableLemmas.{length-table}
use Rattle.pt_desk_spelling.specs.Fields.{list_bytes}
use Rattle.pt_desk_spelling.specs.Ranges.{IsRow, IsWord}
use Rattle.pt_desk_spelling.specs.Requests.{row_bytes}
use Rattle.pt_travel.specs.Chain.{Row}
use Rattle.pt_travel.specs.Table.{IsTable}
use Rattle.pt_desk_spelling_reading.proofs.ReadingLemmas.{mapped-none, mapped-some, taken-whole}
use Rattle.pt_desk_spelling_reading.proofs.travel.table_from.Goals as goal

abbrev FitRows : List Row → Type 0
FitRows rows = IsWord (length rows) × All (λ row. IsRow row × (row.2 ≤ 1439)) rows

fit-rows : (rows : List Row) → IsTable rows × All IsRow rows → FitRows rows
fit-rows rows fits =
    let few = length-table rows fits.0 in (
      omega arith,
      λ k d below. (fits.1 k d below, fits.0.within_a_day k d below),
    )

pub returns-in-Some : goal.returns-in-Some
returns-in-Some c = λ rows fits e.
    let taken = taken-whole (list_bytes row_bytes) FitRows _ _ _ c.in_ok-rows.ensures rows (fit-rows rows fits) e in
    let made = mapped-some _ c.in_ok-rows.field-0 c.in-Some.rows rows c.in-Some.is taken in
    some-from_only c.of.result _ (c.of.ensures.table.1 (subst IsTable (sym made) fits.0)) c.of.ensures.value
    ∙ ap (λ (r : List Row). Some r) made

pub returns-in-None : goal.returns-in-None
returns-in-None c = λ rows fits e.
    let taken = taken-whole (list_bytes row_bytes) FitRows _ _ _ c.in_ok-rows.ensures rows (fit-rows rows fits) e in
    absurd (mapped-none _ c.in_ok-rows.field-0 rows c.in-None.is taken)
