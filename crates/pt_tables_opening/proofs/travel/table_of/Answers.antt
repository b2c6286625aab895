use Rattle.std.proofs.Common.{◌≡◌, ◌-◌, length, map, take, drop, sym, subst, ◌∙◌}
use Rattle.std.proofs.lemmas.List.{take_rest}
use Rattle.pt_base_records.specs.Records.{Each}
use Rattle.pt_travel.specs.Table.{IsTable}
use Rattle.pt_desk_rules.specs.Ranges.{FitsDrive}
use Rattle.pt_tables_rows.specs.Rows.{travel_row}
use Rattle.pt_tables_opening.proofs.PlanReading.{NoDrives, same-drives, where-some}
use Rattle.pt_tables_opening.proofs.travel.table_of.Goals as goal

pub returns-in-None : goal.returns-in-None
returns-in-None c =
    let rows = c.args.rows.now in
    let from_day = c.in-Some-first_day.from_day in
    let drives = c.in-Some-2.drives.items in
    let later = take (length rows - 1) (drop 1 rows) in
    let told = where-some c.in_ok-drives.field-0 (NoDrives from_day later)
    (λ found. (map (travel_row from_day) found.items ≡ later) × Each FitsDrive found.items) c.in_ok-drives.ensures.told c.in-Some-2.drives c.in-Some-2.is in
    record {
      told = λ dated fits same.
          let whole : IsTable drives = subst IsTable (sym (same-drives dated rows from_day drives same (told.0 ∙ take_rest rows 1))) fits.table in
          absurd (cc (c.in-None.ensures.table.1 whole));
    }
