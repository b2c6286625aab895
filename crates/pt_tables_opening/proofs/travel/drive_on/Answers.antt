use Rattle.std.proofs.Common.{Some, sym, subst}
use Rattle.pt_tables_reading.specs.Fitting.{FitsDriveAt}
use Rattle.pt_tables_reading.specs.Reading.{Reads}
use Rattle.pt_tables_rows.specs.Rows.{travel_row}
use Rattle.pt_tables_opening.proofs.travel.drive_on.Goals as goal

pub returns-in_err-at : goal.returns-in_err-at
returns-in_err-at c =
    let day = c.args.from_day in
    subst (Reads (travel_row day) (λ drive. FitsDriveAt (record { from_day = day; drive = Some drive })) c.args.row.now) (sym c.from_residual.ensures)
    (λ drive fits same. c.in_err-at.ensures (record { from_day = day; drive = Some drive }) fits same)
