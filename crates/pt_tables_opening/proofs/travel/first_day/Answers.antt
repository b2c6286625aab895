use Rattle.std.proofs.Common.{ℕ, None, sym, subst}
use Rattle.pt_base_values.specs.Day.{IsDay}
use Rattle.pt_tables_reading.specs.Reading.{Reads}
use Rattle.pt_tables_rows.specs.Rows.{travel_row}
use Rattle.pt_tables_opening.proofs.travel.first_day.Goals as goal

pub returns-in_err-at : goal.returns-in_err-at
returns-in_err-at c =
    subst (Reads (λ (day : ℕ). travel_row day (0, 0, 0)) IsDay c.args.row.now) (sym c.from_residual.ensures)
    (λ day fits same. c.in_err-at.ensures (record { from_day = day; drive = None }) (record { from_day = fits; drive = tt }) same)
