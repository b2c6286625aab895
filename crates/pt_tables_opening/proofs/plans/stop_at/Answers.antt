use Rattle.std.proofs.Common.{sym, subst, pos}
use Rattle.pt_tables_reading.specs.Fitting.{FitsStopAt}
use Rattle.pt_tables_rows.specs.Rows.{stop_row}
use Rattle.pt_tables_reading.specs.Reading.{Reads}
use Rattle.pt_tables_opening.proofs.plans.stop_at.Goals as goal

pub returns-in_err-at : goal.returns-in_err-at
returns-in_err-at c =
    let vehicle = c.args.vehicle in
    let day = c.args.day in
    let place = c.args.place in
    subst (Reads (stop_row vehicle day (pos place)) (λ stop. FitsStopAt (record { vehicle = vehicle; day = day; place = place; stop = stop })) c.args.row.now) (sym c.from_residual.ensures)
    (λ stop fits same. c.in_err-at.ensures (record { vehicle = vehicle; day = day; place = place; stop = stop }) fits same)
