use Rattle.std.proofs.Common.{◌∙◌, ap, refl}
use Rattle.pt_desk_rules.specs.Booking.{rows_of}
use Rattle.pt_desk_rules.specs.Sound.{HasTimes}
use Rattle.pt_desk_rules.specs.Travel.{table_on}
use Rattle.pt_feasible.specs.Route.{stops_of}
use Rattle.pt_tables_soundness.proofs.FitLemmas.{alike}
use Rattle.pt_tables_soundness.proofs.fits.can_serve_on.Goals as goal

pub returns-in-Some : goal.returns-in-Some
returns-in-Some c =
    alike (λ rows version. HasTimes rows (stops_of c.args.route.now) version) c.in-Some.table.now.rows
    (rows_of (table_on c.args.day c.args.travel.now)) c.args.versions.now c.args.versions.now c.can_serve.result
    (ap rows_of c.in-Some.ensures.value) refl c.can_serve.ensures

pub returns-in_ok-table-in-None : goal.returns-in_ok-table-in-None
returns-in_ok-table-in-None c =
    alike (λ rows version. HasTimes rows (stops_of c.args.route.now) version) c.in_ok-table-in-None.table.rows
    (rows_of (table_on c.args.day c.args.travel.now)) c.args.versions.now c.args.versions.now
    c.can_serve-in-None.result (c.in_ok-table-in-None.ensures ∙ ap rows_of c.in-None.ensures.value) refl
    c.can_serve-in-None.ensures
