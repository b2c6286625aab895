use Rattle.std.proofs.Common.{◌∙◌}
use Rattle.pt_desk_rules.specs.Booking.{rows_of}
use Rattle.pt_desk_rules.specs.Fleet.{in_force}
use Rattle.pt_desk_rules.specs.Sound.{HasTimes}
use Rattle.pt_desk_rules.specs.Travel.{table_on}
use Rattle.pt_feasible.specs.Route.{stops_of}
use Rattle.pt_desk_scheduling.specs.Plan.{stops_among}
use Rattle.pt_tables_soundness.proofs.FitLemmas.{all_alike}
use Rattle.pt_tables_soundness.proofs.fits.can_drive_on.Goals as goal

pub returns : goal.returns
returns c =
    all_alike (HasTimes (rows_of (table_on c.args.day c.args.travel.now))) (stops_of c.in_ok-route.route)
    (stops_among c.args.trips.now.items c.args.planned.now) c.deref.result.now (in_force c.args.day c.args.versions.now)
    c.can_serve_on.result c.in_ok-route.ensures (c.deref.ensures.value ∙ c.in_ok-versions.ensures.value) c.can_serve_on.ensures
