use Rattle.std.proofs.Common.{subst, All}
use Rattle.pt_tables_reading.specs.Fitting.{FitsPoint}
use Rattle.pt_tables_reading.proofs.PointReading.{route-made}
use Rattle.pt_tables_reading.proofs.routes.route_along.Goals as goal

pub returns-in-Err : goal.returns-in-Err
returns-in-Err c = λ x fits same.
    let fit = subst (All FitsPoint) c.deref.ensures.value c.are_points.ensures in
    let made = route-made x c.args.row.now c.in_ok-id.id c.in_ok-width.width c.args.points.items
    c.in_ok-accessible.accessible c.in_ok-days.days c.in_ok-first.first c.in_ok-last.last fits.fixed fit same
    c.in_ok-width.ensures.0 c.requires c.in_ok-first.ensures.0 c.in_ok-last.ensures.0 in
    let no = c.in-Err.ensures.accepted.1 made in
    cc
