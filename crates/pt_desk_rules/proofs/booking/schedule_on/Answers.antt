use Rattle.std.proofs.Common.{List, ap, subst}
use Rattle.pt_desk_rules.specs.Travel.{TravelTable}
use Rattle.pt_travel.specs.Chain.{Row}
use Rattle.pt_travel.specs.Times.{time_in}
use Rattle.pt_desk_booking.specs.Request.{request_of}
use Rattle.pt_desk_scheduling.specs.Routes.{routes_without}
use Rattle.pt_desk_rules.specs.Booking.{AreTimes, rows_of}
use Rattle.pt_desk_rules.proofs.BookingLemmas.{scheduled_by}
use Rattle.pt_desk_rules.proofs.booking.schedule_on.Goals as goal

pub returns-in-Some : goal.returns-in-Some
returns-in-Some c =
    let day = c.args.day.now in
    let vehicles = routes_without c.args.request.now.trip c.args.request.now.wish.day day.trips day.plans c.args.vehicles.now in
    scheduled_by (time_in c.times.result.now) (rows_of day.travel) vehicles (request_of c.args.request.now) c.schedule.result
    (rw c.in-Some.is c.times.ensures.least) c.schedule.ensures.scheduled

pub returns : goal.returns
returns c =
    let day = c.args.day.now in
    let vehicles = routes_without c.args.request.now.trip c.args.request.now.wish.day day.trips day.plans c.args.vehicles.now in
    scheduled_by (time_in c.times-2.result.now) (rows_of day.travel) vehicles (request_of c.args.request.now) c.schedule-2.result
    (rw c.in_default.is (subst (λ (rows : List Row). AreTimes rows (time_in c.times-2.result.now))
    (ap (λ (table : TravelTable). table.rows) c.in_ok-table.ensures.value) c.times-2.ensures.least))
    c.schedule-2.ensures.scheduled
