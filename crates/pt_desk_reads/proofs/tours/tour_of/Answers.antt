use Rattle.std.proofs.Common.{ℕ, Option, subst}
use Rattle.pt_feasible.specs.Route.{stops_of}
use Rattle.pt_feasible.specs.ServiceTimes.{TimesFit}
use Rattle.pt_travel.specs.Times.{time_in}
use Rattle.pt_desk_rules.proofs.TourLemmas.{minutes_one}
use Rattle.pt_desk_reads.proofs.tours.tour_of.Goals as goal

pub returns-in-None : goal.returns-in-None
returns-in-None c = λ has.
    let (minutes, times, feasible) = has.can_drive in
    let (b, fits) = feasible.times in
    c.in-None.ensures.none b (subst (λ (m : ℕ → ℕ → Option ℕ). TimesFit m c.args.vehicle.now (stops_of c.args.route.now)
    b) (minutes_one c.args.table.now.rows minutes (time_in c.times.result.now) times c.times.ensures.least) fits)
