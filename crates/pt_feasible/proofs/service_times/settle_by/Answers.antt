use Rattle.pt_feasible.proofs.ScheduleLemmas.{least-from-keeps, none-from-keeps}
use Rattle.pt_feasible.proofs.service_times.settle_by.Goals as goal

pub returns-clause-least : goal.returns-clause-least
returns-clause-least g c =
    least-from-keeps (λ schedule. schedule.items) c.least_times.result (g.T.Times.minutes c.args.times.now) c.args.vehicle.now
    (g.S.Stops.stops c.args.stops.now) c.in_ok-timeline.timeline c.in_ok-timeline.ensures.timeline
    c.least_times.ensures.count c.least_times.ensures.rises c.least_times.ensures.kept c.least_times.ensures.least

pub returns-clause-none : goal.returns-clause-none
returns-clause-none g c =
    none-from-keeps c.least_times.result (g.T.Times.minutes c.args.times.now) c.args.vehicle.now
    (g.S.Stops.stops c.args.stops.now) c.in_ok-timeline.timeline c.in_ok-timeline.ensures.timeline c.least_times.ensures.none
