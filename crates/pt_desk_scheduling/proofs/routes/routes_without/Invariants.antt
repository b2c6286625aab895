use Rattle.std.proofs.Common.{◌≡◌, ◌++◌, map, drop}
use Rattle.pt_desk_scheduling.specs.Routes.{day_route, routes_without}
use Rattle.pt_desk_scheduling.proofs.routes.routes_without.Given as goal

abbrev pub invariant-loop-vehicle : goal.invariant-loop-vehicle
invariant-loop-vehicle l = map day_route l.routes.items ++ routes_without l.trip l.day l.plans.trips.now l.plans.plans.now (drop l.vehicle-index l.plans.vehicles.now)
    ≡ routes_without l.trip l.day l.plans.trips.now l.plans.plans.now l.plans.vehicles.now
