use Rattle.std.proofs.Common.{◌≡◌, ◌++◌, map, drop}
use Rattle.pt_desk_booking.specs.Planning.{on_duty}
use Rattle.pt_desk_scheduling.specs.Routes.{day_route}
use Rattle.pt_desk_scheduling.proofs.routes.duties_of.Given as goal

abbrev pub invariant-loop-day_route : goal.invariant-loop-day_route
invariant-loop-day_route l = on_duty l.duties.items ++ map day_route (drop l.day_route-index l.routes) ≡ map day_route l.routes
