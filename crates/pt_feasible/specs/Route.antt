-- A route as the list of its stops.
use Rattle.std.specs.Prelude.{List}
use Rattle.pt_feasible.specs.declared.route.Route.{Route}
use Rattle.pt_feasible.specs.declared.stop.Stop.{Stop}

-- the stops in their order, without the depot
abbrev pub stops_of : Route → List Stop
stops_of route = route.stops.items
