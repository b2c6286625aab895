-- A borrowed route with a trip put in, as the list of its stops.
use Rattle.std.specs.Prelude.{List}
use Rattle.pt_feasible.specs.declared.stop.Stop.{Stop}
use Rattle.pt_feasible.specs.Route.{stops_of}
use Rattle.pt_insertion_search.specs.declared.spliced.Spliced.{Spliced}
use Rattle.pt_insertion_search.specs.Insertion.{with_trip}

-- the stops in their order, without the depot
abbrev pub spliced_stops : Spliced → List Stop
spliced_stops spliced = with_trip spliced.asked.now spliced.i spliced.j (stops_of spliced.route.now)
