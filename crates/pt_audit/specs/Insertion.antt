-- A route with a trip put in, as the check reads it.
use Rattle.std.specs.Prelude.{List}
use Rattle.pt_feasible.specs.declared.stop.Stop.{Stop}
use Rattle.pt_feasible.specs.declared.visit.Visit as planned
use Rattle.pt_feasible.specs.Route.{stops_of}
use Rattle.pt_insertion_search.specs.Insertion.{with_trip}
use Rattle.pt_audit.specs.Cases.{Case, case_at}
use Rattle.pt_audit.specs.declared.insertion.Insertion.{Insertion}
use Rattle.pt_audit.specs.declared.insertion.Visit.{Visit}

-- its stops, without the depot
abbrev pub inserted_stops : Insertion → List Stop
inserted_stops insertion = with_trip insertion.asked.now insertion.i insertion.j (stops_of insertion.route.now)

-- a visit as a visit of the planning crates
abbrev pub visit_as : Visit → planned.Visit
visit_as visit = record { place = visit.place; lo = visit.lo; hi = visit.hi; service = visit.service }

-- its case
abbrev pub case_of : Insertion → Case
case_of insertion =
    case_at insertion.asked.now insertion.vehicle.now (stops_of insertion.route.now) insertion.i insertion.j
