-- What a vehicle visits on a day: its depot, the stops in their order, and the depot again.
use Rattle.std.specs.Prelude.{List, [], ◌∷◌, ◌++◌, map}
use Rattle.pt_base_values.specs.declared.vehicle.Vehicle.{Vehicle}
use Rattle.pt_feasible.specs.declared.stop.Stop.{Stop}
use Rattle.pt_feasible.specs.declared.visit.Visit.{Visit}

-- the depot, whose window is from opening to closing, and where no service is done
abbrev pub depot_visit : Vehicle → Visit
depot_visit vehicle = record { place = vehicle.depot; lo = vehicle.opens; hi = vehicle.closes; service = 0 }

-- a stop's place, time window and minutes of service
abbrev pub stop_visit : Stop → Visit
stop_visit stop = record { place = stop.place; lo = stop.lo; hi = stop.hi; service = stop.service }

-- depot, stops, depot
abbrev pub visits : Vehicle → List Stop → List Visit
visits vehicle stops = depot_visit vehicle ∷ map stop_visit stops ++ depot_visit vehicle ∷ []
