use Rattle.pt_desk_scheduling.specs.Plan.{planned_stops}
use Rattle.pt_desk_rules.proofs.TourLemmas.{trips_there}
use Rattle.pt_desk_reads.proofs.tours.tour_on.Goals as goal

pub tour_of-requires : goal.tour_of-requires
tour_of-requires c = record {
  trips = rw (rw c.in-Some.is at c.in_ok-route.ensures.route)
      (trips_there c.args.facts.now.trips (planned_stops c.args.vehicle.now.id c.args.day c.args.facts.now.plans));
}

pub tour_of-requires-2 : goal.tour_of-requires-2
tour_of-requires-2 c = record {
  trips = rw (rw c.in-Some.is at c.in_ok-route.ensures.route)
      (trips_there c.args.facts.now.trips (planned_stops c.args.vehicle.now.id c.args.day c.args.facts.now.plans));
}
