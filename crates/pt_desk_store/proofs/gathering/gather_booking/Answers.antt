use Rattle.pt_desk_rules.specs.Facts.{no_day, plan_for, trips_counted_for}
use Rattle.pt_desk_rules.specs.State.{State}
use Rattle.pt_desk_store.proofs.ReadLemmas.{after, reads_pair, reads_map, fault_handed}
use Rattle.pt_desk_store.proofs.gathering.gather_booking.Goals as goal

pub returns : goal.returns
returns g c = record {
  reads =
      rw c.none.ensures.value (reads_map _ _ _ _ (λ found. record { trip = c.args.old.now; plan = found.1.1.0; routes = found.1.1.1; last_trip = found.0; trips = found.1.0; day = no_day })
      (reads_pair _ _ _ (λ (s : State). s.last_trip)
      (λ (s : State). (trips_counted_for c.args.found.now s.trips, (plan_for c.args.old.now s, s.routes))) _ _ c.in_ok-last_trip.ensures.reads
      (reads_pair _ _ _ (λ (s : State). trips_counted_for c.args.found.now s.trips) (λ (s : State). (plan_for c.args.old.now s, s.routes)) _ _ c.in_ok-trips.ensures.reads
      (reads_pair _ _ _ (λ (s : State). plan_for c.args.old.now s) (λ (s : State). s.routes) _ _ c.in_ok-plan.ensures.reads
      c.in_ok-routes.ensures.reads))));
}

pub returns-in_err-plan : goal.returns-in_err-plan
returns-in_err-plan g c = record {
  reads =
      after c.in_ok-last_trip.ensures.reads
      (after c.in_ok-trips.ensures.reads
      (fault_handed c.from_residual-in_err-plan.ensures.1 c.in_err-plan.ensures.reads));
}

pub returns-in_err-routes : goal.returns-in_err-routes
returns-in_err-routes g c = record {
  reads =
      after c.in_ok-last_trip.ensures.reads
      (after c.in_ok-trips.ensures.reads
      (after c.in_ok-plan.ensures.reads
      (fault_handed c.from_residual-in_err-routes.ensures.1 c.in_err-routes.ensures.reads)));
}

pub returns-in_err-trips : goal.returns-in_err-trips
returns-in_err-trips g c = record {
  reads =
      after c.in_ok-last_trip.ensures.reads
      (fault_handed c.from_residual-in_err-trips.ensures.1 c.in_err-trips.ensures.reads);
}
