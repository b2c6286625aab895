use Rattle.pt_desk_rules.specs.Planned.{planned_on, trips_on}
use Rattle.pt_desk_rules.specs.State.{State}
use Rattle.pt_desk_rules.specs.Travel.{table_on}
use Rattle.pt_desk_store.proofs.ReadLemmas.{after, reads_pair, reads_map, fault_handed}
use Rattle.pt_desk_store.proofs.gathering.gather_day.Goals as goal

pub returns : goal.returns
returns g c = record {
  reads =
      (reads_map _ _ _ _ (λ found. record { travel = found.0; trips = found.1.0; plans = found.1.1 })
      (reads_pair _ _ _ (λ (s : State). table_on c.args.day s.travel) (λ (s : State). (trips_on c.args.day s.trips, planned_on c.args.day s.planned)) _ _ c.in_ok-travel.ensures.reads
      (reads_pair _ _ _ (λ (s : State). trips_on c.args.day s.trips) (λ (s : State). planned_on c.args.day s.planned) _ _ c.in_ok-trips.ensures.reads
      c.in_ok-plans.ensures.reads)));
}

pub returns-in_err-plans : goal.returns-in_err-plans
returns-in_err-plans g c = record {
  reads =
      after c.in_ok-travel.ensures.reads
      (after c.in_ok-trips.ensures.reads
      (fault_handed c.from_residual-in_err-plans.ensures.1 c.in_err-plans.ensures.reads));
}

pub returns-in_err-trips : goal.returns-in_err-trips
returns-in_err-trips g c = record {
  reads =
      after c.in_ok-travel.ensures.reads
      (fault_handed c.from_residual-in_err-trips.ensures.1 c.in_err-trips.ensures.reads);
}
