use Rattle.std.proofs.Common.{List}
use Rattle.pt_base_values.specs.declared.trip.Trip.{Trip}
use Rattle.pt_desk_rules.specs.Planned.{trips_on}
use Rattle.pt_desk_rules.specs.State.{State}
use Rattle.pt_desk_store.specs.Wished.{plans_if, plans_of, vehicles_for, with_day}
use Rattle.pt_desk_store.proofs.ReadLemmas.{after, fault_handed, reads_by, reads_map}
use Rattle.pt_desk_store.proofs.wished.gather_plans_for.Goals as goal

pub returns : goal.returns
returns g c =
    let facts = c.args.facts in
    let wish = c.args.wish.now in
    record {
      reads =
          (reads_map _ _ _ _ (λ found. with_day facts (record facts.booking.day { trips = found.0; plans = found.1 }))
          (reads_by _ _ _ (λ (s : State). trips_on wish.day s.trips)
          (λ (trips : List Trip) (s : State). plans_if trips (plans_of wish.day (vehicles_for wish facts.vehicles) s.planned)) _ _
          c.in_ok-trips.ensures.reads
          (rw (c.as_slice.ensures.value, c.as_slice-vehicles.ensures.value) at c.in_ok-plans.ensures.reads)));
    }

pub returns-in_err-plans : goal.returns-in_err-plans
returns-in_err-plans g c = record {
  reads =
      after c.in_ok-trips.ensures.reads
      (fault_handed c.from_residual-in_err-plans.ensures.1 c.in_err-plans.ensures.reads);
}
