use Rattle.std.specs.Prelude.{Option}
use Rattle.pt_base_values.specs.declared.trip.Trip.{Trip}
use Rattle.pt_desk_rules.specs.Facts.{plan_for, rider_for}
use Rattle.pt_desk_rules.specs.State.{State, trip_of}
use Rattle.pt_desk_store.proofs.ReadLemmas.{after, reads_by, reads_map, reads_pair, fault_handed}
use Rattle.pt_desk_store.proofs.gathering.gather_cancel.Goals as goal

pub returns : goal.returns
returns g c =
    let found = c.in_ok-found.found in
    record {
      reads =
          (reads_map _ _ _ _ (λ read. record { trip = read.0; rider = read.1.0; plan = read.1.1 })
          (reads_by _ _ _ (λ (s : State). trip_of c.args.trip s)
          (λ (trip : Option Trip) (s : State). (rider_for trip s, plan_for trip s)) _ _ c.in_ok-found.ensures.reads
          (reads_pair _ _ _ (λ (s : State). rider_for found s) (λ (s : State). plan_for found s) _ _
          c.in_ok-rider.ensures.reads c.in_ok-plan.ensures.reads)));
    }

pub returns-in_err-plan : goal.returns-in_err-plan
returns-in_err-plan g c = record {
  reads =
      after c.in_ok-found.ensures.reads
      (after c.in_ok-rider.ensures.reads
      (fault_handed c.from_residual-in_err-plan.ensures.1 c.in_err-plan.ensures.reads));
}

pub returns-in_err-rider : goal.returns-in_err-rider
returns-in_err-rider g c = record {
  reads =
      after c.in_ok-found.ensures.reads
      (fault_handed c.from_residual-in_err-rider.ensures.1 c.in_err-rider.ensures.reads);
}
