use Rattle.std.specs.Prelude.{is_some, Some}
use Rattle.pt_desk_rules.specs.Planned.{is_booked_from}
use Rattle.pt_desk_rules.specs.State.{State, place_of}
use Rattle.pt_desk_store.proofs.ReadLemmas.{after, reads_pair, reads_map, fault_handed}
use Rattle.pt_desk_store.proofs.gathering.gather_vehicle.Goals as goal

pub returns : goal.returns
returns g c =
    let id = c.args.new.now.id in
    let day = c.args.new.now.from_day in
    record {
      reads =
          rw c.is_some.ensures
          (reads_map _ _ _ _
          (λ found. record { has_depot = is_some found.0; vehicles = found.1.0; is_booked = found.1.1 })
          (reads_pair _ _ _ (λ (s : State). place_of c.args.new.now.depot s)
          (λ (s : State). (s.vehicles, is_booked_from (Some id) day s.trips)) _ _ c.in_ok-place.ensures.reads
          (reads_pair _ _ _ (λ (s : State). s.vehicles) (λ (s : State). is_booked_from (Some id) day s.trips) _ _
          c.in_ok-vehicles.ensures.reads c.in_ok-is_booked_from.ensures.reads)));
    }

pub returns-in_err-is_booked_from : goal.returns-in_err-is_booked_from
returns-in_err-is_booked_from g c = record {
  reads =
      after c.in_ok-place.ensures.reads
      (after c.in_ok-vehicles.ensures.reads
      (fault_handed c.from_residual-in_err-is_booked_from.ensures.1 c.in_err-is_booked_from.ensures.reads));
}

pub returns-in_err-vehicles : goal.returns-in_err-vehicles
returns-in_err-vehicles g c = record {
  reads =
      after c.in_ok-place.ensures.reads
      (fault_handed c.from_residual-in_err-vehicles.ensures.1 c.in_err-vehicles.ensures.reads);
}
