use Rattle.pt_desk_rules.specs.Facts.{day_of, no_read_facts}
use Rattle.pt_desk_rules.specs.State.{State}
use Rattle.pt_desk_store.proofs.ReadLemmas.{after, reads_pair, reads_map, fault_handed}
use Rattle.pt_desk_store.proofs.gathering.gather_tours.Goals as goal

pub returns : goal.returns
returns g c = record {
  reads =
      rw c.none.ensures.value (reads_map _ _ _ _ (λ found. record no_read_facts { vehicles = found.0; day = found.1 })
      (reads_pair _ _ _ (λ (s : State). s.vehicles) (λ (s : State). day_of c.args.day s) _ _ c.in_ok-vehicles.ensures.reads c.in_ok-day.ensures.reads));
}

pub returns-in_err-day : goal.returns-in_err-day
returns-in_err-day g c = record {
  reads =
      after c.in_ok-vehicles.ensures.reads
      (fault_handed c.from_residual-in_err-day.ensures.1 c.in_err-day.ensures.reads);
}
