use Rattle.pt_desk_rules.specs.Facts.{no_facts}
use Rattle.pt_desk_rules.specs.State.{State}
use Rattle.pt_desk_store.proofs.ReadLemmas.{after, reads_pair, reads_map, fault_handed}
use Rattle.pt_desk_store.proofs.gathering.gather_agency.Goals as goal

pub returns : goal.returns
returns g c = record {
  reads =
      rw c.none.ensures.value
      (reads_map _ _ _ _ (λ found. record (no_facts found.1.1) { places = found.0; vehicles = found.1.0 })
      (reads_pair _ _ _ (λ (s : State). s.places) (λ (s : State). (s.vehicles, s.policy)) _ _
      c.in_ok-places.ensures.reads
      (reads_pair _ _ _ (λ (s : State). s.vehicles) (λ (s : State). s.policy) _ _ c.in_ok-vehicles.ensures.reads
      c.in_ok-policy.ensures.reads)));
}

pub returns-in_err-policy : goal.returns-in_err-policy
returns-in_err-policy g c = record {
  reads =
      after c.in_ok-places.ensures.reads
      (after c.in_ok-vehicles.ensures.reads
      (fault_handed c.from_residual-in_err-policy.ensures.1 c.in_err-policy.ensures.reads));
}

pub returns-in_err-vehicles : goal.returns-in_err-vehicles
returns-in_err-vehicles g c = record {
  reads =
      after c.in_ok-places.ensures.reads
      (fault_handed c.from_residual-in_err-vehicles.ensures.1 c.in_err-vehicles.ensures.reads);
}
