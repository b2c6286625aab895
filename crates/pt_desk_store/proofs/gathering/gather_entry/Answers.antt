use Rattle.pt_desk_rules.specs.Facts.{tallies_for}
use Rattle.pt_desk_rules.specs.State.{State, file_of, rider_of}
use Rattle.pt_desk_store.proofs.ReadLemmas.{after, reads_pair, reads_map, fault_handed}
use Rattle.pt_desk_store.proofs.gathering.gather_entry.Goals as goal

pub returns : goal.returns
returns g c =
    let rider = c.args.rider in
    record {
      reads =
          (reads_map _ _ _ _
          (λ found. record { policy = found.1.1; rider = found.1.0.0; file = found.1.0.1; tallies = found.0 })
          (reads_pair _ _ _ (λ (s : State). tallies_for c.args.entry.now rider s)
          (λ (s : State). ((rider_of rider s, file_of rider s), s.policy)) _ _ c.in_ok-tallies.ensures.reads
          (reads_pair _ _ _ (λ (s : State). (rider_of rider s, file_of rider s)) (λ (s : State). s.policy) _ _
          c.in_ok-rider.ensures.reads c.in_ok-policy.ensures.reads)));
    }

pub returns-in_err-policy : goal.returns-in_err-policy
returns-in_err-policy g c = record {
  reads =
      after c.in_ok-tallies.ensures.reads
      (after c.in_ok-rider.ensures.reads
      (fault_handed c.from_residual-in_err-policy.ensures.1 c.in_err-policy.ensures.reads));
}

pub returns-in_err-rider : goal.returns-in_err-rider
returns-in_err-rider g c = record {
  reads =
      after c.in_ok-tallies.ensures.reads
      (fault_handed c.from_residual-in_err-rider.ensures.1 c.in_err-rider.ensures.reads);
}
