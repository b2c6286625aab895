use Rattle.std.specs.Prelude.{length}
use Rattle.pt_desk_rules.specs.State.{State, rider_of}
use Rattle.pt_desk_store.proofs.ReadLemmas.{after, reads_pair, reads_map, fault_handed}
use Rattle.pt_desk_store.proofs.gathering.gather_rider.Goals as goal

pub returns : goal.returns
returns g c = record {
  reads =
      (reads_map _ _ _ _ (λ found. record { rider = found.0; rider_count = found.1 })
      (reads_pair _ _ _ (λ (s : State). rider_of c.args.new.now.id s) (λ (s : State). length s.riders) _ _
      c.in_ok-rider.ensures.reads c.in_ok-rider_count.ensures.reads));
}

pub returns-in_err-rider_count : goal.returns-in_err-rider_count
returns-in_err-rider_count g c = record {
  reads =
      after c.in_ok-rider.ensures.reads
      (fault_handed c.from_residual-in_err-rider_count.ensures.1 c.in_err-rider_count.ensures.reads);
}
