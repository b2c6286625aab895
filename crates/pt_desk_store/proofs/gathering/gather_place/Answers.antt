use Rattle.std.proofs.Common.{length}
use Rattle.std.specs.Prelude.{is_some}
use Rattle.pt_desk_rules.specs.State.{State, place_of}
use Rattle.pt_desk_store.proofs.ReadLemmas.{after, reads_pair, reads_map, fault_handed}
use Rattle.pt_desk_store.proofs.gathering.gather_place.Goals as goal

pub returns : goal.returns
returns g c = record {
  reads =
      rw c.is_some.ensures
      (reads_map _ _ _ _ (λ found. record { has_place = is_some found.0; place_count = found.1 })
      (reads_pair _ _ _ (λ (s : State). place_of c.args.new.now.id s) (λ (s : State). length s.places) _ _
      c.in_ok-place.ensures.reads c.in_ok-place_count.ensures.reads));
}

pub returns-in_err-place_count : goal.returns-in_err-place_count
returns-in_err-place_count g c = record {
  reads =
      after c.in_ok-place.ensures.reads
      (fault_handed c.from_residual-in_err-place_count.ensures.1 c.in_err-place_count.ensures.reads);
}
