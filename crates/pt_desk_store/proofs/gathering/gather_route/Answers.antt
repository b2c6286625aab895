use Rattle.std.proofs.Common.{sym}
use Rattle.std.specs.Prelude.{is_some, length}
use Rattle.pt_desk_rules.specs.State.{State, route_of}
use Rattle.pt_desk_store.proofs.ReadLemmas.{after, reads_pair, reads_map, fault_handed}
use Rattle.pt_desk_store.proofs.gathering.gather_route.Goals as goal

pub returns : goal.returns
returns g c = record {
  reads =
      rw (sym c.id.ensures.value) (reads_map _ _ _ _ (λ found. record { has_route = found.0; route_count = found.1 })
      (reads_pair _ _ _ (λ (s : State). is_some (route_of c.id.result s)) (λ (s : State). length s.routes) _ _
      c.in_ok-has_route.ensures.reads c.in_ok-route_count.ensures.reads));
}

pub returns-in_err-route_count : goal.returns-in_err-route_count
returns-in_err-route_count g c = record {
  reads =
      after c.in_ok-has_route.ensures.reads
      (fault_handed c.from_residual-in_err-route_count.ensures.1 c.in_err-route_count.ensures.reads);
}
