use Rattle.pt_desk_rules.specs.Facts.{no_read_facts}
use Rattle.pt_desk_store.proofs.ReadLemmas.{reads_map}
use Rattle.pt_desk_store.proofs.gathering.gather_letter.Goals as goal

pub returns : goal.returns
returns g c = record {
  reads = rw c.none.ensures.value (reads_map _ _ _ _ (λ found. record no_read_facts { rider = found.0; file = found.1 }) c.in_ok-rider.ensures.reads);
}
