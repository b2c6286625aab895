use Rattle.pt_desk_rules.specs.Facts.{no_day}
use Rattle.pt_desk_rules.specs.State.{State}
use Rattle.pt_desk_rules.specs.Travel.{table_on}
use Rattle.pt_desk_store.specs.Wished.{with_day}
use Rattle.pt_desk_store.proofs.ReadLemmas.{reads_map}
use Rattle.pt_desk_store.proofs.wished.gather_travel_for.Goals as goal

pub returns : goal.returns
returns g c = record {
  reads =
      rw (c.with_day.ensures, c.none.ensures.value) (reads_map _ _ _ _ (λ found. with_day c.args.facts (record no_day { travel = found }))
      c.in_ok-travel.ensures.reads);
}
