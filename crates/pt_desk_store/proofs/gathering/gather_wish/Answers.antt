use Rattle.pt_desk_rules.specs.Facts.{day_of}
use Rattle.pt_desk_rules.specs.State.{State}
use Rattle.pt_desk_store.specs.Wished.{asked_facts, with_day}
use Rattle.pt_desk_store.proofs.ReadLemmas.{after, reads_map, reads_pair, fault_handed}
use Rattle.pt_desk_store.proofs.gathering.gather_wish.Goals as goal

pub returns : goal.returns
returns g c = record {
  reads =
      rw c.with_day.ensures (reads_map _ _ _ _ (λ found. with_day found.0 found.1)
      (reads_pair _ _ _ (asked_facts c.args.rider c.args.old.now) (λ (s : State). day_of c.args.wish.now.day s) _ _
      c.in_ok-asked.ensures.reads c.in_ok-day.ensures.reads));
}

pub returns-in_err-day : goal.returns-in_err-day
returns-in_err-day g c = record {
  reads =
      after c.in_ok-asked.ensures.reads
      (fault_handed c.from_residual-in_err-day.ensures.1 c.in_err-day.ensures.reads);
}
