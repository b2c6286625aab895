use Rattle.std.specs.Prelude.{length}
use Rattle.pt_desk_rules.specs.Facts.{has_subject}
use Rattle.pt_desk_rules.specs.State.{State, caller_of, caller_with}
use Rattle.pt_desk_store.proofs.ReadLemmas.{after, reads_pair, reads_map, fault_handed}
use Rattle.pt_desk_store.proofs.gathering.gather_caller.Goals as goal

pub returns : goal.returns
returns g c = record {
  reads =
      (reads_map _ _ _ _
      (λ found. record { has_subject = found.0; caller = found.1.0; holder = found.1.1.0; caller_count = found.1.1.1 })
      (reads_pair _ _ _ (λ (s : State). has_subject c.args.new.now.role s.riders s.vehicles)
      (λ (s : State). (
        caller_of c.args.new.now.id s,
        (caller_with c.args.new.now.digest s, length s.callers),
      )) _ _ c.in_ok-has_subject.ensures.reads
      (reads_pair _ _ _ (λ (s : State). caller_of c.args.new.now.id s)
      (λ (s : State). (caller_with c.args.new.now.digest s, length s.callers)) _ _ c.in_ok-caller.ensures.reads
      (reads_pair _ _ _ (λ (s : State). caller_with c.args.new.now.digest s) (λ (s : State). length s.callers) _ _
      c.in_ok-caller_with.ensures.reads c.in_ok-caller_count.ensures.reads))));
}

pub returns-in_err-caller_count : goal.returns-in_err-caller_count
returns-in_err-caller_count g c = record {
  reads =
      after c.in_ok-has_subject.ensures.reads
      (after c.in_ok-caller.ensures.reads
      (after c.in_ok-caller_with.ensures.reads
      (fault_handed c.from_residual-in_err-caller_count.ensures.1 c.in_err-caller_count.ensures.reads)));
}

pub returns-in_err-caller_with : goal.returns-in_err-caller_with
returns-in_err-caller_with g c = record {
  reads =
      after c.in_ok-has_subject.ensures.reads
      (after c.in_ok-caller.ensures.reads
      (fault_handed c.from_residual-in_err-caller_with.ensures.1 c.in_err-caller_with.ensures.reads));
}
