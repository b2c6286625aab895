use Rattle.std.proofs.Common.{None, subst, ap, ◌∙◌}
use Rattle.pt_desk_requests.specs.declared.request.Write.TheVariants.{Book}
use Rattle.pt_desk_rules.specs.Explaining.{next_trip}
use Rattle.pt_desk_rules.specs.declared.facts.WishFacts.{WishFacts}
use Rattle.pt_desk_store.specs.Wished.{asked_facts, AreWished, IsEnoughFor}
use Rattle.pt_desk_store.proofs.DenialLemmas.{enough_read, enough_wished}
use Rattle.pt_desk_store.proofs.SomeLemmas.{some_onto}
use Rattle.pt_desk_store.proofs.gathering.gather_new_trip.Goals as goal

pub returns-in-Ok : goal.returns-in-Ok
returns-in-Ok g c =
    let rider = c.args.rider in
    let wish = c.args.wish.now in
    let me = c.args.me.now in
    let now = c.args.now in
    let number = c.in-Ok.number in
    record {
      reads = some_onto _ _ _ (asked_facts rider None) (AreWished number None now.0 wish c.in_ok-facts.facts)
          (IsEnoughFor (Book rider wish) me now) _ _ c.in_ok-facts.ensures.reads
          (c.gather_wished.ensures.reads c.in-Ok.ensures.asking)
          (λ s is found are. enough_wished rider number wish s me now found (c.in-Ok.ensures.number ∙ ap next_trip is)
          (subst (λ (f : WishFacts). AreWished number None now.0 wish f s found) is are));
    }

pub returns-in-Err : goal.returns-in-Err
returns-in-Err g c = record {
  reads = enough_read _ _ c.args.rider c.args.wish.now c.args.me.now c.args.now c.in_ok-facts.facts _
      c.in_ok-facts.ensures.reads (c.in-Err.ensures.denied c.args.now);
}
