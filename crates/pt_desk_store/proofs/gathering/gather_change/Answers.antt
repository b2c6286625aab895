use Rattle.std.proofs.Common.{Some, subst, sym, ap, ◌∙◌}
use Rattle.pt_base_values.specs.declared.trip.Trip.{Trip}
use Rattle.pt_desk_requests.specs.declared.request.Write.TheVariants.{Change}
use Rattle.pt_desk_rules.specs.State.{State, trip_of}
use Rattle.pt_desk_rules.specs.declared.facts.WishFacts.{WishFacts}
use Rattle.pt_desk_store.specs.Wished.{facts_of_old, AreWished, IsEnoughFor}
use Rattle.pt_desk_store.proofs.DenialLemmas.{enough_changed, enough_read_old}
use Rattle.pt_desk_store.proofs.SomeLemmas.{some_onto}
use Rattle.pt_desk_store.proofs.gathering.gather_change.Goals as goal

pub returns-in-Ok : goal.returns-in-Ok
returns-in-Ok g c =
    let trip = c.args.trip in
    let wish = c.args.wish.now in
    let me = c.args.me.now in
    let now = c.args.now in
    let old = c.in-Ok.old in
    record {
      reads = some_onto _ _ _ (λ (s : State). facts_of_old (trip_of trip s) s)
          (AreWished old.id (Some old.id) now.0 wish c.in_ok-facts.facts)
          (IsEnoughFor (Change trip wish) me now) _ _ c.in_ok-facts.ensures.reads
          (c.gather_wished.ensures.reads c.in-Ok.ensures.asking)
          (λ s is found are. enough_changed (trip_of trip s) trip old wish s me now found
          (sym (ap (λ (f : WishFacts). f.booking.trip) is) ∙ c.in-Ok.ensures.trip)
          (subst (λ (f : WishFacts). AreWished old.id (Some old.id) now.0 wish f s found) is are));
    }

pub returns-in-Err : goal.returns-in-Err
returns-in-Err g c = record {
  reads = enough_read_old _ _ c.args.trip c.args.wish.now c.args.me.now c.args.now c.in_ok-facts.facts _
      c.in_ok-facts.ensures.reads (c.in-Err.ensures.denied c.args.trip);
}
