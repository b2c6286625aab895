use Rattle.std.proofs.Common.{List, ℕ, sym, subst}
use Rattle.std.specs.List.Sorted.{IsStrictlyIncreasing}
use Rattle.pt_desk_booking.specs.Request.{request_of}
use Rattle.pt_desk_store.proofs.DenialLemmas.{denied_if}
use Rattle.pt_desk_store.proofs.wished.is_denied_to_rider.Goals as goal

pub riders_denial-requires : goal.riders_denial-requires
riders_denial-requires c =
    subst (λ (days : List ℕ). IsStrictlyIncreasing days) (sym c.request-request.ensures.uses)
    c.in_ok-uses.ensures.value.rising

pub returns : goal.returns
returns c = record {
  value = λ asking. denied_if c.args.number c.args.left_out.now c.args.today c.args.wish.now c.args.facts.now
      (request_of c.request-request.result) c.riders_denial.result _
      (c.request-request.ensures.value c.args.left_out.now asking c.in_ok-uses.ensures.value) c.riders_denial.ensures c.is_some.ensures;
}
