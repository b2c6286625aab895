use Rattle.std.proofs.Common.{List, ℕ, ap, ◌∙◌, subst, sym}
use Rattle.std.specs.List.Sorted.{IsStrictlyIncreasing}
use Rattle.pt_desk_booking.specs.Request.{request_of}
use Rattle.pt_desk_rules.specs.Fleet.{on_duty}
use Rattle.pt_desk_rules.proofs.BookingLemmas.{answered_of}
use Rattle.pt_desk_rules.proofs.booking.answer_wish.Goals as goal

pub schedule_on-requires : goal.schedule_on-requires
schedule_on-requires c = record {
  uses = subst (λ (days : List ℕ). IsStrictlyIncreasing days) (sym c.request-request.ensures.uses)
      c.in_ok-uses.ensures.value.rising;
}

pub returns : goal.returns
returns c =
    let wish = c.args.wish.now in
    record {
      value = λ asking. answered_of c.args.trip c.args.left_out.now c.args.today wish c.args.facts.now
          (request_of c.request-request.result) c.deref.result.now c.schedule_on.result
          (c.deref.ensures.value ∙ c.in_ok-vehicles.ensures.value ∙ ap (on_duty wish.day) c.as_slice.ensures.value)
          (c.request-request.ensures.value c.args.left_out.now asking c.in_ok-uses.ensures.value)
          c.schedule_on.ensures;
    }
