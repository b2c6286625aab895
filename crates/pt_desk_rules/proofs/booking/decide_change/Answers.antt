use Rattle.std.proofs.Common.{Some}
use Rattle.pt_desk_rules.specs.Booking.{IsBooking}
use Rattle.pt_desk_rules.specs.Deciding.{changed, IsRuling}
use Rattle.pt_desk_requests.specs.declared.request.Write.TheVariants as write
use Rattle.pt_desk_rules.proofs.BookingLemmas.{if_ok}
use Rattle.pt_desk_rules.proofs.RulingLemmas.{changed_by, denied_by}
use Rattle.pt_desk_rules.proofs.booking.decide_change.Goals as goal

pub returns-in-Ok : goal.returns-in-Ok
returns-in-Ok c =
    let facts = c.args.facts.now in
    let wish = c.args.wish.now in
    let me = c.args.me.now in
    let now = c.args.now in
    let old = c.in-Ok.old in
    record {
      ruling = λ trip. if_ok (IsBooking (changed old facts.booking.plan) old.id (Some old.id) now.0 wish facts)
          (IsRuling (write.Change trip wish) me now facts)
          (λ made by. changed_by trip old wish me now facts made (c.in-Ok.ensures.allowed trip)
          c.in-Ok.ensures.trip by)
          c.rebook.result (c.rebook.ensures c.in-Ok.ensures.asking);
    }

pub returns-in-Err : goal.returns-in-Err
returns-in-Err c = record {
  ruling = λ trip. denied_by _ (write.Change trip c.args.wish.now) c.args.me.now.id c.args.now.0 c.args.facts.now
      c.in-Err.rule (c.in-Err.ensures.denied trip);
}
