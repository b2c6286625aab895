use Rattle.std.proofs.Common.{None}
use Rattle.pt_desk_rules.specs.Booking.{IsBooking}
use Rattle.pt_desk_rules.specs.Deciding.{booked, IsRuling}
use Rattle.pt_desk_requests.specs.declared.request.Write.TheVariants as write
use Rattle.pt_desk_rules.proofs.BookingLemmas.{if_ok}
use Rattle.pt_desk_rules.proofs.RulingLemmas.{booked_by, denied_by}
use Rattle.pt_desk_rules.proofs.booking.decide_booking.Goals as goal

pub returns-in-Ok : goal.returns-in-Ok
returns-in-Ok c =
    let facts = c.args.facts.now in
    let wish = c.args.wish.now in
    let me = c.args.me.now in
    let now = c.args.now in
    let rider = c.args.rider in
    record {
      ruling = if_ok (IsBooking booked c.in-Ok.number None now.0 wish facts) (IsRuling (write.Book rider wish) me now facts)
          (λ made by. booked_by rider c.in-Ok.number wish me now facts made (c.in-Ok.ensures.allowed now)
          c.in-Ok.ensures.number by)
          c.book.result (c.book.ensures c.in-Ok.ensures.asking);
    }

pub returns-in-Err : goal.returns-in-Err
returns-in-Err c = record {
  ruling = denied_by _ (write.Book c.args.rider c.args.wish.now) c.args.me.now.id c.args.now.0 c.args.facts.now
      c.in-Err.rule (c.in-Err.ensures.denied c.args.now);
}
