use Rattle.std.proofs.Common.{None, refl}
use Rattle.pt_desk_rules.specs.Deciding.{booked}
use Rattle.pt_desk_rules.proofs.BookingLemmas.{denied, confirmed, booked_made}
use Rattle.pt_desk_rules.proofs.booking.book.Goals as goal

pub returns-in-Denied : goal.returns-in-Denied
returns-in-Denied c = λ asking.
    denied booked c.args.number c.args.number None c.args.today c.args.wish.now c.args.facts.now c.in_ok-rule.field-0
    c.in-Denied.rule refl c.in-Denied.is (c.in_ok-rule.ensures.value asking)

pub returns-in_ok-trips-in-Booked : goal.returns-in_ok-trips-in-Booked
returns-in_ok-trips-in-Booked c = λ asking.
    confirmed booked c.args.number c.args.number None c.args.today c.args.wish.now c.args.facts.now
    c.in_ok-rule.field-0 c.in-Booked.trip c.in-Booked.plan _ c.confirm.result refl c.in-Booked.is
    (c.in_ok-rule.ensures.value asking) c.confirm.ensures
    (booked_made c.none.result c.in_ok-trips-in-Booked.trips c.in_ok-planned-in-Booked.planned c.in-Booked.trip
    c.in-Booked.plan c.none.ensures.value c.in_ok-trips-in-Booked.ensures c.in_ok-planned-in-Booked.ensures)
