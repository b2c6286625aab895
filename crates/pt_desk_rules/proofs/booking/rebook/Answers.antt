use Rattle.std.proofs.Common.{Some, refl}
use Rattle.pt_desk_rules.specs.Deciding.{changed}
use Rattle.pt_desk_rules.proofs.BookingLemmas.{denied, confirmed, changed_made}
use Rattle.pt_desk_rules.proofs.booking.rebook.Goals as goal

pub returns-in-Denied : goal.returns-in-Denied
returns-in-Denied c = λ asking.
    let facts = c.args.facts.now in
    let old = c.args.old.now in
    denied (changed old facts.booking.plan) old.id old.id (Some old.id) c.args.today c.args.wish.now facts
    c.in_ok-rule.field-0 c.in-Denied.rule refl c.in-Denied.is (c.in_ok-rule.ensures.value asking)

pub returns-in_ok-trips-in-Booked : goal.returns-in_ok-trips-in-Booked
returns-in_ok-trips-in-Booked c = λ asking.
    let facts = c.args.facts.now in
    let old = c.args.old.now in
    confirmed (changed old facts.booking.plan) old.id old.id (Some old.id) c.args.today c.args.wish.now facts
    c.in_ok-rule.field-0 c.in-Booked.trip c.in-Booked.plan _ c.confirm.result refl c.in-Booked.is
    (c.in_ok-rule.ensures.value asking) c.confirm.ensures
    (changed_made c.none.result c.in_ok-trips-in-Booked.trips c.in_ok-planned-in-Booked.planned old
    facts.booking.plan c.in-Booked.trip c.in-Booked.plan c.none.ensures.value c.in_ok-trips-in-Booked.ensures
    c.in_ok-planned-in-Booked.ensures.value)
