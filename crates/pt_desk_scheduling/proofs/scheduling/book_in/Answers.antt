use Rattle.std.proofs.Common.{ap, ◌∙◌, Ok, inl, inr, refl}
use Rattle.pt_desk_booking.specs.Planning.{on_duty}
use Rattle.pt_desk_booking.specs.Request.{request_of}
use Rattle.pt_desk_scheduling.proofs.ScheduledLemmas.{are_without, booked}
use Rattle.pt_desk_scheduling.proofs.scheduling.book_in.Goals as goal

pub returns-then-not-are_without_trip : goal.returns-then-not-are_without_trip
returns-then-not-are_without_trip g c =
    inr (λ are. absurd (let holds = c.are_without_trip.ensures.1 (are_without c.args.request.now.trip c.args.duties.now are) in cc), refl)

pub returns-in_ok-plan_of-in-Booked : goal.returns-in_ok-plan_of-in-Booked
returns-in_ok-plan_of-in-Booked g c =
    booked (g.T.Times.minutes c.args.times.now) (on_duty c.args.duties.now) (request_of c.args.request.now) c.book.result c.in_ok-booking.field-0 c.in-Booked.booking _
    c.in_ok-booking.was c.in-Booked.is c.book.ensures.allowed c.book.ensures.place c.book.ensures.trip c.book.ensures.route c.in_ok-plan_of-in-Booked.ensures

pub returns-in-Denied : goal.returns-in-Denied
returns-in-Denied g c = inl ((c.book.ensures.denied c.in-Denied.rule).0 (c.in_ok-booking.was ∙ ap Ok c.in-Denied.is))
