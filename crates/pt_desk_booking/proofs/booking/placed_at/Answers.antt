-- The chosen vehicle is found by its number, and the schedule of the choice fits its new route.
use Rattle.std.proofs.Common.{ap, subst, ◌∙◌, arith}
use Rattle.pt_feasible.specs.Route.{stops_of}
use Rattle.pt_insertion_search.specs.Insertion.{with_trip}
use Rattle.pt_insertion_search.specs.declared.asked.Asked.{Asked}
use Rattle.pt_desk_booking.specs.Booking.{IsTripIn}
use Rattle.pt_desk_booking.specs.Planning.{asked_for}
use Rattle.pt_desk_booking.specs.Request.{request_of}
use Rattle.pt_base_values.specs.declared.window.Window.{Window}
use Rattle.pt_desk_booking.proofs.PlacedLemmas.{chosen-found, chosen-in, planned, new-route}
use Rattle.pt_desk_booking.proofs.booking.placed_at.Goals as goal

pub unwrap-duty-requires : goal.unwrap-duty-requires
unwrap-duty-requires g c =
    let minutes = g.T.Times.minutes c.args.times.now in
    chosen-found minutes c.args.duties.now (asked_for minutes (request_of c.args.request.now))
    c.args.chosen.now c.duty_of.result c.requires.place c.duty_of.ensures.none

pub promised_at-promised-requires : goal.promised_at-promised-requires
promised_at-promised-requires g c =
    let minutes = g.T.Times.minutes c.args.times.now in
    let asked = asked_for minutes (request_of c.args.request.now) in
    let duty = c.unwrap-duty.result in
    let found = rw c.unwrap-duty.ensures at c.duty_of.ensures.found in
    let choice = chosen-in minutes c.args.duties.now asked c.args.chosen.now duty c.requires.rising c.requires.place found.0 found.1 in
    let times = planned minutes duty.vehicle.now (stops_of duty.route.now) asked c.args.chosen.now choice in
    record { there = times.there; within_a_day = omega (arith, times.to) }

pub inserted-requires-clause-among : goal.inserted-requires-clause-among
inserted-requires-clause-among g c =
    let minutes = g.T.Times.minutes c.args.times.now in
    let found = rw c.unwrap-duty.ensures at c.duty_of.ensures.found in
    (chosen-in minutes c.args.duties.now (asked_for minutes (request_of c.args.request.now)) c.args.chosen.now c.unwrap-duty.result
    c.requires.rising c.requires.place found.0 found.1).possible.among

pub inserted-requires-clause-room : goal.inserted-requires-clause-room
inserted-requires-clause-room g c =
    let minutes = g.T.Times.minutes c.args.times.now in
    let found = rw c.unwrap-duty.ensures at c.duty_of.ensures.found in
    (chosen-in minutes c.args.duties.now (asked_for minutes (request_of c.args.request.now)) c.args.chosen.now c.unwrap-duty.result
    c.requires.rising c.requires.place found.0 found.1).possible.room

pub returns-clause-trip : goal.returns-clause-trip
returns-clause-trip g c =
    subst (λ (w : Window). IsTripIn (g.T.Times.minutes c.args.times.now) (request_of c.args.request.now) c.args.chosen.now.vehicle w c.trip_at-trip.result)
    c.promised_at-promised.ensures c.trip_at-trip.ensures

pub returns-clause-route : goal.returns-clause-route
returns-clause-route g c =
    let minutes = g.T.Times.minutes c.args.times.now in
    let request = request_of c.args.request.now in
    let chosen = c.args.chosen.now in
    let duty = c.unwrap-duty.result in
    let found = rw c.unwrap-duty.ensures at c.duty_of.ensures.found in
    let choice = chosen-in minutes c.args.duties.now (asked_for minutes request) chosen duty c.requires.rising c.requires.place found.0 found.1 in
    let kept = subst (λ (w : Window). IsTripIn minutes request chosen.vehicle w c.trip_at-trip.result) c.promised_at-promised.ensures c.trip_at-trip.ensures in
    new-route minutes c.args.duties.now duty request chosen c.trip_at-trip.result (stops_of c.in-Ok.route) found.0 found.1 choice kept
    (c.in-Ok.ensures.value ∙ ap (λ (a : Asked). with_trip a chosen.i chosen.j (stops_of duty.route.now)) c.asked_of.ensures)
