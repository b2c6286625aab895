-- The rules before hold where none of them fails; the last one is what `best` says.
use Rattle.std.proofs.Common.{refl, ap, ◌∙◌}
use Rattle.pt_insertion_search.specs.declared.asked.Asked.{Asked}
use Rattle.pt_desk_booking.specs.Planning.{booking_rules, on_duty}
use Rattle.pt_desk_booking.specs.Request.{request_of}
use Rattle.pt_desk_booking.proofs.PlacedLemmas.{chosen-for, best-place, all-hold, no-vehicle, denied-only, not-denied, refused-not-denied, allowed-if-refused, not-allowed}
use Rattle.pt_desk_booking.proofs.booking.book.Goals as goal

pub best-requires-clause-new_trip : goal.best-requires-clause-new_trip
best-requires-clause-new_trip g c =
    λ k d within n stop here same. c.requires.new_trip k d within n stop here (same ∙ ap (λ (a : Asked). a.trip) c.asked_for.ensures)

pub placed_at-requires-clause-place : goal.placed_at-requires-clause-place
placed_at-requires-clause-place g c =
    chosen-for (g.T.Times.minutes c.args.times.now) c.args.duties.now (request_of c.args.request.now) _ c.asked_for.ensures
    c.in-Some-best.chosen c.in-Some-best.ensures.possible

pub returns-in_err-trip-in-Some-best-clause-denied : goal.returns-in_err-trip-in-Some-best-clause-denied
returns-in_err-trip-in-Some-best-clause-denied g c =
    λ rule. refused-not-denied (booking_rules (g.T.Times.minutes c.args.times.now) (on_duty c.args.duties.now) (request_of c.args.request.now)) c.from_residual.result rule
    (all-hold (g.T.Times.minutes c.args.times.now) c.args.duties.now (request_of c.args.request.now) _ c.asked_for.ensures
    c.in-Some-best.chosen _ c.riders_denial.ensures c.in_default.is c.in-Some-best.ensures.possible) c.from_residual.ensures.0

pub returns-in_err-trip-in-Some-best-clause-allowed : goal.returns-in_err-trip-in-Some-best-clause-allowed
returns-in_err-trip-in-Some-best-clause-allowed g c =
    allowed-if-refused _ c.from_residual.result c.from_residual.ensures.0
    (all-hold (g.T.Times.minutes c.args.times.now) c.args.duties.now (request_of c.args.request.now) _ c.asked_for.ensures
    c.in-Some-best.chosen _ c.riders_denial.ensures c.in_default.is c.in-Some-best.ensures.possible)

pub returns-in_ok-trip-in-Some-best-clause-denied : goal.returns-in_ok-trip-in-Some-best-clause-denied
returns-in_ok-trip-in-Some-best-clause-denied g c =
    λ rule. not-denied (booking_rules (g.T.Times.minutes c.args.times.now) (on_duty c.args.duties.now) (request_of c.args.request.now)) _ rule
    (all-hold (g.T.Times.minutes c.args.times.now) c.args.duties.now (request_of c.args.request.now) _ c.asked_for.ensures
    c.in-Some-best.chosen _ c.riders_denial.ensures c.in_default.is c.in-Some-best.ensures.possible) (λ same. cc same)

pub returns-in_ok-trip-in-Some-best-clause-allowed : goal.returns-in_ok-trip-in-Some-best-clause-allowed
returns-in_ok-trip-in-Some-best-clause-allowed g c = (
  λ _. all-hold (g.T.Times.minutes c.args.times.now) c.args.duties.now (request_of c.args.request.now) _ c.asked_for.ensures
      c.in-Some-best.chosen _ c.riders_denial.ensures c.in_default.is c.in-Some-best.ensures.possible,
  λ _. tt,
)

pub returns-in_ok-trip-in-Some-best-clause-place : goal.returns-in_ok-trip-in-Some-best-clause-place
returns-in_ok-trip-in-Some-best-clause-place g c =
    best-place (g.T.Times.minutes c.args.times.now) c.args.duties.now (request_of c.args.request.now) _ c.asked_for.ensures
    c.in-Some-best.chosen c.in-Some-best.ensures.possible c.in-Some-best.ensures.least

pub returns-in-None-clause-denied : goal.returns-in-None-clause-denied
returns-in-None-clause-denied g c =
    λ rule. denied-only (booking_rules (g.T.Times.minutes c.args.times.now) (on_duty c.args.duties.now) (request_of c.args.request.now)) _ rule
    (no-vehicle (g.T.Times.minutes c.args.times.now) c.args.duties.now (request_of c.args.request.now) _ c.asked_for.ensures
    _ c.riders_denial.ensures c.in_default.is c.in-None.ensures.none) _ refl

pub returns-in-None-clause-allowed : goal.returns-in-None-clause-allowed
returns-in-None-clause-allowed g c =
    not-allowed (booking_rules (g.T.Times.minutes c.args.times.now) (on_duty c.args.duties.now) (request_of c.args.request.now)) _
    (no-vehicle (g.T.Times.minutes c.args.times.now) c.args.duties.now (request_of c.args.request.now) _ c.asked_for.ensures
    _ c.riders_denial.ensures c.in_default.is c.in-None.ensures.none)
