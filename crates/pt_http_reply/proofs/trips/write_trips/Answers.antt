use Rattle.std.proofs.Common.{◌≡◌, ◌++◌, ap, ◌∙◌}
use Rattle.pt_http_reply.specs.Trips.{trip_object, IsTripText}
use Rattle.pt_http_reply.proofs.TripLemmas.{written_after_comma, written_first}
use Rattle.pt_http_reply.proofs.trips.write_trips.Goals as goal
use Rattle.pt_http_reply.proofs.trips.write_trips.Goals.{then-index-gt0+in_ok-push, else-index-gt0}

pub loop-index-preserved : goal.loop-index-preserved
loop-index-preserved c =
    let trips = c.args.trips.now in
    let trip = c.index-trips-index.result in
    let day = c.in_ok-write.ensures.text in
    let day_is : c.deref.result.now ≡ day.0 = c.deref.ensures.value ∙ day.2 ∙ ap (λ cleared. cleared ++ day.0) c.clear.ensures.items in
    let is : IsTripText trip c.trip_object.result = (day.0, day.1, c.trip_object.ensures ∙ ap (trip_object trip) day_is) in
    let new = c.in_ok-push-2.ensures ∙ ap (λ text. c.if-index-gt0.out.items ++ text) c.as_slice.ensures.value in
    elim c.if-index-gt0.branch [
      | then-index-gt0+in_ok-push w ↦
          written_after_comma _ _ _ _ trips c.loop-index.index trip _ c.loop-index.invariant w.if-index-gt0.true
          c.loop-index-test.true c.index-trips-index.is is (ap (λ out. out.items) w.out-is ∙ w.in_ok-push.ensures)
          new
      | else-index-gt0 w ↦
          written_first _ _ _ _ trips c.loop-index.index trip _ c.loop-index.invariant w.if-index-gt0.false c.loop-index-test.true c.index-trips-index.is is (ap (λ out. out.items) w.out-is) new
    ]
