use Rattle.std.proofs.Common.{rules, ◌∙◌, ℕ, refl}
use Rattle.pt_feasible.specs.Route.{stops_of}
use Rattle.pt_desk_requests.specs.declared.sheets.TourStop.{TourStop}
use Rattle.pt_desk_rules.specs.Tours.{IsShownAt}
use Rattle.pt_desk_rules.proofs.TourLemmas.{each_pushed, shown_at, within_stop}
use Rattle.pt_desk_reads.proofs.tours.tour_stops.Goals as goal

pub minute_of-requires : goal.minute_of-requires
minute_of-requires c =
    rw c.as_slice.ensures.value
    (within_stop c.args.vehicle.now (stops_of c.args.route.now) c.args.times.now.items c.loop-k.k c.stop-stop.result
    c.requires.windows c.stop-stop.ensures.value)

pub loop-k-preserved : goal.loop-k-preserved
loop-k-preserved c =
    let stops = stops_of c.args.route.now in
    let trips = c.args.trips.now in
    let times = c.args.times.now.items in
    let aboard = (rw c.unwrap-aboard.ensures at c.aboard_after.ensures.after) in
    let Is = λ (k : ℕ) (stop : TourStop). IsShownAt trips stops times k stop in
    record {
      aboard = aboard;
      count = search rules;
      each = rw c.in_ok-push.ensures.items
          (each_pushed Is c.loop-k.shown.items _ c.loop-k.invariant.each
          (rw c.loop-k.invariant.count
          (shown_at trips stops times c.loop-k.k c.stop-stop.result c.trip_at-trip.result.now _
          c.stop-stop.ensures.value c.trip_at-trip.ensures
          (c.minute_of.ensures ∙ (rw c.as_slice.ensures.value refl)) c.window_of.ensures refl refl
          c.place_of.ensures aboard)));
    }
