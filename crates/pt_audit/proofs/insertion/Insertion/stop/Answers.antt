-- Each case reads the stop of the route with the trip put in at its place.
use Rattle.std.proofs.Common.{◌≡◌, ◌-◌, Some, ap, sym, ◌∙◌, slice_get, arith}
use Rattle.pt_feasible.specs.Route.{stops_of}
use Rattle.pt_insertion_search.specs.Insertion.{with_trip}
use Rattle.pt_insertion_search.proofs.InsertionLemmas.{with_trip_before, with_trip_pickup, with_trip_between, with_trip_drop, with_trip_after, length-with_trip}
use Rattle.pt_audit.proofs.insertion.Insertion.stop.Goals as goal

pub stop-requires-else-k-self-4 : goal.stop-requires-else-k-self-4
stop-requires-else-k-self-4 c =
    let insertion = c.args.self.now in
    omega (arith, length-with_trip insertion.asked.now insertion.i insertion.j (stops_of insertion.route.now) insertion.drop_later insertion.among)

pub returns-then-k-self : goal.returns-then-k-self
returns-then-k-self c =
    let insertion = c.args.self.now in
    with_trip_before insertion.asked.now insertion.i insertion.j (stops_of insertion.route.now) c.args.k
    insertion.drop_later insertion.among c.if-k-self.true
    ∙ c.stop.ensures.value

pub returns-then-k-self-2 : goal.returns-then-k-self-2
returns-then-k-self-2 c =
    let insertion = c.args.self.now in
    let here : c.args.k ≡ insertion.i = omega arith in
    ap (slice_get (with_trip insertion.asked.now insertion.i insertion.j (stops_of insertion.route.now))) here
    ∙ with_trip_pickup insertion.asked.now insertion.i insertion.j (stops_of insertion.route.now)
    insertion.drop_later insertion.among
    ∙ ap Some (sym c.pickup_stop.ensures)

pub returns-then-k-self-3 : goal.returns-then-k-self-3
returns-then-k-self-3 c =
    let insertion = c.args.self.now in
    with_trip_between insertion.asked.now insertion.i insertion.j (stops_of insertion.route.now) c.args.k (c.args.k - 1)
    insertion.drop_later insertion.among (omega arith) (omega arith) (omega arith)
    ∙ c.stop-then-k-self-3.ensures.value

pub returns-then-k-self-4 : goal.returns-then-k-self-4
returns-then-k-self-4 c =
    let insertion = c.args.self.now in
    with_trip_drop insertion.asked.now insertion.i insertion.j (stops_of insertion.route.now) c.args.k
    insertion.drop_later insertion.among (omega arith)
    ∙ ap Some (sym c.drop_stop.ensures)

pub returns-else-k-self-4 : goal.returns-else-k-self-4
returns-else-k-self-4 c =
    let insertion = c.args.self.now in
    with_trip_after insertion.asked.now insertion.i insertion.j (stops_of insertion.route.now) c.args.k (c.args.k - 2)
    insertion.drop_later insertion.among (omega arith) (omega arith)
    ∙ c.stop-else-k-self-4.ensures.value
