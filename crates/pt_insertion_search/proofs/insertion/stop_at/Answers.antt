-- Each case reads the stop of the route with the trip put in at its place.
use Rattle.std.proofs.Common.{◌≡◌, ◌-◌, Some, ap, sym, ◌∙◌, slice_get, arith}
use Rattle.pt_insertion_search.specs.Insertion.{with_trip}
use Rattle.pt_insertion_search.proofs.InsertionLemmas.{with_trip_before, with_trip_pickup, with_trip_between, with_trip_drop, with_trip_after}
use Rattle.pt_insertion_search.proofs.insertion.stop_at.Goals as goal

pub returns-then-k-i : goal.returns-then-k-i
returns-then-k-i g c =
    with_trip_before c.args.asked.now c.args.i c.args.j (g.S.Stops.stops c.args.stops.now) c.args.k
    c.requires.drop_later c.requires.among c.if-k-i.true
    ∙ c.stop.ensures.value

pub returns-then-k-i-2 : goal.returns-then-k-i-2
returns-then-k-i-2 g c =
    let here : c.args.k ≡ c.args.i = omega arith in
    ap (slice_get (with_trip c.args.asked.now c.args.i c.args.j (g.S.Stops.stops c.args.stops.now))) here
    ∙ with_trip_pickup c.args.asked.now c.args.i c.args.j (g.S.Stops.stops c.args.stops.now)
    c.requires.drop_later c.requires.among
    ∙ ap Some (sym c.pickup_stop.ensures)

pub returns-then-k-j : goal.returns-then-k-j
returns-then-k-j g c =
    with_trip_between c.args.asked.now c.args.i c.args.j (g.S.Stops.stops c.args.stops.now) c.args.k (c.args.k - 1)
    c.requires.drop_later c.requires.among (omega arith) (omega arith) (omega arith)
    ∙ c.stop-then-k-j.ensures.value

pub returns-then-k-j-2 : goal.returns-then-k-j-2
returns-then-k-j-2 g c =
    with_trip_drop c.args.asked.now c.args.i c.args.j (g.S.Stops.stops c.args.stops.now) c.args.k
    c.requires.drop_later c.requires.among (omega arith)
    ∙ ap Some (sym c.drop_stop.ensures)

pub returns-else-k-j-2 : goal.returns-else-k-j-2
returns-else-k-j-2 g c =
    with_trip_after c.args.asked.now c.args.i c.args.j (g.S.Stops.stops c.args.stops.now) c.args.k (c.args.k - 2)
    c.requires.drop_later c.requires.among (omega arith) (omega arith)
    ∙ c.stop-else-k-j-2.ensures.value
