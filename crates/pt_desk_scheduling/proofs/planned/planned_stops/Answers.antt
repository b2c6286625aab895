use Rattle.std.proofs.Common.{◌+◌, ◌∷◌, [], drop, map, ap, sym, ◌∙◌, append_assoc}
use Rattle.std.specs.Prelude.{◌++◌}
use Rattle.pt_feasible.specs.Route.{stops_of}
use Rattle.pt_desk_scheduling.specs.Plan.{planned_stop}
use Rattle.pt_desk_scheduling.proofs.ListLemmas.{drop-found}
use Rattle.pt_desk_scheduling.proofs.planned.planned_stops.Goals as goal

pub loop-k-preserved : goal.loop-k-preserved
loop-k-preserved c =
    let there = drop-found (stops_of c.args.route.now) c.loop-k.k c.stop-trip.result c.stop-trip.ensures.value in
    let rest = map planned_stop (drop (c.loop-k.k + 1) (stops_of c.args.route.now)) in
    ap (λ ys. ys ++ rest) c.in_ok-push.ensures.items ∙ append_assoc c.loop-k.stops.items (planned_stop c.stop-trip.result ∷ []) rest
    ∙ sym (ap (λ ys. c.loop-k.stops.items ++ map planned_stop ys) there) ∙ c.loop-k.invariant
