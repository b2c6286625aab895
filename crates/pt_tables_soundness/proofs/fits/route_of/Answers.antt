use Rattle.std.proofs.Common.{List, arith, ap, length, subst, sym, ◌∙◌}
use Rattle.pt_base_values.specs.declared.trip.Trip.{Trip}
use Rattle.pt_feasible.specs.Pairing.{IsPaired}
use Rattle.pt_desk_scheduling.specs.Plan.{stops_among}
use Rattle.pt_desk_scheduling.proofs.RouteLemmas.{among_route}
use Rattle.pt_tables_soundness.proofs.fits.route_of.Goals as goal

pub unwrap-requires : goal.unwrap-requires
unwrap-requires c =
    let route = among_route c.args.trips.now.items c.args.planned.now c.requires.route in
    let few = route.few in
    let same = c.in_ok-stops.ensures ∙ ap (λ (trips : List Trip). stops_among trips c.args.planned.now) c.as_slice.ensures.value in
    c.of.ensures.is_route.1 (omega (arith, ap length same), subst IsPaired (sym same) route.paired)
