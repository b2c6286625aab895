-- The drives are those from and to the neighboring visits.
use Rattle.std.proofs.Common.{arith}
use Rattle.pt_feasible.specs.Route.{stops_of}
use Rattle.pt_insertion_search.proofs.DetourLemmas.{detour_of}
use Rattle.pt_insertion_search.proofs.added.detour_at.Goals as goal

pub returns : goal.returns
returns g c here next e f =
    let one = detour_of (g.T.Times.minutes c.args.times.now) c.args.duty.now.vehicle.now (stops_of c.args.duty.now.route.now) c.args.k c.args.place
    c.visit_at-here.result c.visit_at-next.result c.visit_at-here.ensures c.visit_at-next.ensures here next e f in
    omega (arith, one, c.leg.ensures.value, c.leg-2.ensures.value, c.leg-3.ensures.value)
