-- The drop takes nothing off what the pickup adds.
use Rattle.std.proofs.Common.{arith}
use Rattle.pt_feasible.specs.Route.{stops_of}
use Rattle.pt_insertion_search.proofs.DetourLemmas.{pickup_detour}
use Rattle.pt_insertion_search.proofs.added.least_added_at.Goals as goal

pub returns : goal.returns
returns g c j possible =
    pickup_detour (g.T.Times.minutes c.args.times.now) c.args.duty.now.vehicle.now (stops_of c.args.duty.now.route.now)
    c.args.asked.now c.args.i j c.detour_at.result (g.met.T.Times.triangle c.args.times.now)
    (g.met.T.Times.within_a_day c.args.times.now) (omega arith) c.requires.new_trip c.detour_at.ensures possible
