-- There is one detour to the goal here.
use Rattle.std.proofs.Common.{arith}
use Rattle.pt_feasible.specs.Route.{stops_of}
use Rattle.pt_insertion_search.proofs.DetourLemmas.{detour_same}
use Rattle.pt_insertion_search.proofs.added.is_drop_below.Goals as goal
use Rattle.pt_insertion_search.proofs.added.is_drop_below.Goals.{then-least-most-via-then-least-most, then-least-most-via-else-least-most+then-detour_at-most}

pub returns-then-least-most : goal.returns-then-least-most
returns-then-least-most g c said more is =
    elim c.then-least-most.branch [
      | then-least-most-via-then-least-most w ↦ omega arith
      | then-least-most-via-else-least-most+then-detour_at-most w ↦
          let same = detour_same (g.T.Times.minutes c.args.times.now) c.args.duty.now.vehicle.now (stops_of c.args.duty.now.route.now) c.args.k
          c.args.asked.now.goal w.detour_at.result more c.requires.among w.detour_at.ensures is in
          omega (arith, same)
    ]
