use Rattle.std.proofs.Common.{sym}
use Rattle.pt_feasible.specs.Loads.{LoadsFit}
use Rattle.pt_desk_scheduling.specs.Plan.{stops_among}
use Rattle.pt_tables_soundness.proofs.FitLemmas.{plan_holds}
use Rattle.pt_tables_soundness.proofs.loads.has_room_for.Goals as goal

pub returns : goal.returns
returns c =
    plan_holds (λ day stops version. LoadsFit version (stops_among c.args.trips.now.items stops))
    c.args.vehicles.now.items c.versions_of-versions.result.now c.args.plan.now c.plan.inside.vehicle
    c.plan.inside.day c.deref.result.now c.plan.inside.stops.items c.has_room_on.result (sym c.plan.view_is)
    c.deref.ensures.value c.versions_of-versions.ensures c.has_room_on.ensures
