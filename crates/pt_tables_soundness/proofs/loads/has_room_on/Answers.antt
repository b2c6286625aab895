use Rattle.std.proofs.Common.{◌∙◌}
use Rattle.pt_desk_rules.specs.Fleet.{in_force}
use Rattle.pt_feasible.specs.Loads.{LoadsFit}
use Rattle.pt_feasible.specs.Route.{stops_of}
use Rattle.pt_desk_scheduling.specs.Plan.{stops_among}
use Rattle.pt_tables_soundness.proofs.FitLemmas.{alike}
use Rattle.pt_tables_soundness.proofs.loads.has_room_on.Goals as goal

pub returns : goal.returns
returns c =
    alike (λ stops version. LoadsFit version stops) (stops_of c.in_ok-route.route)
    (stops_among c.args.trips.now.items c.args.planned.now) c.deref.result.now (in_force c.args.day c.args.versions.now)
    c.has_room.result c.in_ok-route.ensures (c.deref.ensures.value ∙ c.in_ok-versions.ensures.value) c.has_room.ensures
