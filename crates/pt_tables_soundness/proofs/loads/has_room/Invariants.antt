use Rattle.std.proofs.Common.{drop}
use Rattle.pt_base_values.specs.declared.vehicle.Vehicle.{Vehicle}
use Rattle.pt_feasible.specs.Loads.{LoadsFit}
use Rattle.pt_feasible.specs.Route.{stops_of}
use Rattle.pt_tables_soundness.proofs.FitLemmas.{HasSome}
use Rattle.pt_tables_soundness.proofs.loads.has_room.Given as goal

abbrev pub invariant-loop-version : goal.invariant-loop-version
invariant-loop-version l =
    HasSome (λ (v : Vehicle). LoadsFit v (stops_of l.route)) l.versions
    → HasSome (λ (v : Vehicle). LoadsFit v (stops_of l.route)) (drop l.version-index l.versions)
