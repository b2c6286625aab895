use Rattle.std.proofs.Common.{drop}
use Rattle.pt_base_values.specs.declared.vehicle.Vehicle.{Vehicle}
use Rattle.pt_desk_rules.specs.Sound.{HasTimes}
use Rattle.pt_feasible.specs.Route.{stops_of}
use Rattle.pt_tables_soundness.proofs.FitLemmas.{HasSome}
use Rattle.pt_tables_soundness.proofs.fits.can_serve.Given as goal

abbrev pub invariant-loop-version : goal.invariant-loop-version
invariant-loop-version l =
    HasSome (λ (v : Vehicle). HasTimes l.table.rows (stops_of l.route) v) l.versions
    → HasSome (λ (v : Vehicle). HasTimes l.table.rows (stops_of l.route) v) (drop l.version-index l.versions)
