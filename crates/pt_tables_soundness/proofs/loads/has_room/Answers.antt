use Rattle.std.proofs.Common.{arith}
use Rattle.pt_base_values.specs.declared.vehicle.Vehicle.{Vehicle}
use Rattle.pt_feasible.specs.Loads.{LoadsFit}
use Rattle.pt_feasible.specs.Route.{stops_of}
use Rattle.pt_tables_soundness.proofs.FitLemmas.{is_none, is_some, some_past}
use Rattle.pt_tables_soundness.proofs.loads.has_room.Goals as goal

pub loop-version-preserved : goal.loop-version-preserved
loop-version-preserved c =
    some_past (λ (v : Vehicle). LoadsFit v (stops_of c.args.route.now)) c.version-item.result c.args.versions.now
    c.loop-version.version-index c.loads_fit.result (omega arith) c.version-item.is c.loads_fit.ensures.1
    c.if-loads_fit.false c.loop-version.invariant

pub returns-then-loads_fit : goal.returns-then-loads_fit
returns-then-loads_fit c =
    is_some (λ (v : Vehicle). LoadsFit v (stops_of c.args.route.now)) c.version-item.result c.args.versions.now
    c.loop-version.version-index (omega arith) c.version-item.is (c.loads_fit.ensures.0 c.if-loads_fit.true)

pub returns : goal.returns
returns c =
    is_none (λ (v : Vehicle). LoadsFit v (stops_of c.args.route.now)) c.args.versions.now
    c.loop-version.version-index (omega arith) c.loop-version.invariant
