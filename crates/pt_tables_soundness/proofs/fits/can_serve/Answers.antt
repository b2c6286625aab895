use Rattle.std.proofs.Common.{arith}
use Rattle.pt_base_values.specs.declared.vehicle.Vehicle.{Vehicle}
use Rattle.pt_desk_rules.specs.Sound.{HasTimes}
use Rattle.pt_feasible.specs.Route.{stops_of}
use Rattle.pt_tables_soundness.proofs.FitLemmas.{is_none, is_some, some_past}
use Rattle.pt_tables_soundness.proofs.fits.can_serve.Goals as goal

pub loop-version-preserved : goal.loop-version-preserved
loop-version-preserved c =
    some_past (λ (v : Vehicle). HasTimes c.args.table.now.rows (stops_of c.args.route.now) v) c.version-item.result
    c.args.versions.now c.loop-version.version-index c.can_drive.result (omega arith) c.version-item.is
    c.can_drive.ensures.1 c.if-can_drive.false c.loop-version.invariant

pub returns-then-can_drive : goal.returns-then-can_drive
returns-then-can_drive c =
    is_some (λ (v : Vehicle). HasTimes c.args.table.now.rows (stops_of c.args.route.now) v) c.version-item.result
    c.args.versions.now c.loop-version.version-index (omega arith) c.version-item.is
    (c.can_drive.ensures.0 c.if-can_drive.true)

pub returns : goal.returns
returns c =
    is_none (λ (v : Vehicle). HasTimes c.args.table.now.rows (stops_of c.args.route.now) v) c.args.versions.now
    c.loop-version.version-index (omega arith) c.loop-version.invariant
