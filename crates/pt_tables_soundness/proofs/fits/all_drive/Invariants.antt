use Rattle.std.proofs.Common.{drop}
use Rattle.pt_desk_rules.specs.Sound.{DrivesIn}
use Rattle.pt_base_records.specs.Records.{Each}
use Rattle.pt_tables_soundness.proofs.fits.all_drive.Given as goal

abbrev pub invariant-loop-plan : goal.invariant-loop-plan
invariant-loop-plan l =
    Each (DrivesIn l.vehicles.items l.travel l.trips.items) (drop l.plan-index l.plans)
    → Each (DrivesIn l.vehicles.items l.travel l.trips.items) l.plans
