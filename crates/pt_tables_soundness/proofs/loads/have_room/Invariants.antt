use Rattle.std.proofs.Common.{drop}
use Rattle.pt_desk_rules.specs.Sound.{LoadsFitIn}
use Rattle.pt_base_records.specs.Records.{Each}
use Rattle.pt_tables_soundness.proofs.loads.have_room.Given as goal

abbrev pub invariant-loop-plan : goal.invariant-loop-plan
invariant-loop-plan l =
    Each (LoadsFitIn l.vehicles.items l.trips.items) (drop l.plan-index l.plans)
    → Each (LoadsFitIn l.vehicles.items l.trips.items) l.plans
