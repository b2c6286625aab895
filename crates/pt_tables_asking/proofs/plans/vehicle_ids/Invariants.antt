use Rattle.std.proofs.Common.{◌≡◌, ◌++◌, drop}
use Rattle.pt_tables_asking.specs.Plans.{vehicle_ids}
use Rattle.pt_tables_asking.proofs.plans.vehicle_ids.Given as goal

abbrev pub invariant-loop-at : goal.invariant-loop-at
invariant-loop-at l = l.ids.items ++ vehicle_ids (drop l.at l.vehicles) ≡ vehicle_ids l.vehicles
