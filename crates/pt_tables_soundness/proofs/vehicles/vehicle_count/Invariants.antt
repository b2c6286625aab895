use Rattle.std.proofs.Common.{◌≡◌, ◌+◌, ◌≤◌, drop}
use Rattle.pt_desk_rules.specs.Fleet.{vehicle_count}
use Rattle.pt_tables_soundness.proofs.vehicles.vehicle_count.Given as goal

abbrev pub invariant-loop-at : goal.invariant-loop-at
invariant-loop-at l = record {
  few : l.count ≤ l.at;
  rest : l.count + vehicle_count (drop l.at l.versions) ≡ vehicle_count l.versions;
}
