use Rattle.std.proofs.Common.{◌≡◌, ◌+◌, ◌≤◌, drop}
use Rattle.pt_desk_rules.specs.Fleet.{vehicle_count, versions_of_others}
use Rattle.pt_desk_rules.proofs.fleet.other_vehicle_count.Given as goal

abbrev pub invariant-loop-at : goal.invariant-loop-at
invariant-loop-at l = record {
  few : l.count ≤ l.at;
  rest : l.count + vehicle_count (versions_of_others l.id (drop l.at l.vehicles)) ≡ vehicle_count (versions_of_others l.id l.vehicles);
}
