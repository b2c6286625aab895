use Rattle.std.proofs.Common.{◌≡◌, ◌+◌, ◌≤◌, drop, length}
use Rattle.pt_desk_rules.specs.Fleet.{versions_before}
use Rattle.pt_desk_rules.proofs.fleet.version_count_before.Given as goal

abbrev pub invariant-loop-version : goal.invariant-loop-version
invariant-loop-version l = record {
  few : l.count ≤ l.version-index;
  rest : l.count + length (versions_before l.id l.day (drop l.version-index l.vehicles)) ≡ length (versions_before l.id l.day l.vehicles);
}
