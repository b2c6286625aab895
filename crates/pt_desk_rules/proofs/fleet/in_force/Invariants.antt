use Rattle.std.proofs.Common.{◌≡◌, ◌++◌, drop}
use Rattle.std.specs.Prelude.{filter}
use Rattle.pt_desk_rules.specs.Fleet.{in_force, is_in_force}
use Rattle.pt_desk_rules.proofs.fleet.in_force.Given as goal

abbrev pub invariant-loop-version : goal.invariant-loop-version
invariant-loop-version l =
    l.found.items ++ filter (is_in_force l.day l.vehicles) (drop l.version-index l.vehicles)
    ≡ in_force l.day l.vehicles
