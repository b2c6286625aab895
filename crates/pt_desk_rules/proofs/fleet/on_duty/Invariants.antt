use Rattle.std.proofs.Common.{◌≡◌, ◌++◌, drop}
use Rattle.std.specs.Prelude.{filter}
use Rattle.pt_desk_rules.specs.Fleet.{is_on_duty, on_duty}
use Rattle.pt_desk_rules.proofs.fleet.on_duty.Given as goal

abbrev pub invariant-loop-version : goal.invariant-loop-version
invariant-loop-version l = l.found.items ++ filter (is_on_duty l.day l.vehicles) (drop l.version-index l.vehicles) ≡ on_duty l.day l.vehicles
