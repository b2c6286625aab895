use Rattle.std.proofs.Common.{◌≡◌, drop}
use Rattle.std.specs.Prelude.{◌==◌, ◌&&◌, find}
use Rattle.pt_base_values.specs.declared.vehicle.Vehicle.{Vehicle}
use Rattle.pt_desk_rules.specs.Fleet.{duty_of, is_on_duty}
use Rattle.pt_desk_rules.proofs.fleet.duty_of.Given as goal

abbrev pub invariant-loop-version : goal.invariant-loop-version
invariant-loop-version l =
    find (λ (version : Vehicle). version.id == l.id && is_on_duty l.day l.vehicles version)
    (drop l.version-index l.vehicles)
    ≡ duty_of l.id l.day l.vehicles
