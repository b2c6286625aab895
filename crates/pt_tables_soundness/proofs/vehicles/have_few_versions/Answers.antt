use Rattle.std.proofs.Common.{◌≤◌, length}
use Rattle.pt_base_values.specs.declared.vehicle.Vehicle.{Vehicle}
use Rattle.pt_desk_rules.specs.Fleet.{versions_of}
use Rattle.pt_desk_rules.specs.State.{most_versions}
use Rattle.pt_tables_soundness.proofs.FleetLemmas.{each_of, few_versions}
use Rattle.pt_tables_soundness.proofs.vehicles.have_few_versions.Goals as goal

pub returns : goal.returns
returns c =
    let all = c.args.vehicles.now.items in
    let each = rw c.as_slice.ensures.value at c.are_few_versions.ensures in (
      λ is. few_versions all (each.0 is),
      λ few. each.1 (each_of (λ (v : Vehicle). length (versions_of v.id all) ≤ most_versions) (λ v. few v.id) all),
    )
