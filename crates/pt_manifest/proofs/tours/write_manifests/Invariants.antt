use Rattle.std.proofs.Common.{◌≡◌, ◌++◌, take}
use Rattle.std.specs.List.{flat_map}
use Rattle.pt_manifest.specs.Manifests.{manifest_text}
use Rattle.pt_manifest.proofs.tours.write_manifests.Given as goal

abbrev pub invariant-loop-vehicle : goal.invariant-loop-vehicle
invariant-loop-vehicle l = l.out.items ≡ l.fn.out.items ++ flat_map (manifest_text l.fn.day) (take l.vehicle-index l.vehicles)
