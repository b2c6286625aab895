use Rattle.std.proofs.Common.{◌≡◌, ◌++◌, take}
use Rattle.std.specs.List.{flat_map}
use Rattle.pt_manifest.specs.Manifests.{stop_line}
use Rattle.pt_manifest.proofs.tours.write_stops.Given as goal

abbrev pub invariant-loop-stop : goal.invariant-loop-stop
invariant-loop-stop l = l.out.items ≡ l.fn.out.items ++ flat_map (stop_line l.chairs) (take l.stop-index l.stops)
