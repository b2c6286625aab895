use Rattle.std.proofs.Common.{◌≡◌, drop}
use Rattle.pt_desk_store.specs.Enough.{are_met}
use Rattle.pt_desk_store.proofs.manifests.are_met.Given as goal

abbrev pub invariant-loop-stop : goal.invariant-loop-stop
invariant-loop-stop l = are_met l.day l.trips (drop l.stop-index l.stops) ≡ are_met l.day l.trips l.stops
