use Rattle.std.proofs.Common.{◌≡◌, drop}
use Rattle.std.specs.List.{list_any}
use Rattle.std.specs.Prelude.{◌==◌}
use Rattle.pt_base_values.specs.declared.trip.Trip.{Trip}
use Rattle.pt_desk_store.proofs.manifests.has_trip.Given as goal

abbrev pub invariant-loop-trip : goal.invariant-loop-trip
invariant-loop-trip l = list_any (λ (trip : Trip). trip.id == l.id) (drop l.trip-index l.trips) ≡ list_any (λ (trip : Trip). trip.id == l.id) l.trips
