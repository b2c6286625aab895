use Rattle.std.proofs.Common.{◌≡◌, ◌++◌, drop}
use Rattle.pt_desk_rules.specs.Planned.{trips_of}
use Rattle.pt_desk_store.proofs.answers.trips_of.Given as goal

abbrev pub invariant-loop-trip : goal.invariant-loop-trip
invariant-loop-trip l = l.found.items ++ trips_of l.rider (drop l.trip-index l.trips) ≡ trips_of l.rider l.trips
