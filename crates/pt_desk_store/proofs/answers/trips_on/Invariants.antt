use Rattle.std.proofs.Common.{◌≡◌, ◌++◌, drop}
use Rattle.pt_desk_rules.specs.Planned.{trips_on}
use Rattle.pt_desk_store.proofs.answers.trips_on.Given as goal

abbrev pub invariant-loop-trip : goal.invariant-loop-trip
invariant-loop-trip l = l.found.items ++ trips_on l.day (drop l.trip-index l.trips) ≡ trips_on l.day l.trips
