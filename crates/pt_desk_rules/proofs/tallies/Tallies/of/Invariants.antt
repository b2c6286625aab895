use Rattle.std.proofs.Common.{◌≡◌, ◌++◌, drop}
use Rattle.pt_desk_rules.specs.Outcomes.{tallies_of}
use Rattle.pt_desk_rules.proofs.tallies.Tallies.of.Given as goal

abbrev pub invariant-loop-trip : goal.invariant-loop-trip
invariant-loop-trip l = l.tallies.items ++ tallies_of (drop l.trip-index l.trips) ≡ tallies_of l.trips
