use Rattle.std.proofs.Common.{◌≡◌, ◌+◌, ◌≤◌, drop}
use Rattle.pt_desk_rules.specs.Tours.{standing_count}
use Rattle.pt_desk_reads.proofs.tours.standing_count.Given as goal

abbrev pub invariant-loop-trip : goal.invariant-loop-trip
invariant-loop-trip l = record {
  few : l.count ≤ l.trip-index;
  rest : l.count + standing_count (drop l.trip-index l.trips) ≡ standing_count l.trips;
}
