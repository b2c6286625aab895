use Rattle.std.proofs.Common.{◌≡◌, drop}
use Rattle.pt_desk_rules.specs.Planned.{is_booked_from}
use Rattle.pt_desk_store.proofs.answers.is_booked_from.Given as goal

abbrev pub invariant-loop-trip : goal.invariant-loop-trip
invariant-loop-trip l = is_booked_from l.vehicle l.day (drop l.trip-index l.trips) ≡ is_booked_from l.vehicle l.day l.trips
