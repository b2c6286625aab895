use Rattle.std.proofs.Common.{◌≡◌, ℕ, drop}
use Rattle.std.specs.Prelude.{◌==◌, ◌||◌}
use Rattle.std.specs.List.{list_any}
use Rattle.pt_desk_scheduling.specs.Uses.{is_use_of}
use Rattle.pt_desk_scheduling.proofs.uses.days_of_use.Given as goal

abbrev pub invariant-loop-trip : goal.invariant-loop-trip
invariant-loop-trip l = (day : ℕ) → (list_any (λ use_day. use_day == day) l.days.items || list_any (is_use_of l.left_out day) (drop l.trip-index l.trips)) ≡ list_any (is_use_of l.left_out day) l.trips
