-- The driving times that a closed table returns.
use Rattle.std.specs.Prelude.{ℕ, List, Option, None, Some, ◌==◌, nat_le, if◌then◌else◌}
use Rattle.std.specs.List.{position}
use Rattle.pt_base_values.specs.Ranges.{last_minute}
use Rattle.pt_travel.specs.Matrix.{entry}

-- the minutes if they are within a day, else None
abbrev pub within_a_day : ℕ → Option ℕ
within_a_day minutes = if nat_le minutes last_minute then Some minutes else None

-- the entry at two positions; None if one is unknown or the entry is not within a day
abbrev pub entry_at : List (List ℕ) → Option ℕ → Option ℕ → Option ℕ
entry_at lines None j = None
entry_at lines (Some i) None = None
entry_at lines (Some i) (Some j) = within_a_day (entry lines i j)

-- the minutes between two places of a list, by the entry at their positions, and 0 from a place to itself
abbrev pub minutes_between : List ℕ → List (List ℕ) → ℕ → ℕ → Option ℕ
minutes_between places lines from to =
    if from == to then Some 0 else entry_at lines (position (λ p. p == from) places) (position (λ p. p == to) places)
