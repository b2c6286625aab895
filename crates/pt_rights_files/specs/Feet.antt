-- Distances in feet.
use Rattle.std.specs.Prelude.{ℕ, ◌≤◌}

-- the farthest distance that a condition may name
abbrev pub most_feet : ℕ
most_feet = 100_000

-- 1 to the most feet
abbrev pub IsFeet : ℕ → Type 0
IsFeet number = (1 ≤ number) × (number ≤ most_feet)
