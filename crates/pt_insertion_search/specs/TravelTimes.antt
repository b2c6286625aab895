-- The law of driving times on which the removal of stops from a route depends.
use Rattle.std.specs.Prelude.{◌≡◌, ℕ, ◌+◌, ◌≤◌, Option, Some, IsSomeAnd}
use Rattle.pt_base_values.specs.Ranges.{last_minute}

-- a way over a third place is never shorter than the driving time, within a day
abbrev pub KeepsTriangleLaw : (ℕ → ℕ → Option ℕ) → Type 0
KeepsTriangleLaw minutes = (a b c m n : ℕ) → minutes a b ≡ Some m → minutes b c ≡ Some n → m + n ≤ last_minute →
    IsSomeAnd (minutes a c) (λ t. t ≤ m + n)
