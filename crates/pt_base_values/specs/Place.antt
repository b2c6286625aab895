-- The plane on which places lie.
use Rattle.std.specs.Prelude.{ℤ, pos, neg_ℤ, ◌≤ℤ◌}

-- a coordinate of the plane, in feet
abbrev pub IsCoordinate : ℤ → Type 0
IsCoordinate z = (neg_ℤ (pos 1_000_000) ≤ℤ z) × (z ≤ℤ pos 1_000_000)

-- both coordinates are of the plane
abbrev pub IsOnPlane : ℤ → ℤ → Type 0
IsOnPlane x y = IsCoordinate x × IsCoordinate y
