-- Distance in feet from a line of points, in whole numbers alone.
use Rattle.std.specs.Prelude.{◌≡◌, ℕ, ◌+◌, ◌*◌, ◌<◌, ◌≤◌, ℤ, pos, ◌+ℤ◌, ◌-ℤ◌, ◌*ℤ◌, ◌≤ℤ◌, List, Some, slice_get}
use Rattle.pt_base_values.specs.declared.place.Point.{Point}

-- the squared length of a way this many feet east and north
abbrev pub squared_length : ℤ → ℤ → ℤ
squared_length east north = east *ℤ east +ℤ north *ℤ north

-- p is within this many feet of the point that is m/n of the way from a to b. Nothing is divided: n times their
-- distance is at most n times the feet.
abbrev pub IsNearPart : ℕ → Point → Point → Point → ℕ → ℕ → Type 0
IsNearPart feet p a b m n =
    squared_length (pos n *ℤ (p.x -ℤ a.x) -ℤ pos m *ℤ (b.x -ℤ a.x)) (pos n *ℤ (p.y -ℤ a.y) -ℤ pos m *ℤ (b.y -ℤ a.y))
    ≤ℤ pos ((feet * n) * (feet * n))

-- p is within this many feet of some point of the segment from a to b, ends included (49 CFR 37.131(a)(1))
abbrev pub IsNearSegment : ℕ → Point → Point → Point → Type 0
IsNearSegment feet p a b = (m : ℕ) × (n : ℕ) × (0 < n) × (m ≤ n) × IsNearPart feet p a b m n

-- a and b are successive points of the line
abbrev pub HasSegment : List Point → Point → Point → Type 0
HasSegment line a b = (k : ℕ) × (slice_get line k ≡ Some a) × (slice_get line (k + 1) ≡ Some b)

-- p is within this many feet of one of the line's segments
abbrev pub IsNearLine : ℕ → Point → List Point → Type 0
IsNearLine feet p line = (a : Point) × (b : Point) × HasSegment line a b × IsNearSegment feet p a b
