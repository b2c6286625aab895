-- The box that reaches a distance in feet around a segment.
use Rattle.std.specs.Prelude.{ℕ, ℤ, pos, ◌+ℤ◌, ◌<ℤ◌, ◌⊎◌}
use Rattle.pt_base_values.specs.declared.place.Point.{Point}

-- `to` is more than this many feet above `from`
abbrev pub FallsShort : ℕ → ℤ → ℤ → Type 0
FallsShort feet from to = (from +ℤ pos feet) <ℤ to

-- in one coordinate, both ends of the segment lie more than this many feet to the same side of the point
abbrev pub IsBeyond : ℕ → ℤ → ℤ → ℤ → Type 0
IsBeyond feet at start end = (FallsShort feet at start × FallsShort feet at end)
    ⊎ (FallsShort feet start at × FallsShort feet end at)

-- the point is outside the box that reaches this many feet around the segment
abbrev pub IsOutsideBox : ℕ → Point → Point → Point → Type 0
IsOutsideBox feet p a b = IsBeyond feet p.x a.x b.x ⊎ IsBeyond feet p.y a.y b.y
