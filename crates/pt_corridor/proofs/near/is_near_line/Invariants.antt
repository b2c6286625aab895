use Rattle.std.proofs.Common.{ℕ, ◌+◌, ◌<◌, ◌≡◌}
use Rattle.pt_base_values.specs.declared.place.Point.{Point}
use Rattle.pt_corridor.specs.Near.{IsNearSegment}
use Rattle.std.specs.Prelude.{Some, slice_get}
use Rattle.pt_corridor.proofs.near.is_near_line.Given as goal

-- no segment that ends before this point is near
abbrev pub invariant-loop-end : goal.invariant-loop-end
invariant-loop-end l =
    (k : ℕ) → k + 1 < l.end → (a : Point) → (b : Point) → slice_get l.line k ≡ Some a → slice_get l.line (k + 1) ≡ Some b → ¬ IsNearSegment l.feet l.point a b
