-- A segment whose ends both lie further away than the reach, on one side: no point of it is near.
use Rattle.std.proofs.Common.{◌≡◌, ℕ, suc, ◌+◌, ◌-◌, ◌*◌, ◌<◌, ◌≤◌, ◌⊎◌, inl, inr, refl, ap, subst, ◌∙◌, arith, ℤ}
use Rattle.std.proofs.Common.{pos, negsuc, ◌+ℤ◌, ◌-ℤ◌, ◌*ℤ◌, ◌≤ℤ◌, ◌<ℤ◌, ◌↔◌, ◌^◌, IsTrue, unsigned_abs, FitsSigned}
use Rattle.std.proofs.Common.{to_z, of_z}
use Rattle.std.proofs.lemmas.Int.{ints, fits_signed_from_abs, to_z-of_z}
use Rattle.std.proofs.lemmas.Nat.{mul-le}
use Rattle.pt_base_values.specs.declared.place.Point.{Point}
use Rattle.pt_corridor.specs.Near.{IsNearSegment, squared_length}
use Rattle.pt_corridor.specs.Box.{FallsShort, IsBeyond, IsOutsideBox}
use Rattle.pt_corridor.proofs.Bridge.{length_is, length_of}
use Rattle.pt_corridor.proofs.Whole.{square_of, add-times, times-add}
use lib.IntN.{nat_abs}
use lib.Signed.{lt_z}
use mir.Syntax.{w32, w64}

-- the way from a point m/n along the segment, by the ways from its ends
mixed : (d m : ℕ) (u w : ℤ) → pos (d + m) *ℤ u -ℤ pos m *ℤ (u -ℤ w) ≡ pos d *ℤ u +ℤ pos m *ℤ w
mixed d m u w =
    let whole = add-times (pos d) (pos m) u in
    let parts = times-add (pos m) (u -ℤ w) w in
    let same : u -ℤ w +ℤ w ≡ u = omega (arith, ints) in
    omega (arith, ints, whole, parts, ap (λ k. pos m *ℤ k) same)

-- d times a number below zero
times-below : (d i : ℕ) (u : ℤ) → u +ℤ pos i ≡ pos 0 → pos d *ℤ u +ℤ pos (d * i) ≡ pos 0
times-below d i u e =
    let parts = times-add (pos d) u (pos i) in
    let none : pos d *ℤ pos 0 ≡ pos (d * 0) = refl in
    omega (arith, ints, parts, ap (λ k. pos d *ℤ k) e, none)

further : (feet d m i j : ℕ) → feet < i → feet < j → 0 < d + m → feet * (d + m) < d * i + m * j
further feet d m i j in_i in_j some =
    let first = mul-le d (feet + 1) d i (omega arith) (omega arith) in
    let second = mul-le m (feet + 1) m j (omega arith) (omega arith) in
    omega (arith, first, second)

-- how far a part of the segment is, in one coordinate
far : (feet d m : ℕ) (u w : ℤ) → 0 < d + m → ((pos feet <ℤ u) × (pos feet <ℤ w)) ⊎ (((u +ℤ pos feet) <ℤ pos 0) × ((w +ℤ pos feet) <ℤ pos 0))
    → feet * (d + m) < nat_abs (pos (d + m) *ℤ u -ℤ pos m *ℤ (u -ℤ w))
far feet d m (pos i) (pos j) some (inl (in_u, in_w)) = rw (mixed d m (pos i) (pos j)) (further feet d m i j (omega (arith, ints)) (omega (arith, ints)) some)
far feet d m (negsuc i) w some (inl (in_u, in_w)) = absurd (omega (arith, ints))
far feet d m (pos i) (negsuc j) some (inl (in_u, in_w)) = absurd (omega (arith, ints))
far feet d m (negsuc i) (negsuc j) some (inr (in_u, in_w)) =
    let first = times-below d (suc i) (negsuc i) (omega (arith, ints)) in
    let second = times-below m (suc j) (negsuc j) (omega (arith, ints)) in
    let more = further feet d m (suc i) (suc j) (omega (arith, ints)) (omega (arith, ints)) some in
    rw (mixed d m (negsuc i) (negsuc j)) (below (pos d *ℤ negsuc i +ℤ pos m *ℤ negsuc j) (d * suc i + m * suc j) (omega (arith, ints)) more)
  where
    below : (z : ℤ) (k : ℕ) → z +ℤ pos k ≡ pos 0 → feet * (d + m) < k → feet * (d + m) < nat_abs z
    below (pos n) k e more = absurd (omega (arith, ints))
    below (negsuc n) k e more = omega (arith, ints)
far feet d m (pos i) w some (inr (in_u, in_w)) = absurd (omega (arith, ints))
far feet d m (negsuc i) (pos j) some (inr (in_u, in_w)) = absurd (omega (arith, ints))

longer : (feet n x y : ℕ) → feet * n < x → x * x + y ≤ (feet * n) * (feet * n) → ⊥
longer feet n x y more less =
    let square = mul-le (feet * n + 1) (feet * n + 1) x x (omega arith) (omega arith) in
    omega (arith, square)

bound : (z : ℤ) (p r : ℕ) → z ≡ pos p → z ≤ℤ pos r → p ≤ r
bound z p r e h = omega (arith, ints)

coordinate-far : (feet m n : ℕ) (x a b : ℤ) → m ≤ n → 0 < n → IsBeyond feet x a b → feet * n < nat_abs (pos n *ℤ (x -ℤ a) -ℤ pos m *ℤ (b -ℤ a))
coordinate-far feet m n x a b within some beyond =
    let n_is : (n - m) + m ≡ n = omega arith in
    let way : (x -ℤ a) -ℤ (x -ℤ b) ≡ b -ℤ a = omega (arith, ints) in
    let sides : ((pos feet <ℤ (x -ℤ a)) × (pos feet <ℤ (x -ℤ b))) ⊎ ((((x -ℤ a) +ℤ pos feet) <ℤ pos 0) × (((x -ℤ b) +ℤ pos feet) <ℤ pos 0)) =
    elim beyond [
      | inl before ↦ inr (omega (arith, ints, before.0), omega (arith, ints, before.1))
      | inr after ↦ inl (omega (arith, ints, after.0), omega (arith, ints, after.1))
    ]
    in
    let one = far feet (n - m) m (x -ℤ a) (x -ℤ b) (omega arith) sides in
    subst (λ (k : ℕ). feet * k < nat_abs (pos k *ℤ (x -ℤ a) -ℤ pos m *ℤ (b -ℤ a))) n_is
    (subst (λ (v : ℤ). feet * ((n - m) + m) < nat_abs (pos ((n - m) + m) *ℤ (x -ℤ a) -ℤ pos m *ℤ v)) way one)

-- a point outside the box around a segment is not near it
pub out-of-reach : (feet : ℕ) (p a b : Point) → IsOutsideBox feet p a b → IsNearSegment feet p a b → ⊥
out-of-reach feet p a b outside (m, n, some, within, near) =
    let x = pos n *ℤ (p.x -ℤ a.x) -ℤ pos m *ℤ (b.x -ℤ a.x) in
    let y = pos n *ℤ (p.y -ℤ a.y) -ℤ pos m *ℤ (b.y -ℤ a.y) in
    let reached = bound (squared_length x y) (length_of x y) ((feet * n) * (feet * n)) (length_is x y) near in
    elim outside [
      | inl east ↦ longer feet n (nat_abs x) (square_of y) (coordinate-far feet m n p.x a.x b.x within some east) reached
      | inr north ↦ longer feet n (nat_abs y) (square_of x) (coordinate-far feet m n p.y a.y b.y within some north) (omega (arith, reached))
    ]

-- what the code's comparison of 64 bits decides
less_is : (a b : ℤ) → IsTrue (lt_z a b) ↔ (a <ℤ b)
less_is a b = (λ h. omega (arith, ints), λ h. grind (arith, ints))

small_fits : (z : ℤ) → unsigned_abs z ≤ 2 ^ 34 → FitsSigned w64 z
small_fits z h = fits_signed_from_abs w64 z (omega arith)

pub short_decided : (from to r s t : ℤ) (feet : ℕ) → FitsSigned w32 from → FitsSigned w32 to → feet < 2 ^ 32 → r ≡ to_z w32 (of_z w32 from) → s ≡ pos feet → t ≡ to_z w32 (of_z w32 to)
    → IsTrue (lt_z (to_z w64 (of_z w64 (to_z w64 (of_z w64 r) +ℤ to_z w64 (of_z w64 s)))) (to_z w64 (of_z w64 t))) ↔ FallsShort feet from to
short_decided from to r s t feet f g small r_is s_is t_is =
    let r_from = r_is ∙ to_z-of_z w32 from f in
    let t_to = t_is ∙ to_z-of_z w32 to g in
    let a : FitsSigned w64 from = small_fits from (omega (arith, ints, f.sfits)) in
    let b : FitsSigned w64 (pos feet) = small_fits (pos feet) (omega (arith, ints)) in
    let d : FitsSigned w64 to = small_fits to (omega (arith, ints, g.sfits)) in
    let e : FitsSigned w64 (from +ℤ pos feet) = small_fits (from +ℤ pos feet) (omega (arith, ints, f.sfits)) in
    rw (r_from, s_is, t_to) (simp to_z-of_z (less_is (from +ℤ pos feet) to))
