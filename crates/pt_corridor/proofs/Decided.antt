-- What the code's comparisons of 128 bits decide. From the segment's start, (ux, uy) is the way to the point and
-- (vx, vy) the way to the segment's end.
use Rattle.std.proofs.Common.{◌≡◌, ℕ, ◌*◌, ◌<◌, ◌≤◌, ◌^◌, ◌↔◌, ap, subst, sym, ◌∙◌, IsTrue, true, false, arith, ℤ, pos, ◌-ℤ◌, ◌*ℤ◌, ◌≤ℤ◌, ◌<ℤ◌, unsigned_abs, FitsSigned}
use Rattle.std.proofs.lemmas.Int.{ints, to_z-of_z, to_z_pos}
use Rattle.std.proofs.lemmas.Nat.{mul-le}
use Rattle.pt_base_values.specs.Place.{IsCoordinate}
use Rattle.pt_corridor.specs.Near.{squared_length}
use Rattle.pt_corridor.specs.Way.{IsWay, dot_product, cross_product}
use Rattle.pt_corridor.proofs.Bridge.{IsNearParts, near_start, near_end, near_side}
use Rattle.pt_corridor.proofs.Widths.{read, read64, at_most_is, product_within, sum_within, difference_within, fits_within}
use mir.Syntax.{w64, w128}
use lib.Signed.{le_z}

both : {P Q R : Type 0} → P ↔ Q → Q ↔ R → P ↔ R
both f g = (λ h. g.0 (f.0 h), λ h. f.1 (g.1 h))

-- a way along a segment of the plane is no longer than the plane
pub plane_way : (a b : ℤ) → IsCoordinate a → IsCoordinate b → unsigned_abs (b -ℤ a) ≤ 2 ^ 21
plane_way a b from to = omega (arith, ints)

square_small : (feet : ℕ) → feet < 2 ^ 32 → feet * feet ≤ 2 ^ 64
square_small feet h = mul-le feet feet (2 ^ 32) (2 ^ 32) (omega arith) (omega arith)

pub read_pos : (n : ℕ) → n < 2 ^ 127 → read (pos n) ≡ pos n
read_pos n h = to_z_pos w128 n h

pub read_is : (z : ℤ) → FitsSigned w128 z → read z ≡ z
read_is z f = to_z-of_z w128 z f

-- the square of the feet, as the code makes it
pub reach_is : (feet : ℕ) (r s : ℤ) → feet < 2 ^ 32 → r ≡ pos feet → s ≡ pos feet → read (read r *ℤ read s) ≡ pos (feet * feet)
reach_is feet r s small r_is s_is =
    let one = ap read r_is ∙ read_pos feet (omega arith) in
    let two = ap read s_is ∙ read_pos feet (omega arith) in
    ap (λ k. read (k *ℤ read s)) one ∙ ap (λ k. read (pos feet *ℤ k)) two ∙ read_pos (feet * feet) (omega (arith, square_small feet small))

-- a test against a number that the code made
test_is : (a b made : ℤ) → FitsSigned w128 a → FitsSigned w128 b → made ≡ b → IsTrue (le_z (read a) made) ↔ (a ≤ℤ b)
test_is a b made f g e = subst (λ (k : ℤ). IsTrue (le_z (read a) k) ↔ (a ≤ℤ b)) (read_is b g ∙ sym e) (at_most_is a b f g)

reach_fits : (feet : ℕ) → feet < 2 ^ 32 → FitsSigned w128 (pos (feet * feet))
reach_fits feet small = fits_within (pos (feet * feet)) (2 ^ 64) (square_small feet small) (omega arith)

pub start_decided : (feet : ℕ) (ux uy vx vy along length r s : ℤ) → feet < 2 ^ 32 → r ≡ pos feet → s ≡ pos feet
    → along ≡ dot_product ux uy vx vy → length ≡ squared_length ux uy → along ≤ℤ pos 0 → FitsSigned w128 length
    → IsTrue (le_z (read length) (read (read r *ℤ read s))) ↔ IsNearParts feet ux uy vx vy
start_decided feet ux uy vx vy along length r s small r_is s_is along_is length_is before length_fits =
    let test = test_is length (pos (feet * feet)) _ length_fits (reach_fits feet small) (reach_is feet r s small r_is s_is) in
    let near = near_start feet ux uy vx vy (subst (λ (k : ℤ). k ≤ℤ pos 0) along_is before) in
    both test (subst (λ (k : ℤ). (k ≤ℤ pos (feet * feet)) ↔ IsNearParts feet ux uy vx vy) (sym length_is) near)

pub end_decided : (feet : ℕ) (ux uy vx vy wx wy along length rest r s : ℤ) → feet < 2 ^ 32 → r ≡ pos feet
    → s ≡ pos feet → along ≡ dot_product ux uy vx vy → length ≡ squared_length vx vy → rest ≡ squared_length wx wy
    → wx ≡ ux -ℤ vx → wy ≡ uy -ℤ vy → length ≤ℤ along → FitsSigned w128 rest
    → IsTrue (le_z (read rest) (read (read r *ℤ read s))) ↔ IsNearParts feet ux uy vx vy
end_decided feet ux uy vx vy wx wy along length rest r s small r_is s_is along_is length_is rest_is wx_is wy_is beyond rest_fits =
    let test = test_is rest (pos (feet * feet)) _ rest_fits (reach_fits feet small) (reach_is feet r s small r_is s_is) in
    let here : squared_length vx vy ≤ℤ dot_product ux uy vx vy = subst (λ (k : ℤ). k ≤ℤ dot_product ux uy vx vy) length_is (subst (λ (k : ℤ). length ≤ℤ k) along_is beyond) in
    let near = near_end feet ux uy vx vy here in
    let rest_same : squared_length (ux -ℤ vx) (uy -ℤ vy) ≡ rest = ap (λ k. squared_length k (uy -ℤ vy)) (sym wx_is) ∙ ap (λ k. squared_length wx k) (sym wy_is) ∙ sym rest_is in
    both test (subst (λ (k : ℤ). (k ≤ℤ pos (feet * feet)) ↔ IsNearParts feet ux uy vx vy) rest_same near)

-- the limits of the squares that are compared for a point next to the segment
pub across_within : (ux uy vx vy : ℤ) → IsWay ux uy → unsigned_abs vx ≤ 2 ^ 21 → unsigned_abs vy ≤ 2 ^ 21 → unsigned_abs (cross_product ux uy vx vy) ≤ 2 ^ 54
across_within ux uy vx vy u p q =
    difference_within (ux *ℤ vy) (uy *ℤ vx) (2 ^ 53) (2 ^ 53) (product_within ux vy (2 ^ 32) (2 ^ 21) (omega arith) q) (product_within uy vx (2 ^ 32) (2 ^ 21) (omega arith) p)

pub across_square_fits : (c : ℤ) → unsigned_abs c ≤ 2 ^ 54 → FitsSigned w128 (c *ℤ c)
across_square_fits c h = fits_within (c *ℤ c) (2 ^ 108) (product_within c c (2 ^ 54) (2 ^ 54) h h) (omega arith)

pub length_within : (vx vy : ℤ) → unsigned_abs vx ≤ 2 ^ 21 → unsigned_abs vy ≤ 2 ^ 21 → unsigned_abs (squared_length vx vy) ≤ 2 ^ 43
length_within vx vy p q =
    sum_within (vx *ℤ vx) (vy *ℤ vy) (2 ^ 42) (2 ^ 42) (product_within vx vx (2 ^ 21) (2 ^ 21) p p) (product_within vy vy (2 ^ 21) (2 ^ 21) q q)

pub reach_times_fits : (feet : ℕ) (length : ℤ) → feet < 2 ^ 32 → unsigned_abs length ≤ 2 ^ 43 → FitsSigned w128 (pos (feet * feet) *ℤ length)
reach_times_fits feet length small h =
    fits_within (pos (feet * feet) *ℤ length) (2 ^ 107) (product_within (pos (feet * feet)) length (2 ^ 64) (2 ^ 43) (square_small feet small) h) (omega arith)

pub side_decided : (feet : ℕ) (ux uy vx vy along length across r s : ℤ) → feet < 2 ^ 32 → r ≡ pos feet → s ≡ pos feet
    → IsWay ux uy → unsigned_abs vx ≤ 2 ^ 21 → unsigned_abs vy ≤ 2 ^ 21 → along ≡ dot_product ux uy vx vy
    → length ≡ squared_length vx vy → across ≡ cross_product ux uy vx vy → pos 0 <ℤ along → along <ℤ length
    → FitsSigned w128 length → FitsSigned w128 across → IsTrue
    (le_z (read (read across *ℤ read across)) (read (read (read r *ℤ read s) *ℤ read length)))
    ↔ IsNearParts feet ux uy vx vy
side_decided feet ux uy vx vy along length across r s small r_is s_is u vx_small vy_small along_is length_is across_is after before length_fits across_fits =
    let here : pos 0 <ℤ dot_product ux uy vx vy = subst (λ (k : ℤ). pos 0 <ℤ k) along_is after in
    let there : dot_product ux uy vx vy <ℤ squared_length vx vy = subst (λ (k : ℤ). k <ℤ squared_length vx vy) along_is (subst (λ (k : ℤ). along <ℤ k) length_is before) in
    let near = near_side feet ux uy vx vy here there in
    let left_small : unsigned_abs across ≤ 2 ^ 54 = subst (λ (k : ℤ). unsigned_abs k ≤ 2 ^ 54) (sym across_is) (across_within ux uy vx vy u vx_small vy_small) in
    let right_small : unsigned_abs length ≤ 2 ^ 43 = subst (λ (k : ℤ). unsigned_abs k ≤ 2 ^ 43) (sym length_is) (length_within vx vy vx_small vy_small) in
    let left_fits = across_square_fits across left_small in
    let right_fits = reach_times_fits feet length small right_small in
    let left_is : read across *ℤ read across ≡ across *ℤ across = ap (λ k. k *ℤ k) (read_is across across_fits) in
    let right_is : read (read (read r *ℤ read s) *ℤ read length) ≡ pos (feet * feet) *ℤ length =
    ap (λ k. read (k *ℤ read length)) (reach_is feet r s small r_is s_is) ∙ ap (λ k. read (pos (feet * feet) *ℤ k)) (read_is length length_fits) ∙ read_is (pos (feet * feet) *ℤ length) right_fits
    in
    let test = test_is (across *ℤ across) (pos (feet * feet) *ℤ length) _ left_fits right_fits right_is in
    let as_made : (read (across *ℤ across) ≡ read (read across *ℤ read across)) = ap read (sym left_is) in
    let whole = subst (λ (k : ℤ). IsTrue (le_z k (read (read (read r *ℤ read s) *ℤ read length))) ↔ ((across *ℤ across) ≤ℤ (pos (feet * feet) *ℤ length))) as_made test in
    let same_left : cross_product ux uy vx vy *ℤ cross_product ux uy vx vy ≡ across *ℤ across = ap (λ k. k *ℤ k) (sym across_is) in
    let same_right : pos (feet * feet) *ℤ squared_length vx vy ≡ pos (feet * feet) *ℤ length = ap (λ k. pos (feet * feet) *ℤ k) (sym length_is) in
    both whole (subst (λ (k : ℤ). (k ≤ℤ (pos (feet * feet) *ℤ length)) ↔ IsNearParts feet ux uy vx vy) same_left
    (subst (λ (k : ℤ). ((cross_product ux uy vx vy *ℤ cross_product ux uy vx vy) ≤ℤ k)
    ↔ IsNearParts feet ux uy vx vy) same_right near))

-- what the code's tests of 64 bits say
pub not_above_zero : (a : ℤ) → FitsSigned w64 a → le_z (read64 a) (pos 0) ≡ true → a ≤ℤ pos 0
not_above_zero a f h = omega (arith, ints)

pub above_zero : (a : ℤ) → FitsSigned w64 a → le_z (read64 a) (pos 0) ≡ false → pos 0 <ℤ a
above_zero a f h = omega (arith, ints)

pub not_above : (a b : ℤ) → FitsSigned w64 a → FitsSigned w64 b → le_z (read64 a) (read64 b) ≡ true → a ≤ℤ b
not_above a b f g h = omega (arith, ints)

pub above : (a b : ℤ) → FitsSigned w64 a → FitsSigned w64 b → le_z (read64 a) (read64 b) ≡ false → b <ℤ a
above a b f g h = omega (arith, ints)
