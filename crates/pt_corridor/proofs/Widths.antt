-- The products of ways fit 128 bits, and 64 where one way lies on the plane.
use Rattle.std.proofs.Common.{◌≡◌, ℕ, ◌+◌, ◌*◌, ◌<◌, ◌≤◌, ◌^◌, ◌↔◌, IsTrue, arith, ℤ, ◌+ℤ◌, ◌-ℤ◌, ◌*ℤ◌, ◌≤ℤ◌, unsigned_abs, FitsSigned, to_z, of_z}
use Rattle.std.proofs.lemmas.Int.{ints, unsigned_abs-mul, fits_signed_from_abs, to_z-of_z}
use Rattle.std.proofs.lemmas.Nat.{mul-le}
use Rattle.pt_corridor.specs.Way.{IsWay, IsWayOnPlane, dot_product, cross_product}
use mir.Syntax.{w64, w128}
use lib.Signed.{le_z}

-- a product is no larger than the bounds of its factors
pub product_within : (a b : ℤ) (m n : ℕ) → unsigned_abs a ≤ m → unsigned_abs b ≤ n → unsigned_abs (a *ℤ b) ≤ m * n
product_within a b m n p q = rw (unsigned_abs-mul a b) (mul-le (unsigned_abs a) (unsigned_abs b) m n p q)

pub sum_within : (a b : ℤ) (m n : ℕ) → unsigned_abs a ≤ m → unsigned_abs b ≤ n → unsigned_abs (a +ℤ b) ≤ m + n
sum_within a b m n p q = omega (arith, ints)

pub difference_within : (a b : ℤ) (m n : ℕ) → unsigned_abs a ≤ m → unsigned_abs b ≤ n → unsigned_abs (a -ℤ b) ≤ m + n
difference_within a b m n p q = omega (arith, ints)

-- a number that is small enough fits
pub fits_within : (z : ℤ) (m : ℕ) → unsigned_abs z ≤ m → m < 2 ^ 127 → FitsSigned w128 z
fits_within z m p q = fits_signed_from_abs w128 z (omega arith)

-- a number as the code reads it back from its bits
abbrev pub read : ℤ → ℤ
read z = to_z w128 (of_z w128 z)

-- of two numbers that fit, the code's test is the order
test_of : (a b : ℤ) → IsTrue (le_z a b) ↔ (a ≤ℤ b)
test_of a b = (λ h. omega (arith, ints), λ h. grind (arith, ints))

pub at_most_is : (a b : ℤ) → FitsSigned w128 a → FitsSigned w128 b → IsTrue (le_z (read a) (read b)) ↔ (a ≤ℤ b)
at_most_is a b f g = simp to_z-of_z (test_of a b)

-- a number as the code reads it back from 64 bits
abbrev pub read64 : ℤ → ℤ
read64 z = to_z w64 (of_z w64 z)

pub narrow : (z : ℤ) (m : ℕ) → unsigned_abs z ≤ m → m < 2 ^ 63 → FitsSigned w64 z
narrow z m p q = fits_signed_from_abs w64 z (omega arith)

pub read64_is : (z : ℤ) → FitsSigned w64 z → read64 z ≡ z
read64_is z f = to_z-of_z w64 z f

-- the products of the parts of a way and of one on the plane
record Narrow (z : ℤ) : Type 0 where
  fits : FitsSigned w64 z
  within : unsigned_abs z ≤ 2 ^ 53

narrow_product : (a b : ℤ) → unsigned_abs a < 2 ^ 32 → unsigned_abs b ≤ 2 ^ 21 → Narrow (a *ℤ b)
narrow_product a b p q =
    let within = product_within a b (2 ^ 32) (2 ^ 21) (omega arith) q in
    record { fits = narrow (a *ℤ b) (2 ^ 32 * 2 ^ 21) within (omega arith); within = omega arith }

pub along_fits : (ux uy vx vy : ℤ) → IsWay ux uy → IsWay vx vy → IsWayOnPlane vx vy → FitsSigned w64 (read64 (read64 ux *ℤ read64 vx) +ℤ read64 (read64 uy *ℤ read64 vy))
along_fits ux uy vx vy u v on =
    let a = narrow ux (2 ^ 32) (omega (arith, u.0)) (omega arith) in
    let b = narrow uy (2 ^ 32) (omega (arith, u.1)) (omega arith) in
    let c = narrow vx (2 ^ 32) (omega (arith, v.0)) (omega arith) in
    let d = narrow vy (2 ^ 32) (omega (arith, v.1)) (omega arith) in
    let east = narrow_product ux vx u.0 on.0 in
    let north = narrow_product uy vy u.1 on.1 in
    let p = east.fits in
    let q = north.fits in
    simp to_z-of_z (narrow _ (2 ^ 53 + 2 ^ 53) (sum_within (ux *ℤ vx) (uy *ℤ vy) (2 ^ 53) (2 ^ 53) east.within north.within) (omega arith))

pub along_is : (ux uy vx vy : ℤ) → IsWay ux uy → IsWay vx vy → IsWayOnPlane vx vy → read64 (read64 (read64 ux *ℤ read64 vx) +ℤ read64 (read64 uy *ℤ read64 vy)) ≡ dot_product ux uy vx vy
along_is ux uy vx vy u v on =
    let a = narrow ux (2 ^ 32) (omega (arith, u.0)) (omega arith) in
    let b = narrow uy (2 ^ 32) (omega (arith, u.1)) (omega arith) in
    let c = narrow vx (2 ^ 32) (omega (arith, v.0)) (omega arith) in
    let d = narrow vy (2 ^ 32) (omega (arith, v.1)) (omega arith) in
    let p = (narrow_product ux vx u.0 on.0).fits in
    let q = (narrow_product uy vy u.1 on.1).fits in
    let whole = along_fits ux uy vx vy u v on in
    let bare : FitsSigned w64 (ux *ℤ vx +ℤ uy *ℤ vy) = simp to_z-of_z at whole in
    simp to_z-of_z

pub across_fits : (ux uy vx vy : ℤ) → IsWay ux uy → IsWay vx vy → IsWayOnPlane vx vy → FitsSigned w64 (read64 (read64 ux *ℤ read64 vy) -ℤ read64 (read64 uy *ℤ read64 vx))
across_fits ux uy vx vy u v on =
    let a = narrow ux (2 ^ 32) (omega (arith, u.0)) (omega arith) in
    let b = narrow uy (2 ^ 32) (omega (arith, u.1)) (omega arith) in
    let c = narrow vx (2 ^ 32) (omega (arith, v.0)) (omega arith) in
    let d = narrow vy (2 ^ 32) (omega (arith, v.1)) (omega arith) in
    let east = narrow_product ux vy u.0 on.1 in
    let north = narrow_product uy vx u.1 on.0 in
    let p = east.fits in
    let q = north.fits in
    simp to_z-of_z (narrow _ (2 ^ 53 + 2 ^ 53) (difference_within (ux *ℤ vy) (uy *ℤ vx) (2 ^ 53) (2 ^ 53) east.within north.within) (omega arith))

pub across_is : (ux uy vx vy : ℤ) → IsWay ux uy → IsWay vx vy → IsWayOnPlane vx vy → read64 (read64 (read64 ux *ℤ read64 vy) -ℤ read64 (read64 uy *ℤ read64 vx)) ≡ cross_product ux uy vx vy
across_is ux uy vx vy u v on =
    let a = narrow ux (2 ^ 32) (omega (arith, u.0)) (omega arith) in
    let b = narrow uy (2 ^ 32) (omega (arith, u.1)) (omega arith) in
    let c = narrow vx (2 ^ 32) (omega (arith, v.0)) (omega arith) in
    let d = narrow vy (2 ^ 32) (omega (arith, v.1)) (omega arith) in
    let p = (narrow_product ux vy u.0 on.1).fits in
    let q = (narrow_product uy vx u.1 on.0).fits in
    let whole = across_fits ux uy vx vy u v on in
    let bare : FitsSigned w64 (ux *ℤ vy -ℤ uy *ℤ vx) = simp to_z-of_z at whole in
    simp to_z-of_z
