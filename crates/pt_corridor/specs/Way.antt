-- Ways from one point to another, in feet east and north.
use Rattle.std.specs.Prelude.{◌<◌, ◌≤◌, ◌^◌, ℤ, ◌+ℤ◌, ◌-ℤ◌, ◌*ℤ◌, unsigned_abs}

-- the way lies between two points
abbrev pub IsWay : ℤ → ℤ → Type 0
IsWay east north = (unsigned_abs east < 2 ^ 32) × (unsigned_abs north < 2 ^ 32)

-- the way lies between two points of the plane
abbrev pub IsWayOnPlane : ℤ → ℤ → Type 0
IsWayOnPlane east north = (unsigned_abs east ≤ 2 ^ 21) × (unsigned_abs north ≤ 2 ^ 21)

-- how far one way goes along another, times the other's length
abbrev pub dot_product : ℤ → ℤ → ℤ → ℤ → ℤ
dot_product ux uy vx vy = ux *ℤ vx +ℤ uy *ℤ vy

-- how far one way goes across another, times the other's length
abbrev pub cross_product : ℤ → ℤ → ℤ → ℤ → ℤ
cross_product ux uy vx vy = ux *ℤ vy -ℤ uy *ℤ vx
