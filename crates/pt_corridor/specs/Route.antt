-- Fixed routes, and the faults for which one is refused.
use Rattle.std.specs.Prelude.{◌≡◌, ℕ, ◌≤◌, Bool, List, [], ◌∷◌, length, ◌⊎◌, All}
use Rattle.std.specs.Int.{IsInRange}
use Rattle.pt_base_values.specs.Fault.{code_of}
use Rattle.pt_base_values.specs.Place.{IsOnPlane}
use Rattle.pt_base_values.specs.declared.place.Point.{Point}
use Rattle.pt_base_values.specs.declared.fault.Cause.{Cause}
use Rattle.pt_base_values.specs.declared.fault.Cause.TheVariants as cause

-- A fixed route. `width` is how far its corridor reaches on each side, in feet. `days` says of each weekday, from
-- Monday on, whether it runs. `first` and `last` are minutes of the day.
pub record FixedRoute : Type 0 where
  pub id : ℕ
  pub width : ℕ
  pub points : List Point
  pub accessible : Bool
  pub days : List Bool
  pub first : ℕ
  pub last : ℕ

-- the route of these arguments
abbrev pub route_of : ℕ → ℕ → List Point → Bool → List Bool → ℕ → ℕ → FixedRoute
route_of id width points accessible days first last =
    record { id = id; width = width; points = points; accessible = accessible; days = days; first = first; last = last }

-- a line has 2 to 200 points
abbrev pub HasPoints : FixedRoute → Type 0
HasPoints route = IsInRange 2 200 (length route.points)

-- a corridor reaches three fourths of a mile to a mile and a half on each side (49 CFR 37.131(a)(1)(i), (iii))
abbrev pub HasWidth : FixedRoute → Type 0
HasWidth route = IsInRange 3_960 7_920 route.width

-- the whole line lies on the plane
abbrev pub IsRouteOnPlane : FixedRoute → Type 0
IsRouteOnPlane route = All (λ p. IsOnPlane p.x p.y) route.points

-- the route's first minute is not after its last
abbrev pub HasHours : FixedRoute → Type 0
HasHours route = route.first ≤ route.last

-- the limits that every fixed route meets
pub record IsFixedRoute (route : FixedRoute) : Type 0 where
  pub points : HasPoints route
  pub width : HasWidth route
  pub on_plane : IsRouteOnPlane route
  pub hours : HasHours route

-- the code is that of the first cause of the list whose condition holds
abbrev pub IsFirst : List (Cause × Type 0) → ℕ → Type 0
IsFirst [] code = ⊥
IsFirst (f ∷ later) code = ((code ≡ code_of f.0) × f.1) ⊎ (¬ f.1 × IsFirst later code)

-- the faults of a fixed route in the order in which they are tried
abbrev pub faults : FixedRoute → List (Cause × Type 0)
faults route =
    (cause.RoutePoints, ¬ HasPoints route) ∷ (cause.RouteWidth, ¬ HasWidth route)
    ∷ (cause.RouteCoordinate, ¬ IsRouteOnPlane route) ∷ (cause.RouteHours, ¬ HasHours route) ∷ []
