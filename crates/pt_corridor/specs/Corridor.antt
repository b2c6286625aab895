-- Where and when service is owed.
use Rattle.std.specs.Prelude.{ℕ, ◌≤◌, List, ◌⊎◌, IsTrue, Any}
use Rattle.pt_base_values.specs.Day.{weekday_of}
use Rattle.pt_base_values.specs.Weekday.{Includes}
use Rattle.pt_base_values.specs.declared.place.Place.{Place}
use Rattle.pt_corridor.specs.Near.{IsNearLine}
use Rattle.pt_corridor.specs.Route.{FixedRoute}

-- a place lies in a route's corridor if its point is within the route's width, or if it is in a core area that
-- corridors surround (49 CFR 37.131(a)(1)(i), (ii))
abbrev pub LiesInCorridor : Place → FixedRoute → Type 0
LiesInCorridor place route = IsNearLine route.width place.at route.points ⊎ IsTrue place.core

-- the route runs on that weekday, and the minute lies from its first to its last, both included (49 CFR 37.131(e))
pub record IsRunning (day minute : ℕ) (route : FixedRoute) : Type 0 where
  pub weekday : Includes route.days (weekday_of day)
  pub begun : route.first ≤ minute
  pub not_ended : minute ≤ route.last

-- service is owed at the place: it lies in the corridor of some route
abbrev pub IsServed : List FixedRoute → Place → Type 0
IsServed routes place = Any (LiesInCorridor place) routes

-- service is owed at the place at that time: it lies in the corridor of some route that runs then
abbrev pub IsServedAt : List FixedRoute → Place → ℕ → ℕ → Type 0
IsServedAt routes place day minute = Any (λ route. IsRunning day minute route × LiesInCorridor place route) routes

-- the route runs then and has both places in its corridor
pub record Joins (from to : Place) (day minute : ℕ) (route : FixedRoute) : Type 0 where
  pub running : IsRunning day minute route
  pub from_inside : LiesInCorridor from route
  pub to_inside : LiesInCorridor to route

-- some one route joins the two places then, so that no transfer is needed between them
abbrev pub HasOneRoute : List FixedRoute → Place → Place → ℕ → ℕ → Type 0
HasOneRoute routes from to day minute = Any (Joins from to day minute) routes
