-- Which trips the conditions of a grant cover (49 CFR 37.123(b), (e)).
use Rattle.std.specs.Prelude.{ℕ, pos, List, ◌⊎◌, IsTrue, All, Any, Contains}
use Rattle.pt_corridor.specs.DateText.{IsInMonth}
use Rattle.pt_corridor.specs.Place.{Place}
use Rattle.pt_corridor.specs.Point.{Point}
use Rattle.pt_corridor.specs.Near.{IsNearLine}
use Rattle.pt_corridor.specs.Route.{FixedRoute}
use Rattle.pt_corridor.specs.Corridor.{IsRunning, Joins}
use Rattle.pt_rights_files.specs.Months.{numbers_of}
use Rattle.pt_rights_files.specs.declared.conditions.Condition.{Condition}
use Rattle.pt_rights_files.specs.declared.conditions.Condition.TheVariants as condition

-- the day is in one of the months
abbrev pub IsInMonths : List ℕ → ℕ → Type 0
IsInMonths months day = (month : ℕ) × Contains months month × IsInMonth (pos day) month

-- every route that runs then is farther than this many feet from the point, whether or not the place is in a core
-- area
abbrev pub IsFarther : List FixedRoute → ℕ → ℕ → ℕ → Point → Type 0
IsFarther routes day minute feet point =
    All (λ route. IsRunning day minute route → ¬ IsNearLine feet point route.points) routes

-- some route with accessible vehicles runs then and has both places in its corridor
abbrev pub HasLift : List FixedRoute → ℕ → ℕ → Place → Place → Type 0
HasLift routes day minute from to =
    Any (λ route. IsTrue route.accessible × Joins from to day minute route) routes

-- the condition holds for a trip at that day and minute between the two places
abbrev pub HoldsFor : List FixedRoute → ℕ → ℕ → Place → Place → Condition → Type 0
HoldsFor routes day minute from to condition.Always = Unit {0}
HoldsFor routes day minute from to (condition.Months months) = IsInMonths (numbers_of months) day
HoldsFor routes day minute from to (condition.Farther feet) =
    IsFarther routes day minute feet from.at ⊎ IsFarther routes day minute feet to.at
HoldsFor routes day minute from to condition.NoLift = ¬ HasLift routes day minute from to

-- a trip qualifies if at least one of the listed conditions holds for it
abbrev pub Qualifies : List Condition → List FixedRoute → ℕ → ℕ → Place → Place → Type 0
Qualifies conditions routes day minute from to = Any (HoldsFor routes day minute from to) conditions
