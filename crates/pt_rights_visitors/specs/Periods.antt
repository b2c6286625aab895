-- The days of a visitor's trips and their periods of 365 days (49 CFR 37.127(e)).
use Rattle.std.specs.Prelude.{ℕ, ◌+◌, ◌≤◌, Bool, not, ◌&&◌, List, ◌∷◌, nat_eq, nat_le, nat_lt}
use Rattle.std.specs.List.{Contains, count_by, filter}

-- the set of the uses with one more day in it, each day once
abbrev pub days_with : List ℕ → ℕ → List ℕ
days_with uses day = day ∷ filter (λ used. not (nat_eq used day)) uses

-- the day is the least of the days that are not below the bound
pub record IsLeastFrom (days : List ℕ) (bound day : ℕ) : Type 0 where
  pub member : Contains days day
  pub from : bound ≤ day
  pub least : (other : ℕ) → Contains days other → bound ≤ other → day ≤ other

-- The opening days are a chain. The first is the least of all the days; each next one is the least day that is 365
-- days or more after the one before.
pub data IsOpening (days : List ℕ) : ℕ → Type 0 where
  first : (opening : ℕ) → IsLeastFrom days 0 opening → IsOpening days opening
  next : (former opening : ℕ) → IsOpening days former → IsLeastFrom days (former + 365) opening → IsOpening days opening

-- the period of a day is opened by the last opening day that is not after it
pub record OpensPeriodOf (days : List ℕ) (day opening : ℕ) : Type 0 where
  pub opens : IsOpening days opening
  pub begun : opening ≤ day
  pub greatest : (other : ℕ) → IsOpening days other → other ≤ day → other ≤ opening

-- the day is one of the 365 days from the opening day on
abbrev pub is_in_period : ℕ → ℕ → Bool
is_in_period opening day = nat_le opening day && nat_lt day (opening + 365)

-- how many of the days lie in the period
abbrev pub days_of_period : ℕ → List ℕ → ℕ
days_of_period opening days = count_by (is_in_period opening) days

-- the most days of a period on which a visitor may ride (49 CFR 37.127(e))
abbrev pub most_days : ℕ
most_days = 21

-- a visitor may use the day if its period has at most that many days of use, this day included
abbrev pub MayUse : List ℕ → ℕ → Type 0
MayUse uses day =
    (opening : ℕ) × OpensPeriodOf (days_with uses day) day opening × (days_of_period opening (days_with uses day) ≤ most_days)
