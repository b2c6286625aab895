-- Days by their number since 1 January 1970.
use Rattle.std.specs.Prelude.{ℕ, ◌+◌, ◌%◌, ◌≤◌, ◌⊎◌, ℤ, pos, ◌<ℤ◌}
use Rattle.pt_base_values.specs.Ranges.{first_day, last_day}

-- the day number lies in 2000-01-01 to 2099-12-31
abbrev pub IsDay : ℕ → Type 0
IsDay n = (first_day ≤ n) × (n ≤ last_day)

-- the day number lies before 2000-01-01 or after 2099-12-31
abbrev pub IsOutside : ℤ → Type 0
IsOutside number = (number <ℤ pos first_day) ⊎ (pos last_day <ℤ number)

-- days since Monday: day 0 was a Thursday
abbrev pub weekday_of : ℕ → ℕ
weekday_of n = (n + 3) % 7

-- a trip may be booked from the next day to fourteen days ahead (49 CFR 37.131(b))
abbrev pub IsBookable : ℕ → ℕ → Type 0
IsBookable today day = (today + 1 ≤ day) × (day ≤ today + 14)
