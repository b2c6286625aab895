-- How far the numbers of days, minutes and fares reach.
use Rattle.std.specs.Prelude.{ℕ}

-- 2000-01-01, where 1970-01-01 is 0
abbrev pub first_day : ℕ
first_day = 10_957

-- 2099-12-31
abbrev pub last_day : ℕ
last_day = 47_481

-- 23:59
abbrev pub last_minute : ℕ
last_minute = 1_439

-- the most that each fare of a policy may be, in cents
abbrev pub highest_fare : ℕ
highest_fare = 100_000
