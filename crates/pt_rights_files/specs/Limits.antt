-- How much a case file holds, and the days of 49 CFR 37.125.
use Rattle.std.specs.Prelude.{ℕ}

-- the most entries of a case file
abbrev pub most_entries : ℕ
most_entries = 200

-- the most conditions of a grant
abbrev pub most_conditions : ℕ
most_conditions = 4

-- from a complete application to the presumption of eligibility (37.125(c))
abbrev pub days_to_presumption : ℕ
days_to_presumption = 21

-- from a decision to the last day for an appeal against it (37.125(g)(1))
abbrev pub days_to_appeal : ℕ
days_to_appeal = 60

-- from the hearing of an appeal to the day on which it is overdue (37.125(g)(3))
abbrev pub days_to_decide : ℕ
days_to_decide = 30

-- from the first day of a suspension to its last, at most
abbrev pub days_after_first : ℕ
days_after_first = 29
