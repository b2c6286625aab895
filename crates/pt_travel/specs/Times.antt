-- The driving times of a closed table.
use Rattle.std.specs.Prelude.{ℕ, Option}
use Rattle.pt_travel.specs.declared.closed.Closed.{Closed}
use Rattle.pt_travel.specs.Places.{list_of}
use Rattle.pt_travel.specs.Closed.{minutes_between}

-- the minutes from one place to another in a closed table; None if there is no way within a day
abbrev pub time_in : Closed → ℕ → ℕ → Option ℕ
time_in closed from to = minutes_between (list_of closed.places) closed.lines.items from to
