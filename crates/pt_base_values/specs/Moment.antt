-- Moments: a day and a minute of it, on the clocks of the agency's zone.
use Rattle.std.specs.Prelude.{ℕ}

abbrev pub Moment : Type 0
Moment = ℕ × ℕ
