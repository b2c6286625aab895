-- Windows of a pickup, in minutes of the day.
use Rattle.std.specs.Prelude.{ℕ, ◌+◌, ◌-◌, max, min}
use Rattle.pt_base_values.specs.Ranges.{last_minute}
use Rattle.pt_base_values.specs.declared.window.Window.{Window}

-- How far from the wished minute a pickup may be planned: one hour, the most that 49 CFR 37.131(b)(2) allows an agency.
-- The desk uses all of it by our choice.
abbrev pub wished_leeway : ℕ
wished_leeway = 60

-- how far from the planned minute a pickup may come (our choice)
abbrev pub promised_leeway : ℕ
promised_leeway = 15

-- the wished window: an hour to each side of the wished minute, cut to the day
abbrev pub wished_window : ℕ → Window
wished_window wish = record { from = wish - wished_leeway; to = min (wish + wished_leeway) last_minute }

-- the promised window: 15 minutes to each side of the planned pickup, cut to the wished window
abbrev pub promised_window : Window → ℕ → Window
promised_window wished pickup = record {
  from = max (pickup - promised_leeway) wished.from;
  to = min (pickup + promised_leeway) wished.to;
}
