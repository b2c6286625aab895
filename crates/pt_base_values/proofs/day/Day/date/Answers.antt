use Rattle.std.proofs.Common.{◌≡◌, pos, arith}
use Rattle.std.proofs.lemmas.Int.{ints}
use Rattle.jiff_core.specs.Date.{epoch_day}
use Rattle.pt_base_values.proofs.CalendarLemmas.{epoch_day-four_digits}
use Rattle.pt_base_values.proofs.day.Day.date.Goals as goal

pub returns-clause-four_digits : goal.returns-clause-four_digits
returns-clause-four_digits c =
    let day : epoch_day c.from_days_since_min.result ≡ pos c.number.result = omega (arith, ints, c.from_days_since_min.ensures) in
    epoch_day-four_digits c.from_days_since_min.result c.number.result day
