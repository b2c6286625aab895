-- The clocks of a zone show one minute of one day at an instant.
use Rattle.std.proofs.Common.{◌≡◌, ℕ, ◌+◌, ◌*◌, List, ℤ, pos, ◌+ℤ◌, inl, inr, sym, ap, ◌∙◌, subst, arith}
use Rattle.std.proofs.lemmas.Int.{ints}
use Rattle.jiff.proofs.Family.{same_datetime}
use Rattle.jiff.specs.Words.{epoch_day, nanos_of_seconds}
use Rattle.pt_base_values.specs.Day.{IsDay, IsOutside}
use Rattle.pt_base_clock.specs.LocalTime.{IsLocalTime}
use Rattle.pt_base_clock.proofs.ZoneLemmas.{offset_at-rule}

pub IsLocalTime-unique : (rule : List ℕ) (instant day day' : ℤ) (minute minute' : ℕ)
    → IsLocalTime rule instant day minute → IsLocalTime rule instant day' minute'
    → (day ≡ day') × (minute ≡ minute')
IsLocalTime-unique rule instant day day' minute minute' a b =
    let offsets = offset_at-rule rule a.zone b.zone instant a.has_rule b.has_rule in
    let clocks = same_datetime a.clock b.clock
    (a.shows ∙ ap (λ s. instant +ℤ nanos_of_seconds s) offsets ∙ sym b.shows) in (
      sym a.of_day ∙ ap (λ c. epoch_day c.date) clocks ∙ b.of_day,
      sym a.of_minute ∙ ap (λ c. c.time.hour * 60 + c.time.minute) clocks ∙ b.of_minute,
    )

not_outside : (day : ℕ) → IsDay day → IsOutside (pos day) → ⊥
not_outside day in_range (inl before) = omega (arith, ints)
not_outside day in_range (inr after) = omega (arith, ints)

-- clocks that show a day of 2000 to 2099 show none outside
pub IsLocalTime-inside : (rule : List ℕ) (instant day' : ℤ) (day minute minute' : ℕ)
    → IsDay day → IsLocalTime rule instant (pos day) minute
    → IsLocalTime rule instant day' minute' → IsOutside day' → ⊥
IsLocalTime-inside rule instant day' day minute minute' in_range a b outside =
    let days = (IsLocalTime-unique rule instant (pos day) day' minute minute' a b).0 in
    not_outside day in_range (subst IsOutside (sym days) outside)
