use Rattle.std.proofs.Common.{◌≡◌, ◌+◌, ◌*◌, Err, sym, ap, ◌∙◌, refl, subst, arith}
use Rattle.std.proofs.lemmas.Int.{ints}
use Rattle.jiff.specs.Words.{epoch_day, plain_zone}
use Rattle.pt_base_values.specs.Day.{IsOutside}
use Rattle.pt_base_values.specs.declared.fault.Cause.TheVariants as cause
use Rattle.pt_base_values.proofs.FaultLemmas.{fault-is, ok_is_no_fault}
use Rattle.pt_base_clock.specs.LocalTime.{IsLocalTime}
use Rattle.pt_base_clock.proofs.LocalTimeLemmas.{IsLocalTime-unique, IsLocalTime-inside}
use Rattle.pt_base_clock.proofs.local_time.now_in.Goals as goal

-- what the zone's clocks show, where the day is out of range
local_outside : (c : goal.After-of-in_default-day_of)
    → IsLocalTime c.args.zone.now c.args.instant.nanosecond (epoch_day c.date.result)
    (c.to_datetime-clock.result.time.hour * 60 + c.to_datetime-clock.result.time.minute)
local_outside c = record {
  zone = plain_zone c.in-Ok.zone;
  has_rule = c.in-Ok.ensures.value;
  clock = c.to_datetime-clock.result;
  shows = c.to_datetime-clock.ensures;
  of_day = ap epoch_day (sym c.date.ensures);
  of_minute = refl;
}

pub returns-in_default-day_of-clause-only : goal.returns-in_default-day_of-clause-only
returns-in_default-day_of-clause-only c = λ day minute in_range is.
    let outside = c.in_default-day_of.ensures.outside.0 refl in
    absurd (IsLocalTime-inside _ _ _ day minute _ in_range is (local_outside c) outside)

pub returns-in_default-day_of-clause-out_of_range : goal.returns-in_default-day_of-clause-out_of_range
returns-in_default-day_of-clause-out_of_range c =
    let of = c.of-in_default-day_of in (
      λ _. (epoch_day c.date.result, _, local_outside c, c.in_default-day_of.ensures.outside.0 refl),
      λ _. ap Err (fault-is of.result cause.DateOutOfRange of.ensures.code of.ensures.row),
    )

pub returns-clause-local : goal.returns-clause-local
returns-clause-local c = record {
  zone = plain_zone c.in-Ok.zone;
  has_rule = c.in-Ok.ensures.value;
  clock = c.to_datetime-clock.result;
  shows = c.to_datetime-clock.ensures;
  of_day = ap epoch_day (sym c.date.ensures) ∙ c.in-Some.ensures.value;
  of_minute = sym c.minute_of.ensures;
}

pub returns-clause-only : goal.returns-clause-only
returns-clause-only c = λ day minute in_range is.
    let same = IsLocalTime-unique _ _ _ _ _ _ (returns-clause-local c) is in
    let days : c.in-Some.day ≡ day = omega (arith, ints, same.0) in
    rw (days, same.1) refl

pub returns-clause-out_of_range : goal.returns-clause-out_of_range
returns-clause-out_of_range c = (
  λ same. absurd (ok_is_no_fault _ _ same),
  λ told. let days = (IsLocalTime-unique _ _ _ _ _ _ told.2 (returns-clause-local c)).0 in
      let none = c.in-Some.ensures.outside.1 (subst IsOutside (days ∙ sym c.in-Some.ensures.value) told.3) in
      absurd (cc),
)
