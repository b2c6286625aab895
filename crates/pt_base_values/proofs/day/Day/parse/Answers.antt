use Rattle.std.proofs.Common.{inl, inr, ap, refl, Err, arith}
use Rattle.std.proofs.lemmas.Int.{ints, to_z-of_z}
use Rattle.jiff_core.specs.Date.{epoch_day}
use Rattle.pt_base_values.specs.Day.{IsOutside}
use Rattle.pt_base_values.specs.DateText.{IsDateText}
use Rattle.pt_base_values.specs.declared.fault.Cause.TheVariants as cause
use Rattle.pt_base_values.proofs.FaultLemmas.{no_other_fault, fault-is, ok_is_no_fault}
use Rattle.pt_base_values.proofs.day.Day.parse.Goals as goal
use Rattle.pt_base_values.proofs.day.Day.parse.Goals.{then-number-via-then-number, then-number-via-else-number+then-number-2}

pub returns-then-number-clause-no_such_date : goal.returns-then-number-clause-no_such_date
returns-then-number-clause-no_such_date c =
    let is : IsDateText (epoch_day c.in-Some.date) c.args.text.now = record { date = c.in-Some.date; four_digits = c.in-Some.ensures.spelled.0; day = refl; spelled = c.in-Some.ensures.spelled.1 } in
    (λ same. absurd (no_other_fault c.of-then-number.result cause.DateOutOfRange cause.NoSuchDate c.of-then-number.ensures.code (omega arith) same), λ none. absurd (none (epoch_day c.in-Some.date) is))

pub returns-then-number-clause-out_of_range : goal.returns-then-number-clause-out_of_range
returns-then-number-clause-out_of_range c =
    let is : IsDateText (epoch_day c.in-Some.date) c.args.text.now = record { date = c.in-Some.date; four_digits = c.in-Some.ensures.spelled.0; day = refl; spelled = c.in-Some.ensures.spelled.1 } in
    let outside : IsOutside (epoch_day c.in-Some.date) = elim c.then-number.branch [
      | then-number-via-then-number w ↦ inl (grind (arith, ints, to_z-of_z))
      | then-number-via-else-number+then-number-2 w ↦ inr (grind (arith, ints, to_z-of_z))
    ] in
    (λ _. (epoch_day c.in-Some.date, is, outside), λ _. ap Err (fault-is c.of-then-number.result cause.DateOutOfRange c.of-then-number.ensures.code c.of-then-number.ensures.row))

pub returns-clause-date : goal.returns-clause-date
returns-clause-date c =
    record { date = c.in-Some.date; four_digits = c.in-Some.ensures.spelled.0; day = grind (arith, ints, to_z-of_z); spelled = c.in-Some.ensures.spelled.1 }

pub returns-clause-no_such_date : goal.returns-clause-no_such_date
returns-clause-no_such_date c =
    let is : IsDateText (epoch_day c.in-Some.date) c.args.text.now = record { date = c.in-Some.date; four_digits = c.in-Some.ensures.spelled.0; day = refl; spelled = c.in-Some.ensures.spelled.1 } in
    (λ same. absurd (ok_is_no_fault _ _ same), λ none. absurd (none (epoch_day c.in-Some.date) is))
