use Rattle.std.proofs.Common.{◌+◌, ◌*◌, ℕ, length, ap, sym, refl, ◌∙◌, arith}
use Rattle.pt_audit.proofs.NumberLemmas.{longer_number, no_smaller, whole_number}
use Rattle.pt_audit.proofs.reading.with_digits.Goals as goal

pub returns-in_err-number-clause-all : goal.returns-in_err-number-clause-all
returns-in_err-number-clause-all c = λ n more small ends is.
    let longer : ℕ = c.loop-digit.number * 10 + c.in-Some.digit in
    let step = longer_number c.loop-digit.number c.in-Some.digit longer c.loop-digit.rest.now c.in-Some.after.now
    c.loop-digit.invariant.some (omega (arith, c.loop-digit.invariant.small)) c.in-Some.ensures.digit.0 refl
    c.in-Some.ensures.digit.1 in
    let fits = no_smaller longer n c.in-Some.after.now more (omega (arith, c.loop-digit.invariant.small, c.in-Some.ensures.digit.0)) small ends (sym step ∙ sym c.loop-digit.invariant.spelled ∙ is) in
    absurd (omega (arith, c.in_err-number.ensures.none, small, fits))

pub loop-digit-preserved : goal.loop-digit-preserved
loop-digit-preserved c =
    let step = longer_number c.loop-digit.number c.in-Some.digit c.in_ok-number.number c.loop-digit.rest.now
    c.in-Some.after.now c.loop-digit.invariant.some (omega (arith, c.loop-digit.invariant.small))
    c.in-Some.ensures.digit.0 c.in_ok-number.ensures.some.1 c.in-Some.ensures.digit.1 in
    record {
      some = omega (arith, c.loop-digit.invariant.some, c.in_ok-number.ensures.some.1);
      small = c.in_ok-number.ensures.some.0;
      spelled = c.loop-digit.invariant.spelled ∙ step;
    }

pub loop-digit-smaller : goal.loop-digit-smaller
loop-digit-smaller c = omega (arith, ap length c.in-Some.ensures.digit.1)

pub returns-clause-all : goal.returns-clause-all
returns-clause-all c = λ n more small ends is.
    whole_number c.loop-digit.number n c.loop-digit.rest.now more (omega (arith, c.loop-digit.invariant.small)) small ends c.in_default.ensures.none (sym c.loop-digit.invariant.spelled ∙ is)

pub returns-clause-number : goal.returns-clause-number
returns-clause-number c = (c.loop-digit.invariant.small, c.loop-digit.invariant.spelled)
