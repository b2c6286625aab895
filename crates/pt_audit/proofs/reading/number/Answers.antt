use Rattle.std.proofs.Common.{◌+◌, ◌∷◌, ◌++◌, ℕ, length, decimal, drop, get_or, ap, sym, ◌∙◌, arith}
use Rattle.pt_audit.proofs.NumberLemmas.{first_number, zero_number, zero_spelled, number_spelled, some_digit, if_some}
use Rattle.pt_audit.proofs.reading.number.Goals as goal

pub returns-in_err-space-clause-all : goal.returns-in_err-space-clause-all
returns-in_err-space-clause-all c = λ n more small ends is. absurd (omega (arith, c.in_err-space.ensures.cases, ap length is))

pub returns-then-space-ne32-clause-all : goal.returns-then-space-ne32-clause-all
returns-then-space-ne32-clause-all c = λ n more small ends is. absurd (omega (arith, c.if-space-ne32.true, ap (λ t. get_or t 0 0) (sym c.in_ok-space.ensures.cases.0 ∙ is)))

pub returns-in_err-first-clause-all : goal.returns-in_err-first-clause-all
returns-in_err-first-clause-all c = λ n more small ends is.
    absurd (some_digit n c.in_ok-space.digits.now more small c.in_err-first.ensures.none (ap (drop 1) (sym c.in_ok-space.ensures.cases.0 ∙ is)))

pub returns-then-first-eq0-clause-number : goal.returns-then-first-eq0-clause-number
returns-then-first-eq0-clause-number c = (
  omega arith,
  zero_spelled c.args.text.now c.in_ok-space.digits.now c.in_ok-first.rest.now c.in_ok-space.space.now
      c.in_ok-first.first c.in_ok-space.ensures.cases.0 c.if-space-ne32.false c.in_ok-first.ensures.digit.1
      c.if-first-eq0.true,
)

pub returns-then-first-eq0-clause-all : goal.returns-then-first-eq0-clause-all
returns-then-first-eq0-clause-all c = λ n more small ends is.
    zero_number n c.in_ok-space.digits.now c.in_ok-first.rest.now more small (c.in_ok-first.ensures.digit.1 ∙ ap (λ (x : ℕ). (48 + x) ∷ c.in_ok-first.rest.now) c.if-first-eq0.true)
    (ap (drop 1) (sym c.in_ok-space.ensures.cases.0 ∙ is))

pub returns-clause-number : goal.returns-clause-number
returns-clause-number c = if_some c.with_digits.result _ _ c.with_digits.ensures.number
    (λ found holds. (
      holds.0,
      number_spelled c.args.text.now c.in_ok-space.digits.now c.in_ok-first.rest.now
          found.1.now c.in_ok-space.space.now c.in_ok-first.first c.from.result found.0 c.in_ok-space.ensures.cases.0
          c.if-space-ne32.false c.in_ok-first.ensures.digit.0 c.in_ok-first.ensures.digit.1 c.from.ensures holds.1,
    ))

pub returns-clause-all : goal.returns-clause-all
returns-clause-all c = λ n more small ends is.
    c.with_digits.ensures.all n more small ends
    (ap (λ (x : ℕ). decimal x ++ c.in_ok-first.rest.now) c.from.ensures
    ∙ first_number c.in_ok-first.first c.in_ok-space.digits.now c.in_ok-first.rest.now
    c.in_ok-first.ensures.digit.0 c.in_ok-first.ensures.digit.1
    ∙ ap (drop 1) (sym c.in_ok-space.ensures.cases.0 ∙ is))
