use Rattle.std.proofs.Common.{ℕ, List, ◌∙◌, ◌∷◌, ◌++◌, [], ap, sym, get_or, length, arith, append_assoc}
use Rattle.pt_audit.specs.Text.{words_of}
use Rattle.pt_audit.proofs.reading.first_line.Goals as goal

pub returns-in_err-line-clause-none : goal.returns-in_err-line-clause-none
returns-in_err-line-clause-none c = λ _ line more in_form is. c.in_err-line.ensures.all line more in_form (is ∙ append_assoc (words_of line) (10 ∷ []) more)

pub returns-in_err-end-clause-none : goal.returns-in_err-end-clause-none
returns-in_err-end-clause-none c = λ _ line more in_form is.
    let read = c.in_ok-line.ensures.all line more in_form (is ∙ append_assoc (words_of line) (10 ∷ []) more) in
    omega (arith, c.in_err-end.ensures.cases, ap length read.1)

pub returns-then-end-ne10-clause-none : goal.returns-then-end-ne10-clause-none
returns-then-end-ne10-clause-none c = λ _ line more in_form is.
    let read = c.in_ok-line.ensures.all line more in_form (is ∙ append_assoc (words_of line) (10 ∷ []) more) in
    omega (arith, c.if-end-ne10.true, ap (λ t. get_or t 0 0) (sym c.in_ok-end.ensures.cases.0 ∙ read.1))

pub returns-clause-line : goal.returns-clause-line
returns-clause-line c = (
  c.in_ok-line.ensures.line.0,
  c.in_ok-line.ensures.line.1
      ∙ ap (λ (t : List ℕ). words_of c.in_ok-line.line ++ t) (c.in_ok-end.ensures.cases.0 ∙ ap (λ (x : ℕ). x ∷ c.in_ok-end.after.now) c.if-end-ne10.false)
      ∙ sym (append_assoc (words_of c.in_ok-line.line) (10 ∷ []) c.in_ok-end.after.now),
)
