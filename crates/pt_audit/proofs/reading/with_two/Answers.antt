use Rattle.std.proofs.Common.{◌≡◌, ◌++◌, ℕ, None, Some, ap, sym, ◌∙◌, arith, length, length-append}
use Rattle.std.proofs.lemmas.Option.{same_Some}
use Rattle.pt_audit.specs.Letters.{line_with_two}
use Rattle.pt_audit.specs.Text.{words_of, number_text}
use Rattle.pt_audit.proofs.TextLemmas.{some_word, two_line, two_parts, space_ends}
use Rattle.pt_audit.proofs.reading.with_two.Goals as goal

pub returns-in_err-letter-clause-all : goal.returns-in_err-letter-clause-all
returns-in_err-letter-clause-all c = λ line more in_form two ends is. absurd (omega (arith, c.in_err-letter.ensures.cases, ap length is, length-append (words_of line) more, some_word line))

pub returns-in_err-k-clause-all : goal.returns-in_err-k-clause-all
returns-in_err-k-clause-all c = λ line more in_form two ends is.
    let parts = two_parts line c.in_ok-letter.letter.now c.args.text.now c.in_ok-letter.rest.now more in_form two is c.in_ok-letter.ensures.cases.0 in
    absurd (c.in_err-k.ensures.all parts.k (number_text parts.n ++ more) parts.small (space_ends parts.n more) parts.stands)

pub returns-in_err-n-clause-all : goal.returns-in_err-n-clause-all
returns-in_err-n-clause-all c = λ line more in_form two ends is.
    let parts = two_parts line c.in_ok-letter.letter.now c.args.text.now c.in_ok-letter.rest.now more in_form two is c.in_ok-letter.ensures.cases.0 in
    let first = c.in_ok-k.ensures.all parts.k (number_text parts.n ++ more) parts.small (space_ends parts.n more) parts.stands in
    absurd (c.in_err-n.ensures.all parts.n more parts.also_small ends first.1)

pub returns-in_err-line-clause-all : goal.returns-in_err-line-clause-all
returns-in_err-line-clause-all c = λ line more in_form two ends is.
    let parts = two_parts line c.in_ok-letter.letter.now c.args.text.now c.in_ok-letter.rest.now more in_form two is c.in_ok-letter.ensures.cases.0 in
    let first = c.in_ok-k.ensures.all parts.k (number_text parts.n ++ more) parts.small (space_ends parts.n more) parts.stands in
    let second = c.in_ok-n.ensures.all parts.n more parts.also_small ends first.1 in
    let gives : c.line_with_two.result ≡ Some line = c.line_with_two.ensures
    ∙ ap (λ (k : ℕ). line_with_two c.in_ok-letter.letter.now k c.in_ok-n.n) first.0
    ∙ ap (line_with_two c.in_ok-letter.letter.now parts.k) second.0 ∙ parts.makes in
    (let none : c.line_with_two.result ≡ None = c.in_err-line.was in absurd (cc))

pub returns-clause-line : goal.returns-clause-line
returns-clause-line c =
    two_line c.in_ok-line.line c.in_ok-letter.letter.now c.in_ok-k.k c.in_ok-n.n c.args.text.now c.in_ok-letter.rest.now c.in_ok-k.rest.now c.in_ok-n.rest.now
    c.in_ok-letter.ensures.cases.0 c.in_ok-k.ensures.number c.in_ok-n.ensures.number (sym c.line_with_two.ensures ∙ c.in_ok-line.was)

pub returns-clause-all : goal.returns-clause-all
returns-clause-all c = λ line more in_form two ends is.
    let parts = two_parts line c.in_ok-letter.letter.now c.args.text.now c.in_ok-letter.rest.now more in_form two is c.in_ok-letter.ensures.cases.0 in
    let first = c.in_ok-k.ensures.all parts.k (number_text parts.n ++ more) parts.small (space_ends parts.n more) parts.stands in
    let second = c.in_ok-n.ensures.all parts.n more parts.also_small ends first.1 in
    let gives = c.line_with_two.ensures ∙ ap (λ (k : ℕ). line_with_two c.in_ok-letter.letter.now k c.in_ok-n.n) first.0 ∙ ap (line_with_two c.in_ok-letter.letter.now parts.k) second.0 ∙ parts.makes in
    (same_Some c.in_ok-line.line line (sym c.in_ok-line.was ∙ gives), second.1)
