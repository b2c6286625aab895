use Rattle.std.proofs.Common.{◌≡◌, None, Some, ap, sym, ◌∙◌, arith, length, length-append}
use Rattle.std.proofs.lemmas.Option.{same_Some}
use Rattle.pt_audit.specs.Letters.{line_with_one}
use Rattle.pt_audit.specs.Text.{words_of}
use Rattle.pt_audit.proofs.TextLemmas.{some_word, one_line, one_parts}
use Rattle.pt_audit.proofs.reading.with_one.Goals as goal

pub returns-in_err-letter-clause-all : goal.returns-in_err-letter-clause-all
returns-in_err-letter-clause-all c = λ line more in_form one ends is. absurd (omega (arith, c.in_err-letter.ensures.cases, ap length is, length-append (words_of line) more, some_word line))

pub returns-in_err-k-clause-all : goal.returns-in_err-k-clause-all
returns-in_err-k-clause-all c = λ line more in_form one ends is.
    let parts = one_parts line c.in_ok-letter.letter.now c.args.text.now c.in_ok-letter.rest.now more in_form one is c.in_ok-letter.ensures.cases.0 in
    absurd (c.in_err-k.ensures.all parts.k more parts.small ends parts.stands)

pub returns-in_err-line-clause-all : goal.returns-in_err-line-clause-all
returns-in_err-line-clause-all c = λ line more in_form one ends is.
    let parts = one_parts line c.in_ok-letter.letter.now c.args.text.now c.in_ok-letter.rest.now more in_form one is c.in_ok-letter.ensures.cases.0 in
    let read = c.in_ok-k.ensures.all parts.k more parts.small ends parts.stands in
    let gives : c.line_with_one.result ≡ Some line = c.line_with_one.ensures ∙ ap (line_with_one c.in_ok-letter.letter.now) read.0 ∙ parts.makes in
    (let none : c.line_with_one.result ≡ None = c.in_err-line.was in absurd (cc))

pub returns-clause-line : goal.returns-clause-line
returns-clause-line c =
    one_line c.in_ok-line.line c.in_ok-letter.letter.now c.in_ok-k.k c.args.text.now c.in_ok-letter.rest.now c.in_ok-k.rest.now
    c.in_ok-letter.ensures.cases.0 c.in_ok-k.ensures.number.0 c.in_ok-k.ensures.number.1 (sym c.line_with_one.ensures ∙ c.in_ok-line.was)

pub returns-clause-all : goal.returns-clause-all
returns-clause-all c = λ line more in_form one ends is.
    let parts = one_parts line c.in_ok-letter.letter.now c.args.text.now c.in_ok-letter.rest.now more in_form one is c.in_ok-letter.ensures.cases.0 in
    let read = c.in_ok-k.ensures.all parts.k more parts.small ends parts.stands in
    let gives = c.line_with_one.ensures ∙ ap (line_with_one c.in_ok-letter.letter.now) read.0 ∙ parts.makes in
    (same_Some c.in_ok-line.line line (sym c.in_ok-line.was ∙ gives), read.1)
