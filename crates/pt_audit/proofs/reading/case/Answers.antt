use Rattle.std.proofs.Common.{◌≡◌, ◌++◌, ℕ, drop, ap, sym, ◌∙◌}
use Rattle.pt_audit.specs.declared.line.Line.TheVariants.{Case}
use Rattle.pt_audit.specs.Text.{number_text}
use Rattle.pt_audit.proofs.TextLemmas.{three_parts, three_line, space_ends}
use Rattle.pt_audit.proofs.reading.case.Goals as goal

pub returns-in_err-after_case-clause-all : goal.returns-in_err-after_case-clause-all
returns-in_err-after_case-clause-all c = λ line more in_form three ends is.
    let parts = three_parts line c.args.text.now more in_form three is in
    absurd (c.in_err-after_case.ensures.none (number_text parts.v ++ (number_text parts.i ++ (number_text parts.j ++ more))) parts.stands)

pub returns-in_err-vehicle-clause-all : goal.returns-in_err-vehicle-clause-all
returns-in_err-vehicle-clause-all c = λ line more in_form three ends is.
    let parts = three_parts line c.args.text.now more in_form three is in
    let stands = ap (drop 4) (sym c.in_ok-after_case.ensures.some ∙ parts.stands) in
    absurd (c.in_err-vehicle.ensures.all parts.v (number_text parts.i ++ (number_text parts.j ++ more)) parts.first (space_ends parts.i (number_text parts.j ++ more)) stands)

pub returns-in_err-i-clause-all : goal.returns-in_err-i-clause-all
returns-in_err-i-clause-all c = λ line more in_form three ends is.
    let parts = three_parts line c.args.text.now more in_form three is in
    let stands = ap (drop 4) (sym c.in_ok-after_case.ensures.some ∙ parts.stands) in
    let first = c.in_ok-vehicle.ensures.all parts.v (number_text parts.i ++ (number_text parts.j ++ more)) parts.first (space_ends parts.i (number_text parts.j ++ more)) stands in
    absurd (c.in_err-i.ensures.all parts.i (number_text parts.j ++ more) parts.second (space_ends parts.j more) first.1)

pub returns-in_err-j-clause-all : goal.returns-in_err-j-clause-all
returns-in_err-j-clause-all c = λ line more in_form three ends is.
    let parts = three_parts line c.args.text.now more in_form three is in
    let stands = ap (drop 4) (sym c.in_ok-after_case.ensures.some ∙ parts.stands) in
    let first = c.in_ok-vehicle.ensures.all parts.v (number_text parts.i ++ (number_text parts.j ++ more)) parts.first (space_ends parts.i (number_text parts.j ++ more)) stands in
    let second = c.in_ok-i.ensures.all parts.i (number_text parts.j ++ more) parts.second (space_ends parts.j more) first.1 in
    absurd (c.in_err-j.ensures.all parts.j more parts.third ends second.1)

pub returns-clause-line : goal.returns-clause-line
returns-clause-line c =
    three_line c.in_ok-vehicle.vehicle c.in_ok-i.i c.in_ok-j.j c.args.text.now c.in_ok-after_case.field-0.now c.in_ok-vehicle.rest.now c.in_ok-i.rest.now c.in_ok-j.rest.now
    c.in_ok-after_case.ensures.some c.in_ok-vehicle.ensures.number c.in_ok-i.ensures.number c.in_ok-j.ensures.number

pub returns-clause-all : goal.returns-clause-all
returns-clause-all c = λ line more in_form three ends is.
    let parts = three_parts line c.args.text.now more in_form three is in
    let stands = ap (drop 4) (sym c.in_ok-after_case.ensures.some ∙ parts.stands) in
    let first = c.in_ok-vehicle.ensures.all parts.v (number_text parts.i ++ (number_text parts.j ++ more)) parts.first (space_ends parts.i (number_text parts.j ++ more)) stands in
    let second = c.in_ok-i.ensures.all parts.i (number_text parts.j ++ more) parts.second (space_ends parts.j more) first.1 in
    let third = c.in_ok-j.ensures.all parts.j more parts.third ends second.1 in
    let same : Case c.in_ok-vehicle.vehicle c.in_ok-i.i c.in_ok-j.j ≡ line =
    ap (λ (x : ℕ). Case x c.in_ok-i.i c.in_ok-j.j) first.0 ∙ ap (λ (x : ℕ). Case parts.v x c.in_ok-j.j) second.0 ∙ ap (λ (x : ℕ). Case parts.v parts.i x) third.0 ∙ sym parts.is in
    (same, third.1)
