use Rattle.std.proofs.Common.{refl, sym, ◌∙◌, subst}
use Rattle.pt_base_values.proofs.ReadLemmas.{error-from_none}
use Rattle.pt_base_values.specs.SpelledDay.{SpellsDay}
use Rattle.pt_http_rehearsal.specs.Moment.{AreParts}
use Rattle.pt_http_rehearsal.proofs.MomentLemmas.{moment_utf8, text_of_ok, parts_of_moment, parts_unique}
use Rattle.pt_http_rehearsal.proofs.moment.moment_from.Goals as goal

pub returns-in_err-text-clause-none : goal.returns-in_err-text-clause-none
returns-in_err-text-clause-none c = λ none day minute is.
    let refused = error-from_none c.from_utf8.result _ _ (sym c.ok.ensures.value ∙ c.in_err-text.was)
    c.from_utf8.ensures.cases in
    refused.1.0 (moment_utf8 c.args.line.now day minute is)

pub returns-in_err-date-clause-none : goal.returns-in_err-date-clause-none
returns-in_err-date-clause-none c = λ none day minute is.
    let same = (text_of_ok c.from_utf8.result c.in_ok-text.text _ _ (sym c.ok.ensures.value ∙ c.in_ok-text.was)
    c.from_utf8.ensures.cases).0 in
    let parts = subst (λ text. AreParts text is.date is.digits) (sym same)
    (parts_of_moment c.args.line.now day minute is) in
    c.in_err-date.ensures.none refl is.date is.digits parts

pub returns-in_err-day-clause-none : goal.returns-in_err-day-clause-none
returns-in_err-day-clause-none c = λ none day minute is.
    let same = (text_of_ok c.from_utf8.result c.in_ok-text.text _ _ (sym c.ok.ensures.value ∙ c.in_ok-text.was)
    c.from_utf8.ensures.cases).0 in
    let parts = subst (λ text. AreParts text is.date is.digits) (sym same)
    (parts_of_moment c.args.line.now day minute is) in
    let one = parts_unique c.in_ok-text.text.now is.date is.digits c.in_ok-date.date.now c.in_ok-date.digits.now parts
    c.in_ok-date.ensures.parts in
    c.in_err-day.ensures.none refl day (subst (λ date. SpellsDay date day) one.0 is.day_of_date)
