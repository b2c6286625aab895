use Rattle.std.proofs.Common.{◌++◌, ◌∙◌, ap}
use Rattle.pt_base_values.proofs.CalendarLemmas.{IsDateText-text}
use Rattle.pt_base_values.proofs.day.Day.write.Goals as goal

pub returns-clause-text : goal.returns-clause-text
returns-clause-text c =
    (c.spell.result, record { date = c.date.result; four_digits = c.date.ensures.four_digits; day = c.date.ensures.day; spelled = cc }, c.in_ok-extend_from_slice.ensures.items)

pub returns-clause-only : goal.returns-clause-only
returns-clause-only c text is =
    c.in_ok-extend_from_slice.ensures.items ∙ ap (λ t. c.args.out.now.items ++ t) (c.spell.ensures ∙ IsDateText-text c.date.result _ text c.date.ensures.day is)
