use Rattle.std.proofs.Common.{◌≡◌, subst}
use Rattle.pt_base_values.specs.SpelledDay.{SpellsDay}
use Rattle.pt_app_command_line.proofs.asked.day_at.Goals as goal

pub returns-clause-none : goal.returns-clause-none
returns-clause-none c = λ none day has.
    let same : has.0 ≡ c.in_ok-word_at.field-0.now = cc (has.1, c.in_ok-word_at.ensures) in
    c.day_from.ensures.none none day (subst (λ word. SpellsDay word day) same has.2)
