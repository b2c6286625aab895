use Rattle.std.proofs.Common.{rules}
use Rattle.std.specs.Prelude.{IfSome}
use Rattle.pt_base_values.proofs.DayLemmas.{day_from-known, day_from-spelled}
use Rattle.pt_base_values.proofs.ReadLemmas.{read-known}
use Rattle.pt_base_values.specs.SpelledDay.{SpellsDay, day_from}
use Rattle.pt_base_values.proofs.day.day_from.Goals as goal

pub returns-clause-none : goal.returns-clause-none
returns-clause-none c = λ none day spelled.
    let read = c.parse.ensures.read day spelled.0 spelled.1 in
    let some = rw read at c.ok.ensures.value in
    let wrong = rw some at none in
    cc

pub returns-clause-value : goal.returns-clause-value
returns-clause-value c =
    let text = c.args.text.now in
    let spelled : IfSome c.ok.result (λ day. SpellsDay c.args.text.now day) = search rules in
    read-known (day_from text) (SpellsDay text) (day_from-known text) (day_from-spelled text) c.ok.result spelled
    (returns-clause-none c)
