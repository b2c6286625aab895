use Rattle.std.proofs.Common.{◌∙◌, None, refl, sym, subst, arith}
use Rattle.std.specs.Prelude.{IsUtf8}
use Rattle.pt_rights_conditions.specs.Texts.{condition_text}
use Rattle.pt_desk_spelling.proofs.EntryLemmas.{condition-short}
use Rattle.pt_desk_spelling_reading.proofs.ConditionAscii.{condition-utf8}
use Rattle.pt_desk_spelling_reading.proofs.ReadingLemmas.{condition-found, some-same, none-found}
use Rattle.pt_desk_spelling_reading.proofs.entries.take_condition.Goals as goal

pub returns-in_err-bytes : goal.returns-in_err-bytes
returns-in_err-bytes c = λ condition later fits e.
    let short = condition-short condition fits in
    let text = c.in_err-bytes.ensures (condition_text condition) later (omega arith) e in
    absurd (none-found None (condition_text condition) refl text.0)

pub returns-in-Ok : goal.returns-in-Ok
returns-in-Ok c = λ condition later fits e.
    let short = condition-short condition fits in
    let text = c.in_ok-bytes.ensures (condition_text condition) later (omega arith) e in
    let same = c.in-Ok.ensures.cases.0 ∙ some-same _ (condition_text condition) text.0 in
    let from = c.condition_from.ensures in
    (condition-found c.condition_from.result c.in-Ok.text.now condition from.spelled from.none fits same, text.1)

pub returns-in-Err : goal.returns-in-Err
returns-in-Err c = λ condition later fits e.
    let short = condition-short condition fits in
    let text = c.in_ok-bytes.ensures (condition_text condition) later (omega arith) e in
    let same = some-same _ (condition_text condition) text.0 in
    absurd (c.in-Err.ensures.cases.0 (subst IsUtf8 (sym same) (condition-utf8 condition fits)))
