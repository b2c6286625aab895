use Rattle.std.proofs.Common.{List, Some, ap}
use Rattle.std.specs.List.{All}
use Rattle.pt_rights_files.specs.Conditions.{IsCondition, IsConditions}
use Rattle.pt_rights_files.specs.declared.conditions.Condition.{Condition}
use Rattle.pt_rights_files.specs.declared.entry.Grant.{Grant}
use Rattle.pt_desk_spelling.specs.Fields.{list_bytes}
use Rattle.pt_desk_spelling.specs.Requests.{condition_bytes}
use Rattle.pt_desk_spelling_reading.proofs.ReadingLemmas.{found-same, none-found, taken-whole}
use Rattle.pt_desk_spelling_reading.proofs.entries.grant_from.Goals as goal

pub returns-in_err-take_conditions : goal.returns-in_err-take_conditions
returns-in_err-take_conditions c = λ grant fits e.
    let until = c.take_day.ensures grant.until _ fits.until e in
    let conditions = taken-whole (list_bytes condition_bytes)
    (λ (x : List Condition). IsConditions x × All IsCondition x) _ _ c.take_conditions.result
    c.take_conditions.ensures grant.conditions (fits.number, fits.conditions) until.1 in
    absurd (none-found _ grant.conditions c.in_err-take_conditions.was conditions)

pub returns : goal.returns
returns c = λ grant fits e.
    let until = c.take_day.ensures grant.until _ fits.until e in
    let conditions = taken-whole (list_bytes condition_bytes)
    (λ (x : List Condition). IsConditions x × All IsCondition x) _ _ c.take_conditions.result
    c.take_conditions.ensures grant.conditions (fits.number, fits.conditions) until.1 in
    let same_until = found-same _ _ grant.until c.in_ok-take_day.was until.0 in
    let same_conditions = found-same _ _ grant.conditions c.in_ok-take_conditions.was conditions in
    ap (λ (g : Grant). Some g) (λ i. record { until = same_until i; conditions = same_conditions i })
