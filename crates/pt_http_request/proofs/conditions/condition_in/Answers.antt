use Rattle.std.proofs.Common.{rules}
use Rattle.pt_rights_conditions.specs.Texts.{SpellsCondition}
use Rattle.pt_base_values.proofs.ReadLemmas.{read-known}
use Rattle.pt_http_request.proofs.ConditionLemmas.{condition_from-known, condition_from-spelled}
use Rattle.pt_http_request.specs.Conditions.{condition_from}
use Rattle.pt_http_request.proofs.conditions.condition_in.Goals as goal

pub returns : goal.returns
returns c =
    let text = c.in_ok-as_str.field-0.now in
    let read = read-known (condition_from text) (SpellsCondition text) (condition_from-known text)
    (condition_from-spelled text)
    c.condition_from.result c.condition_from.ensures.spelled c.condition_from.ensures.none in
    search (rules, read)
