use Rattle.std.proofs.Common.{◌≡◌, None, map, rules}
use Rattle.serde_json.specs.View.{view}
use Rattle.pt_http_request.specs.Entries.{condition_in}
use Rattle.pt_http_request.specs.Routes.{each}
use Rattle.pt_http_request.proofs.SettingsLemmas.{each-none, read-all}
use Rattle.pt_http_request.proofs.ConditionLemmas.{few-read}
use Rattle.pt_http_request.proofs.conditions.conditions_from.Goals as goal

pub returns-in_err-condition_in : goal.returns-in_err-condition_in
returns-in_err-condition_in c =
    let no_condition : condition_in (view c.value-item.result) ≡ None = search rules in
    let none : each condition_in (map view c.args.list.now) ≡ None
    = each-none condition_in view c.args.list.now c.loop-value.value-index c.value-item.result c.loop-value-test.true
    c.value-item.is no_condition in
    search (rules, none)

pub returns : goal.returns
returns c =
    let all = read-all condition_in view c.args.list.now c.loop-value.value-index c.loop-value.members.items
    c.loop-value-test.false c.loop-value.invariant in
    search (rules, all, few-read)
