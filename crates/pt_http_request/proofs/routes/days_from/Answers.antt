use Rattle.std.proofs.Common.{◌≡◌, None, [], ◌∷◌, ◌++◌, Some, map, ap, sym, rules, ◌∙◌}
use Rattle.std.specs.Prelude.{option_map}
use Rattle.pt_base_values.specs.Weekday.{number_of}
use Rattle.serde_json.specs.View.{view}
use Rattle.pt_http_request.specs.Routes.{each, weekday_from, set_of}
use Rattle.pt_http_request.proofs.SettingsLemmas.{each-none, read-more, read-all, set_of-more}
use Rattle.pt_http_request.proofs.routes.days_from.Goals as goal

pub returns-in_err-weekday_from : goal.returns-in_err-weekday_from
returns-in_err-weekday_from c =
    let no_day : weekday_from (view c.number-item.result) ≡ None
    = sym c.weekday_from.ensures ∙ ap (option_map number_of) c.in_err-weekday_from.was in
    let none : each weekday_from (map view c.args.numbers.now) ≡ None
    = each-none weekday_from view c.args.numbers.now c.loop-number.number-index c.number-item.result
    c.loop-number-test.true c.number-item.is no_day in
    search (rules, none)

pub loop-number-preserved : goal.loop-number-preserved
loop-number-preserved c =
    let days = c.loop-number.invariant in
    let day = number_of c.in_ok-weekday_from.field-0 in
    let here : weekday_from (view c.number-item.result) ≡ Some day
    = sym c.weekday_from.ensures ∙ ap (option_map number_of) c.in_ok-weekday_from.was in
    let more = set_of-more days.0 c.in_ok-weekday_from.field-0 in (
      days.0 ++ day ∷ [],
      read-more weekday_from view c.args.numbers.now c.loop-number.number-index c.number-item.result days.0 day
          c.loop-number-test.true c.number-item.is days.1 here,
      cc (more, days.2, c.with-days.ensures.value),
    )

pub returns : goal.returns
returns c =
    let days = c.loop-number.invariant in
    let all = read-all weekday_from view c.args.numbers.now c.loop-number.number-index days.0 c.loop-number-test.false
    days.1 in
    ap Some days.2 ∙ ap (option_map set_of) (sym all)
