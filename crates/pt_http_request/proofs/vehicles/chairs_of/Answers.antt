use Rattle.std.proofs.Common.{◌≡◌, Ok, IfOk, refl, sym, subst, ◌∙◌}
use Rattle.std.specs.Int.{IsInRange}
use Rattle.serde_json.specs.View.{view}
use Rattle.pt_http_request.proofs.FieldLemmas.{chairs-none, chairs-some}
use Rattle.pt_http_request.specs.Fields.{in_range, ranged}
use Rattle.pt_http_request.proofs.vehicles.chairs_of.Goals as goal

pub returns-then-holds_nothing-clause-value : goal.returns-then-holds_nothing-clause-value
returns-then-holds_nothing-clause-value c =
    (in_range 0 10 0 refl, chairs-none (view c.args.body.now) (sym c.holds_nothing.ensures ∙ c.if-holds_nothing.true))

pub returns-clause-value : goal.returns-clause-value
returns-clause-value c =
    let same = chairs-some (view c.args.body.now) (sym c.holds_nothing.ensures ∙ c.if-holds_nothing.false) in
    subst (λ r. IfOk c.ranged_at.result (λ number. (fits : IsInRange 0 10 number) × (r ≡ Ok (ranged number fits)))) (sym same) c.ranged_at.ensures.value
