use Rattle.std.proofs.Common.{Some, map, ap, sym, ◌∙◌}
use Rattle.std.specs.Prelude.{option_map}
use Rattle.serde_json.specs.View.{view}
use Rattle.pt_http_request.specs.Routes.{values_in}
use Rattle.pt_http_request.proofs.SettingsLemmas.{values_in-items}
use Rattle.pt_http_request.proofs.routes.values_of.Goals as goal

pub returns-in-Some : goal.returns-in-Some
returns-in-Some c =
    ap (λ values. Some (map view values)) c.as_slice.ensures.value
    ∙ ap Some (sym (values_in-items (map view c.in-Some.values.now.items)))
    ∙ ap (option_map values_in) c.in-Some.ensures
