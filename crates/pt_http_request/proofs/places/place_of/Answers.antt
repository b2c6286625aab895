use Rattle.std.proofs.Common.{◌≡◌, Ok, rules}
use Rattle.serde_json.specs.View.{view}
use Rattle.pt_http_request.specs.declared.field_name.FieldName.TheVariants as field
use Rattle.pt_http_request.proofs.FieldLemmas.{placed-same, place-read}
use Rattle.pt_http_request.specs.Fields.{id_at, truth_at}
use Rattle.pt_http_request.proofs.places.place_of.Goals as goal

pub returns : goal.returns
returns c =
    let body = view c.args.body.now in
    let id : id_at field.Id (view c.args.body.now) ≡ Ok c.in_ok-id.id = search rules in
    let core : truth_at field.Core (view c.args.body.now) ≡ Ok c.in_ok-core.core = search rules in
    place-read body _ id (placed-same field.X body c.in_ok-x.x _ (search rules) c.in_ok-x.ensures.value)
    (placed-same field.Y body c.in_ok-y.y _ (search rules) c.in_ok-y.ensures.value) core
