use Rattle.std.proofs.Common.{◌≡◌, rules}
use Rattle.std.specs.Prelude.{IfOk}
use Rattle.pt_base_values.specs.Place.{IsCoordinate}
use Rattle.serde_json.specs.Find.{get}
use Rattle.serde_json.specs.View.{view}
use Rattle.pt_http_request.specs.Names.{field_name}
use Rattle.pt_http_request.proofs.FieldLemmas.{plain_feet, coordinate-known}
use Rattle.pt_http_request.proofs.places.coordinate_at.Goals as goal

pub returns-clause-value : goal.returns-clause-value
returns-clause-value c =
    let plain : c.ok_or-2.result ≡ plain_feet c.args.name (get (field_name c.args.name) (view c.args.object.now))
    = search rules in
    let is : IfOk c.ok_or-2.result IsCoordinate = search rules in
    coordinate-known c.args.name (view c.args.object.now) c.ok_or-2.result plain is
