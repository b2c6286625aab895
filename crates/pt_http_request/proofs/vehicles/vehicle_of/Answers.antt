use Rattle.std.proofs.Common.{◌≡◌, Ok, Some, rules}
use Rattle.serde_json.specs.View.{view}
use Rattle.pt_http_request.specs.declared.field_name.FieldName.TheVariants as field
use Rattle.pt_http_request.proofs.FieldLemmas.{vehicle-read}
use Rattle.pt_http_request.specs.Fields.{id_at, day_at, number_within}
use Rattle.pt_http_request.specs.Routes.{days_at}
use Rattle.pt_http_request.proofs.vehicles.vehicle_of.Goals as goal

pub returns : goal.returns
returns c =
    let id : id_at field.Id (view c.args.body.now) ≡ Ok c.in_ok-id.id = search rules in
    let from_day : day_at field.FromDay (view c.args.body.now) ≡ Ok c.in_ok-from_day.from_day = search rules in
    let days : days_at (view c.args.body.now) ≡ Some c.in_ok-days.days = search rules in
    let depot : id_at field.Depot (view c.args.body.now) ≡ Ok c.in_ok-depot.depot = search rules in
    let opens : number_within field.Opens 0 1_439 (view c.args.body.now) ≡ Ok c.in_ok-opens.opens = search rules in
    let closes : number_within field.Closes 0 1_439 (view c.args.body.now) ≡ Ok c.in_ok-closes.closes = search rules in
    vehicle-read (view c.args.body.now) _ id from_day days depot c.in_ok-capacity.ensures.value opens closes
    c.in_ok-duration.ensures.value c.in_ok-chairs.ensures.value
