use Rattle.std.proofs.Common.{◌≡◌, None, map, rules}
use Rattle.serde_json.specs.View.{view}
use Rattle.pt_http_request.specs.Routes.{each, point_from}
use Rattle.pt_http_request.proofs.SettingsLemmas.{each-none, read-all}
use Rattle.pt_http_request.proofs.routes.points_from.Goals as goal

pub returns-in_err-point-clause-fault : goal.returns-in_err-point-clause-fault
returns-in_err-point-clause-fault c =
    let no_point : point_from (view c.pair-item.result) ≡ None = search rules in
    let none : each point_from (map view c.args.pairs.now) ≡ None
    = each-none point_from view c.args.pairs.now c.loop-pair.pair-index c.pair-item.result c.loop-pair-test.true
    c.pair-item.is no_point in
    search rules

pub returns-clause-points : goal.returns-clause-points
returns-clause-points c = read-all point_from view c.args.pairs.now c.loop-pair.pair-index c.loop-pair.points.items
    c.loop-pair-test.false c.loop-pair.invariant.read
