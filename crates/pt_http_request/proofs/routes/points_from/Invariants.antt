use Rattle.std.proofs.Common.{◌≡◌, Some, map, take}
use Rattle.std.specs.Prelude.{All}
use Rattle.serde_json.specs.View.{view}
use Rattle.pt_base_values.specs.Place.{IsOnPlane}
use Rattle.pt_http_request.specs.Routes.{point_from}
use Rattle.pt_http_request.proofs.routes.points_from.Given as goal

abbrev pub invariant-loop-pair : goal.invariant-loop-pair
invariant-loop-pair l = record {
  read : map point_from (map view (take l.pair-index l.pairs)) ≡ map Some l.points.items;
  on_plane : All (λ point. IsOnPlane point.x point.y) l.points.items;
}
