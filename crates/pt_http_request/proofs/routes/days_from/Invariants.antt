use Rattle.std.proofs.Common.{◌≡◌, ℕ, List, Some, map, take}
use Rattle.serde_json.specs.View.{view}
use Rattle.pt_http_request.specs.Routes.{weekday_from, set_of}
use Rattle.pt_http_request.proofs.routes.days_from.Given as goal

abbrev pub invariant-loop-number : goal.invariant-loop-number
invariant-loop-number l =
    (days : List ℕ) × (map weekday_from (map view (take l.number-index l.numbers)) ≡ map Some days) ×
    (l.days ≡ set_of days)
