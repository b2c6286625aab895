use Rattle.std.proofs.Common.{◌≡◌, [], drop, map}
use Rattle.pt_http_request.specs.Targets.{with_routes}
use Rattle.pt_http_request.proofs.targets.router_over.Given as goal

-- with the remaining paths, the router is the one over all paths
abbrev pub invariant-loop-text : goal.invariant-loop-text
invariant-loop-text l =
    with_routes (map (λ p. (p.0.now, p.1)) (drop l.text-index l.paths)) l.router
    ≡ with_routes (map (λ p. (p.0.now, p.1)) l.paths) []
