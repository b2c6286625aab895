use Rattle.std.proofs.Common.{◌∙◌}
use Rattle.pt_http_request.proofs.TargetLemmas.{two_parts, target-found}
use Rattle.pt_http_request.proofs.targets.target_of.Goals as goal

pub returns : goal.returns
returns c =
    let params = c.in-Ok.found.params in
    let parts = two_parts params.pattern.now params.text.now c.args.path.now params.path.now params.names.now
    c.iter.result _ _ c.if-not-is_ascii.ensures.cases c.in-Ok.ensures.path c.iter.ensures.value
    c.first_two.ensures.one c.first_two.ensures.two in
    c.target_from.ensures
    ∙ target-found c.args.router.now c.args.path.now _ _ _ c.if-not-is_ascii.ensures.cases c.in-Ok.ensures.found
    parts.0 parts.1
