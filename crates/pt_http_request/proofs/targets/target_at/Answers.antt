use Rattle.std.proofs.Common.{List, ℕ, ap, ◌∙◌}
use Rattle.pt_http_request.specs.Targets.{target_in, path_of}
use Rattle.pt_http_request.proofs.targets.target_at.Goals as goal

pub returns-in-Ok : goal.returns-in-Ok
returns-in-Ok c = c.target_of.ensures ∙ ap (λ (text : List ℕ). target_in c.args.router.now text) (c.path_from.ensures
    ∙ ap path_of c.in-Ok.ensures.cases.0)
