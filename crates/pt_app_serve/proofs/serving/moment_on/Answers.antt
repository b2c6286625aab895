use Rattle.std.proofs.lemmas.Result.{IfOk-weaker}
use Rattle.pt_app_serve.proofs.serving.moment_on.Goals as goal

pub returns-in-Some-clause-moment : goal.returns-in-Some-clause-moment
returns-in-Some-clause-moment g c = IfOk-weaker c.now_in.result _ _
    (λ now shows. (c.in-Some.instant.nanosecond, c.in-Some.ensures.shown, shows)) c.now_in.ensures.local
