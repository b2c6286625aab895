use Rattle.std.proofs.lemmas.Result.{IfOk-weaker}
use Rattle.pt_app_serve.proofs.MomentLemmas.{lacks_by_instant}
use Rattle.pt_app_serve.proofs.serving.moment_at.Goals as goal

pub returns-in-Some-clause-moment : goal.returns-in-Some-clause-moment
returns-in-Some-clause-moment g c = IfOk-weaker c.now_in.result _ _
    (λ now shows. (c.in-Some.instant.nanosecond, c.in-Some.ensures.shown, shows)) c.now_in.ensures.local

pub returns-in-Some-clause-fault : goal.returns-in-Some-clause-fault
returns-in-Some-clause-fault g c =
    lacks_by_instant g.T.TellsTime.unread g.T.TellsTime.shows c.args.zone.now c.in-Some.instant.nanosecond
    c.now_in.result c.in-Some.ensures.shown c.now_in.ensures.fault (λ out. c.now_in.ensures.out_of_range.0 out)
