use Rattle.std.proofs.Common.{◌≡◌, ℕ, List, None, sym}
use Rattle.pt_feasible.specs.ServiceTimes.{KeepsDrivingTimes}
use Rattle.pt_feasible.specs.Visit.{visits}
use Rattle.pt_feasible.proofs.LimitsLemmas.{no_way, IfNone-from}
use Rattle.pt_feasible.proofs.limits.step_from.Goals as goal

pub returns-in_err-drive-clause-none : goal.returns-in_err-drive-clause-none
returns-in_err-drive-clause-none g c =
    let minutes = g.T.Times.minutes c.args.times.now in
    let all = visits c.args.vehicle.now (g.S.Stops.stops c.args.stops.now) in
    let this = c.args.this in
    let next = c.visit_at-next.result in
    let way : minutes this.place next.place ≡ None = sym c.in_err-drive.ensures.value in
    IfNone-from c.from_residual.result ((b : List ℕ) → ¬ KeepsDrivingTimes minutes all b)
    (λ b. no_way minutes all b c.args.k this next c.requires.this c.visit_at-next.ensures way)
