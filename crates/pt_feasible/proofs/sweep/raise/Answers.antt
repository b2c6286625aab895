use Rattle.std.proofs.Common.{arith, ◌≤◌, subst}
use Rattle.std.proofs.lemmas.List.{get_or_default}
use Rattle.pt_feasible.specs.declared.limits.Limits.{Limits}
use Rattle.pt_feasible.proofs.LimitsLemmas.{no_limits}
use Rattle.pt_feasible.proofs.SweepLemmas.{raised_to}
use Rattle.pt_feasible.proofs.sweep.raise.Goals as goal

pub returns-clause-raises : goal.returns-clause-raises
returns-clause-raises c =
    let limits = c.args.limits.now in
    let k = c.args.k in
    raised_to limits c.args.bounds.now k c.args.needed (omega arith) (omega arith)
    (λ d. subst (λ (l : Limits). c.args.needed ≤ l.latest) (get_or_default limits k no_limits d (omega arith)) (omega arith))
    c.requires.needed
