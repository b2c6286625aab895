use Rattle.std.proofs.Common.{◌≢◌, sym, subst, ◌∙◌}
use Rattle.pt_feasible.specs.declared.sweep.Pass.{Pass}
use Rattle.pt_feasible.specs.declared.sweep.Pass.TheVariants.{Stayed, Raised, Broken}
use Rattle.pt_feasible.specs.Sweep.{Raises}
use Rattle.pt_feasible.proofs.SweepLemmas.{then-stayed, then-raised, then-broken, walked-more}
use Rattle.pt_feasible.proofs.sweep.sweep.Goals as goal
use Rattle.pt_feasible.proofs.sweep.sweep.Goals.{in-Stayed, in-Raised}

pub loop-k-preserved : goal.loop-k-preserved
loop-k-preserved g c =
    let limits = c.args.limits.now in
    let old = c.args.bounds.now in
    let mid = c.loop-k.bounds in
    let new = c.raise_from.new.bounds in
    let k = c.loop-k.k in
    let before = c.loop-k.invariant.raises in
    let first = c.loop-k.done in
    elim c.match-raise_from.branch [
      | in-Stayed w ↦
          let second : Raises limits mid new Stayed = subst (λ (p : Pass). Raises limits mid new p) w.in-Stayed.is c.raise_from.ensures.raises in
          let unbroken : c.raise_from.result ≢ Broken = (λ is. cc) in
          record {
            raises = subst (λ (p : Pass). Raises limits old new p) (sym w.done-is) (then-stayed limits old mid new first before second);
            unbroken = λ is. c.loop-k.invariant.unbroken (sym w.done-is ∙ is);
            walked = walked-more limits old mid new k before.rises second.rises c.loop-k.invariant.walked (c.raise_from.ensures.ended unbroken) (c.raise_from.ensures.driven unbroken);
          }
      | in-Raised w ↦
          let second : Raises limits mid new Raised = subst (λ (p : Pass). Raises limits mid new p) w.in-Raised.is c.raise_from.ensures.raises in
          let unbroken : c.raise_from.result ≢ Broken = (λ is. cc) in
          record {
            raises = subst (λ (p : Pass). Raises limits old new p) (sym w.done-is) (then-raised limits old mid new first before second);
            unbroken = λ is. cc;
            walked = walked-more limits old mid new k before.rises second.rises c.loop-k.invariant.walked (c.raise_from.ensures.ended unbroken) (c.raise_from.ensures.driven unbroken);
          }
    ]

pub returns-in-Broken-clause-raises : goal.returns-in-Broken-clause-raises
returns-in-Broken-clause-raises g c =
    let limits = c.args.limits.now in
    let mid = c.loop-k.bounds in
    let new = c.raise_from.new.bounds in
    then-broken limits c.args.bounds.now mid new c.loop-k.done c.loop-k.invariant.raises
    (subst (λ (p : Pass). Raises limits mid new p) c.in-Broken.is c.raise_from.ensures.raises)
