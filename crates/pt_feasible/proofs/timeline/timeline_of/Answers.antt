use Rattle.std.proofs.Common.{arith, ◌≡◌, ℕ, ◌≤◌, List, [], ◌∷◌, ◌++◌, ◌∙◌, Some, length, slice_get, slice_index, subst, sym, ap}
use Rattle.std.proofs.lemmas.List.{length_push}
use Rattle.std.proofs.lemmas.Option.{slice_get_within, same_Some}
use Rattle.pt_feasible.specs.declared.limits.Limits.{Limits}
use Rattle.pt_feasible.specs.declared.visit.Visit.{Visit}
use Rattle.pt_feasible.specs.Limits.{StandFor}
use Rattle.pt_feasible.specs.ServiceTimes.{TimesFit}
use Rattle.pt_feasible.specs.Visit.{visits}
use Rattle.pt_feasible.proofs.LimitsLemmas.{IfNone-from}
use Rattle.pt_feasible.proofs.TimelineLemmas.{never_later-push, each-push, in_windows-push, stand_for}
use Rattle.pt_feasible.proofs.VisitLemmas.{length-visits}
use Rattle.pt_feasible.proofs.timeline.timeline_of.Goals as goal

pub returns-then-bound-from-clause-none : goal.returns-then-bound-from-clause-none
returns-then-bound-from-clause-none g c b fits =
    let k = c.loop-k.k in
    let (low, high) = fits.time_windows k c.visit_at-visit.result c.visit_at-visit.ensures in
    omega (arith, c.requires.floor b fits k, c.loop-k.invariant.arrival b fits)

pub returns-in_err-step-clause-none : goal.returns-in_err-step-clause-none
returns-in_err-step-clause-none g c =
    IfNone-from c.from_residual.result _ (λ b fits. c.in_err-step.ensures.none b fits.driving_times)

pub loop-k-preserved : goal.loop-k-preserved
loop-k-preserved g c =
    let minutes = g.T.Times.minutes c.args.times.now in
    let vehicle = c.args.vehicle.now in
    let stops = g.S.Stops.stops c.args.stops.now in
    let k = c.loop-k.k in
    let visit = c.visit_at-visit.result in
    let earliest = c.loop-k.earliest.items in
    let limits = c.loop-k.limits.items in
    let bound = c.max-bound.result in
    let last : Limits = record { latest = visit.hi; step = c.in_ok-step.step; since = c.since_at.result } in
    let count : length earliest ≡ k = c.loop-k.invariant.count in
    let count_limits : length limits ≡ k = c.loop-k.invariant.count_limits in
    let pushed : c.push-in-loop-k.new.self.items ≡ limits ++ last ∷ [] = cc in
    let from : (b : List ℕ) → TimesFit minutes vehicle stops b → bound ≤ slice_index b k = (λ b fits.
    let (low, high) = fits.time_windows k visit c.visit_at-visit.ensures in
    omega (arith, c.requires.floor b fits k, c.loop-k.invariant.arrival b fits)) in
    rw (c.push.ensures.items, pushed) (record {
      count = omega (arith, length_push earliest bound, ap length c.push.ensures.items, count);
      count_limits = omega (arith, length_push limits last, ap length pushed, count_limits);
      floor = λ b fits. never_later-push earliest b bound (c.loop-k.invariant.floor b fits)
          (subst (λ (n : ℕ). bound ≤ slice_index b n) (sym count) (from b fits));
      opened = λ i other below there.
          each-push (λ (n : ℕ) (time : ℕ). (v : Visit) → slice_get (visits vehicle stops) n ≡ Some v → v.lo ≤ time) earliest bound 0 k count
          (λ n before v at. c.loop-k.invariant.opened n v before at)
          (λ v at. let same : visit.lo ≡ v.lo = ap (λ (w : Visit). w.lo) (same_Some visit v (sym c.visit_at-visit.ensures ∙ at)) in omega arith)
          i below other there;
      in_windows = in_windows-push earliest limits bound last k count count_limits c.loop-k.invariant.in_windows (omega arith);
      stand = λ i d. each-push (StandFor minutes vehicle stops) limits last d k count_limits
          (λ n before. c.loop-k.invariant.stand n d before)
          (stand_for minutes vehicle stops k visit c.in_ok-step.step c.since_at.result c.visit_at-visit.ensures c.since_at.ensures.before
          c.in_ok-step.ensures.kept c.since_at.ensures.kept) i;
      arrival = λ b fits within.
          omega (arith, from b fits, (c.in_ok-step.ensures.kept b).0 (fits.driving_times k) within);
    })

pub returns-clause-timeline : goal.returns-clause-timeline
returns-clause-timeline g c =
    let stops = g.S.Stops.stops c.args.stops.now in
    record {
      count = omega arith;
      count_limits = omega arith;
      floor = c.loop-k.invariant.floor;
      opened = λ k visit here. c.loop-k.invariant.opened k visit
          (omega (arith, slice_get_within (visits c.args.vehicle.now stops) k visit here, length-visits c.args.vehicle.now stops)) here;
      in_windows = λ k d within. c.loop-k.invariant.in_windows k d (omega arith);
      stand = λ k d within. c.loop-k.invariant.stand k d (omega arith);
    }
