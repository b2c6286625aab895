use Rattle.std.proofs.Common.{arith, ◌≡◌, ℕ, ◌+◌, ◌<◌, ◌≤◌, List, length, slice_index, subst, sym, ap}
use Rattle.std.proofs.lemmas.List.{length_push}
use Rattle.pt_feasible.specs.ServiceTimes.{TimesFit}
use Rattle.pt_feasible.proofs.LimitsLemmas.{IfNone-from}
use Rattle.pt_feasible.proofs.TimelineLemmas.{never_later-push, each-push}
use Rattle.pt_feasible.proofs.earliest.earliest_times.Goals as goal

pub returns-then-bound-from-clause-none : goal.returns-then-bound-from-clause-none
returns-then-bound-from-clause-none g c b fits =
    let (low, high) = fits.time_windows c.loop-k.k c.visit_at-visit.result c.visit_at-visit.ensures in
    omega (arith, c.loop-k.invariant.arrival b fits)

pub returns-in_err-step-clause-none : goal.returns-in_err-step-clause-none
returns-in_err-step-clause-none g c =
    IfNone-from c.from_residual.result _ (λ b fits. c.in_err-step.ensures.none b fits.driving_times)

pub loop-k-preserved : goal.loop-k-preserved
loop-k-preserved g c =
    let minutes = g.T.Times.minutes c.args.times.now in
    let stops = g.S.Stops.stops c.args.stops.now in
    let vehicle = c.args.vehicle.now in
    let k = c.loop-k.k in
    let earliest = c.loop-k.earliest.times.items in
    let steps = c.loop-k.earliest.steps.items in
    let bound = c.max-bound.result in
    let step = c.in_ok-step.step in
    let count : length earliest ≡ k = c.loop-k.invariant.count in
    let count_steps : length steps ≡ k = c.loop-k.invariant.count_steps in
    let from : (b : List ℕ) → TimesFit minutes vehicle stops b → bound ≤ slice_index b k = (λ b fits.
    let (low, high) = fits.time_windows k c.visit_at-visit.result c.visit_at-visit.ensures in
    omega (arith, c.loop-k.invariant.arrival b fits)) in
    let next : (b : List ℕ) → TimesFit minutes vehicle stops b → k + 1 < length stops + 2 → slice_index b k + step ≤ slice_index b (k + 1) =
    (λ b fits. (c.in_ok-step.ensures.kept b).0 (fits.driving_times k)) in
    rw (c.push.ensures.items, c.push-in-loop-k.ensures.items) (record {
      count = omega (arith, length_push earliest bound, ap length c.push.ensures.items, count);
      count_steps = omega (arith, length_push steps step, ap length c.push-in-loop-k.ensures.items, count_steps);
      floor = λ b fits. never_later-push earliest b bound (c.loop-k.invariant.floor b fits)
          (subst (λ (n : ℕ). bound ≤ slice_index b n) (sym count) (from b fits));
      steps = λ i below.
          each-push (λ (n : ℕ) (time : ℕ). (b : List ℕ) → TimesFit minutes vehicle stops b → n + 1 < length stops + 2 →
          slice_index b n + time ≤ slice_index b (n + 1)) steps step 0 k count_steps c.loop-k.invariant.steps next i below;
      arrival = λ b fits within. omega (arith, from b fits, next b fits within);
    })

pub returns-clause-steps : goal.returns-clause-steps
returns-clause-steps g c = λ b k fits within. c.loop-k.invariant.steps k (omega arith) b fits (omega arith)
