-- From a stop on whose window opens too late there is no drop.
use Rattle.std.proofs.Common.{arith, subst, sym, inl, inr, length, Option, ℕ, IsSomeAnd, ◌≤◌}
use Rattle.std.proofs.lemmas.Bool.{cases_lt}
use Rattle.pt_feasible.specs.Route.{stops_of}
use Rattle.pt_insertion_search.specs.Choice.{added_driving}
use Rattle.pt_insertion_search.proofs.BetweenLemmas.{no_drops_past}
use Rattle.pt_insertion_search.proofs.DetourLemmas.{no_less_yet, least_yet, detour_same}
use Rattle.pt_insertion_search.proofs.added.may_stay_below.Goals as goal
use Rattle.pt_insertion_search.proofs.added.may_stay_below.Goals.{then-has_pickup+else-added_at-most, else-has_pickup}

pub returns-then-number-until : goal.returns-then-number-until
returns-then-number-until g c _ i j possible =
    subst (λ (limit : Option ℕ). IsSomeAnd limit (λ most. most ≤ added_driving (g.T.Times.minutes c.args.times.now)
    c.args.duty.now.vehicle.now (stops_of c.args.duty.now.route.now) c.args.asked.now i j)) (sym c.in-Some.is)
    (elim (cases_lt j c.loop-k.k) [
      | inl before ↦ c.loop-k.invariant.seen i j before possible
      | inr after ↦
          absurd (no_drops_past (g.T.Times.minutes c.args.times.now) c.args.duty.now.vehicle.now
          (stops_of c.args.duty.now.route.now) c.args.asked.now c.loop-k.k c.latest_drop-until.result c.visit_at.result (g.met.T.Times.triangle c.args.times.now)
          (omega arith) c.requires.new_trip c.visit_at.ensures (c.latest_drop-until.ensures (g.T.Times.minutes c.args.times.now)) (omega arith) i j after possible)
    ])

pub loop-k-preserved : goal.loop-k-preserved
loop-k-preserved g c =
    let minutes = g.T.Times.minutes c.args.times.now in
    let vehicle = c.args.duty.now.vehicle.now in
    let stops = stops_of c.args.duty.now.route.now in
    let k = c.loop-k.k in
    let among : k ≤ length stops = omega arith in
    record {
      seen = no_less_yet minutes vehicle stops c.args.asked.now k c.loop-k.least c.in-Some.most (g.met.T.Times.triangle c.args.times.now)
          (g.met.T.Times.within_a_day c.args.times.now) (omega arith) c.requires.new_trip among c.loop-k.invariant.seen c.loop-k.invariant.least
          (c.is_drop_below.ensures c.if-is_drop_below.false)
          (λ possible. elim c.if-has_pickup.branch [
            | then-has_pickup+else-added_at-most w ↦ omega (arith, w.added_at.ensures)
            | else-has_pickup w ↦ absurd (c.has_pickup.ensures w.if-has_pickup.false minutes k possible)
          ]);
      least = elim c.if-has_pickup.branch [
        | then-has_pickup+else-added_at-most w ↦
            least_yet minutes vehicle stops c.args.asked.now k c.loop-k.least _ c.loop-k.invariant.least (omega arith) (λ j to possible is.
            let same = detour_same minutes vehicle stops k c.args.asked.now.origin w.detour_at.result to among w.detour_at.ensures is in
            omega (arith, same))
        | else-has_pickup w ↦
            least_yet minutes vehicle stops c.args.asked.now k c.loop-k.least _ c.loop-k.invariant.least (omega arith) (λ j to possible is.
            absurd (c.has_pickup.ensures w.if-has_pickup.false minutes j possible))
      ];
    }
