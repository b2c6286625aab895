use Rattle.std.proofs.Common.{rules, tests, arith, ◌≡◌, ℕ, ◌-◌, Some, IsTrue, slice_get, subst, sym, ap, ◌∙◌}
use Rattle.std.proofs.lemmas.Option.{same_Some, none-some}
use Rattle.pt_feasible.specs.declared.stop.Stop.{Stop}
use Rattle.pt_feasible.specs.Stop.{is_pickup}
use Rattle.pt_feasible.proofs.LimitsLemmas.{pickup-place, picked_up_before}
use Rattle.pt_feasible.proofs.limits.pickup_of.Goals as goal

pub returns-then-eq-clause-only : goal.returns-then-eq-clause-only
returns-then-eq-clause-only g c k stop here =
    let stops = g.S.Stops.stops c.args.stops.now in
    let paired = g.met.S.Stops.paired c.args.stops.now in
    let found = c.stop.result in
    let i = c.args.j - 1 - c.loop-back.back in
    let same : found.trip ≡ c.args.drop.trip = search (rules, tests) in
    let picks : IsTrue (is_pickup found) = (paired.in_order i c.args.j found c.args.drop (omega arith) c.stop.ensures.value c.requires.there same).pickup_first in (
      λ is. ap Some (pickup-place stops paired i k found stop c.stop.ensures.value here picks is.0 (same ∙ sym is.1)),
      λ place.
          let here' : slice_get stops i ≡ Some stop = subst (λ (n : ℕ). slice_get stops n ≡ Some stop) (sym (same_Some i k place)) here in
          let this : found ≡ stop = same_Some found stop (sym c.stop.ensures.value ∙ here') in
          subst (λ (s : Stop). IsTrue (is_pickup s) × (s.trip ≡ c.args.drop.trip)) this (picks, same),
    )

pub returns-clause-only : goal.returns-clause-only
returns-clause-only g c k stop here = (
  λ is.
      let before = picked_up_before (g.S.Stops.stops c.args.stops.now) (g.met.S.Stops.paired c.args.stops.now) c.args.j k c.args.drop stop
      c.requires.there here c.requires.drops is.0 is.1 in
      absurd (c.loop-back.invariant k stop (omega arith) before here is.1),
  λ place. absurd (none-some k place),
)
