use Rattle.std.proofs.Common.{rules, tests, arith, ◌≡◌, ◌∙◌, ℕ, ◌-◌, Some, subst, sym, ap}
use Rattle.std.proofs.lemmas.Option.{same_Some, none-some}
use Rattle.pt_feasible.specs.declared.stop.Stop.{Stop}
use Rattle.pt_audit.specs.Insertion.{inserted_stops}
use Rattle.pt_insertion_log.specs.Steps.{IsRide}
use Rattle.pt_insertion_log.proofs.RideLemmas.{inserted-paired, ride-between, ride-later, ride-one_pickup}
use Rattle.pt_insertion_log.proofs.rides.pickup_of.Goals as goal

pub returns-then-eq-clause-pickup : goal.returns-then-eq-clause-pickup
returns-then-eq-clause-pickup c k =
    let stops = inserted_stops c.args.insertion.now in
    let paired = inserted-paired c.args.insertion.now in
    let i = c.args.j - 1 - c.loop-back.back in
    let same : c.stop.result.trip ≡ c.stop-drop.result.trip = search (rules, tests) in
    let ride = ride-between stops paired i c.args.j c.stop.result c.stop-drop.result
    (omega arith) c.stop.ensures c.stop-drop.ensures same in (
      λ place. subst (λ (n : ℕ). IsRide stops n c.args.j) (same_Some i k place) ride,
      λ other. ap Some (ride-one_pickup stops paired i k c.args.j ride other),
    )

pub returns-clause-pickup : goal.returns-clause-pickup
returns-clause-pickup c k =
    let stops = inserted_stops c.args.insertion.now in
    let paired = inserted-paired c.args.insertion.now in (
      λ place. absurd (none-some k place),
      λ ride. (
          let before = ride-later stops paired k c.args.j ride in
          let drop : c.stop-drop.result ≡ ride.drop = same_Some c.stop-drop.result ride.drop
          (sym c.stop-drop.ensures ∙ ride.there) in
          absurd (c.loop-back.invariant k ride.pickup (omega arith) before ride.here
          (ride.same ∙ sym (ap (λ (s : Stop). s.trip) drop)))),
    )
