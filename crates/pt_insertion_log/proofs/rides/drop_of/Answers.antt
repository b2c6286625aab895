use Rattle.std.proofs.Common.{rules, tests, arith, ◌≡◌, ◌∙◌, Some, subst, sym, ap}
use Rattle.std.proofs.lemmas.Option.{same_Some, none-some, slice_get_within}
use Rattle.pt_feasible.specs.declared.stop.Stop.{Stop}
use Rattle.pt_audit.specs.Insertion.{inserted_stops}
use Rattle.pt_insertion_log.specs.Steps.{IsRide}
use Rattle.pt_insertion_log.proofs.RideLemmas.{inserted-paired, ride-between, ride-later, ride-one_drop}
use Rattle.pt_insertion_log.proofs.rides.drop_of.Goals as goal

pub returns-then-eq-clause-drop : goal.returns-then-eq-clause-drop
returns-then-eq-clause-drop c j =
    let stops = inserted_stops c.args.insertion.now in
    let paired = inserted-paired c.args.insertion.now in
    let same : c.stop-pickup.result.trip ≡ c.stop.result.trip = search (rules, tests) in
    let ride = ride-between stops paired c.args.i c.loop-j.j c.stop-pickup.result c.stop.result
    (omega arith) c.stop-pickup.ensures c.stop.ensures same in (
      λ place. subst (IsRide stops c.args.i) (same_Some c.loop-j.j j place) ride,
      λ other. ap Some (ride-one_drop stops paired c.args.i c.loop-j.j j ride other),
    )

pub returns-clause-drop : goal.returns-clause-drop
returns-clause-drop c j =
    let stops = inserted_stops c.args.insertion.now in
    let paired = inserted-paired c.args.insertion.now in (
      λ place. absurd (none-some j place),
      λ ride. (
          let within = slice_get_within stops j ride.drop ride.there in
          let pickup : c.stop-pickup.result ≡ ride.pickup = same_Some c.stop-pickup.result ride.pickup
          (sym c.stop-pickup.ensures ∙ ride.here) in
          absurd (c.loop-j.invariant j ride.drop (ride-later stops paired c.args.i j ride) (omega arith) ride.there
          (sym (ap (λ (s : Stop). s.trip) pickup ∙ ride.same)))),
    )
