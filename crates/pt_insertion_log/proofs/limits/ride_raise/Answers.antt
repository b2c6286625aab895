use Rattle.std.proofs.Common.{arith, slice_index, refl}
use Rattle.std.proofs.lemmas.Option.{same_Some, none-some}
use Rattle.pt_audit.specs.Insertion.{inserted_stops}
use Rattle.pt_insertion_log.proofs.RideLemmas.{ridden-none, ridden-one, rides-to}
use Rattle.pt_insertion_log.proofs.limits.ride_raise.Goals as goal

pub returns-in_err-drop-clause-none : goal.returns-in_err-drop-clause-none
returns-in_err-drop-clause-none c _ =
    ridden-none (inserted_stops c.args.insertion.now) (slice_index c.args.bounds.now) c.args.k
    (λ j ride. none-some j ((c.in_err-drop.ensures.drop j).1 ride))

pub returns-clause-none : goal.returns-clause-none
returns-clause-none c _ =
    ridden-one (inserted_stops c.args.insertion.now)
    (slice_index c.args.bounds.now) c.args.k c.in_ok-drop.drop c.stop-pickup.result c.stop-pickup.ensures
    (λ other ride. same_Some c.in_ok-drop.drop other ((c.in_ok-drop.ensures.drop other).1 ride)) (omega arith)

pub returns-then-from-needed-clause-raise : goal.returns-then-from-needed-clause-raise
returns-then-from-needed-clause-raise c _ = (
  rides-to (inserted_stops c.args.insertion.now)
      (slice_index c.args.bounds.now) c.args.k c.saturating_sub-needed.result c.in_ok-drop.drop c.stop-pickup.result
      (λ none. omega arith) c.stop-pickup.ensures ((c.in_ok-drop.ensures.drop c.in_ok-drop.drop).0 refl) (omega arith),
  omega arith,
)
