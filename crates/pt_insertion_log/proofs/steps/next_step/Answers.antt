use Rattle.std.proofs.Common.{arith, ℕ, List, Option, below_more, refl, sym, subst, slice_index, inl, inr}
use Rattle.std.proofs.lemmas.Bool.{cases_eq}
use Rattle.pt_base_values.specs.declared.vehicle.Vehicle.{Vehicle}
use Rattle.pt_feasible.specs.declared.stop.Stop.{Stop}
use Rattle.pt_audit.specs.Insertion.{inserted_stops}
use Rattle.pt_insertion_log.specs.declared.steps.Step.{Step}
use Rattle.pt_insertion_log.specs.declared.steps.Step.TheVariants as step
use Rattle.pt_insertion_log.specs.Steps.{IsKeptAt, IsAt, IsFirst, AreKeptBefore}
use Rattle.pt_insertion_log.proofs.steps.next_step.Goals as goal

pub loop-k-preserved : goal.loop-k-preserved
loop-k-preserved g c = below_more
    (IsKeptAt (g.T.Times.minutes c.args.times.now) c.args.insertion.now.vehicle.now (inserted_stops c.args.insertion.now) (slice_index c.args.bounds.now))
    c.loop-k.k c.loop-k.invariant (c.in_default-step_at.ensures.none refl)

-- where the visits before visit k keep their constraints, a step at visit k is the first
first-at : (minutes : ℕ → ℕ → Option ℕ) (vehicle : Vehicle) (stops : List Stop) (bound : ℕ → ℕ) (k : ℕ) (next : Step)
    → IsAt k next → AreKeptBefore minutes vehicle stops bound k → IsFirst minutes vehicle stops bound next
first-at minutes vehicle stops bound k (step.Raise raise) at kept = subst (AreKeptBefore minutes vehicle stops bound) (sym at) kept
first-at minutes vehicle stops bound k (step.End end) at kept = tt

pub loop-k-init : goal.loop-k-init
loop-k-init g c k below = elim (cases_eq k c.args.first) [
  | inl same ↦ subst (IsKeptAt (g.T.Times.minutes c.args.times.now) c.args.insertion.now.vehicle.now
      (inserted_stops c.args.insertion.now) (slice_index c.args.bounds.now)) (sym same) (c.in_default.ensures.none refl)
  | inr other ↦ c.requires.kept k (omega arith) other
]

pub returns-in-Some-clause-first : goal.returns-in-Some-clause-first
returns-in-Some-clause-first g c =
    first-at (g.T.Times.minutes c.args.times.now) c.args.insertion.now.vehicle.now (inserted_stops c.args.insertion.now) (slice_index c.args.bounds.now)
    c.args.first c.in-Some.step c.in-Some.ensures.at (λ k below. c.requires.kept k (omega arith) (λ same. omega arith))

pub returns-in-Some-step_at-clause-first : goal.returns-in-Some-step_at-clause-first
returns-in-Some-step_at-clause-first g c =
    first-at (g.T.Times.minutes c.args.times.now) c.args.insertion.now.vehicle.now (inserted_stops c.args.insertion.now) (slice_index c.args.bounds.now)
    c.loop-k.k c.in-Some-step_at.step c.in-Some-step_at.ensures.at c.loop-k.invariant

pub returns-clause-none : goal.returns-clause-none
returns-clause-none g c _ k inside = c.loop-k.invariant k (omega arith)
