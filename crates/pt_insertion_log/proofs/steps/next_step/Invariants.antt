use Rattle.std.proofs.Common.{ℕ, ◌<◌, slice_index}
use Rattle.pt_audit.specs.Insertion.{inserted_stops}
use Rattle.pt_insertion_log.specs.Steps.{IsKeptAt}
use Rattle.pt_insertion_log.proofs.steps.next_step.Given as goal

-- the visits so far keep their constraints
abbrev pub invariant-loop-k : goal.invariant-loop-k
invariant-loop-k g l = (k : ℕ) → k < l.k →
    IsKeptAt (g.T.Times.minutes l.times) l.insertion.vehicle.now (inserted_stops l.insertion) (slice_index l.bounds) k
