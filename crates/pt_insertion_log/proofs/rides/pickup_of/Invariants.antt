use Rattle.std.proofs.Common.{◌≡◌, ◌≢◌, ℕ, ◌-◌, ◌<◌, ◌≤◌, Some, slice_get}
use Rattle.pt_feasible.specs.declared.stop.Stop.{Stop}
use Rattle.pt_audit.specs.Insertion.{inserted_stops}
use Rattle.pt_insertion_log.proofs.rides.pickup_of.Given as goal

-- no stop from here to the drop is one of its trip
abbrev pub invariant-loop-back : goal.invariant-loop-back
invariant-loop-back l = (k : ℕ) (stop : Stop) → l.j - l.back ≤ k → k < l.j →
    slice_get (inserted_stops l.insertion) k ≡ Some stop →
    stop.trip ≢ l.drop.trip
