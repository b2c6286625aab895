use Rattle.std.proofs.Common.{◌≡◌, ◌≢◌, ℕ, ◌<◌, Some, slice_get}
use Rattle.pt_feasible.specs.declared.stop.Stop.{Stop}
use Rattle.pt_audit.specs.Insertion.{inserted_stops}
use Rattle.pt_insertion_log.proofs.rides.drop_of.Given as goal

-- no stop from the pickup to here is one of its trip
abbrev pub invariant-loop-j : goal.invariant-loop-j
invariant-loop-j l = (k : ℕ) (stop : Stop) → l.i < k → k < l.j → slice_get (inserted_stops l.insertion) k ≡ Some stop →
    stop.trip ≢ l.pickup.trip
