use Rattle.std.proofs.Common.{◌≡◌, ℕ, ◌≤◌, take}
use Rattle.pt_base_values.specs.Load.{FitsWithin}
use Rattle.pt_feasible.specs.Loads.{load_aboard}
use Rattle.pt_feasible.proofs.loads.loads_fit.Given as goal

abbrev pub invariant-loop-k : goal.invariant-loop-k
invariant-loop-k g l = record {
  aboard : l.aboard ≡ load_aboard (take l.k (g.S.Stops.stops l.stops));
  fit : (i : ℕ) → i ≤ l.k → FitsWithin (load_aboard (take i (g.S.Stops.stops l.stops))) l.vehicle;
}
