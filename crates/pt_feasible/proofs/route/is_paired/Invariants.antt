use Rattle.std.proofs.Common.{◌≡◌, ℕ, ◌<◌, Some, IsTrue, slice_get}
use Rattle.std.specs.List.{list_any}
use Rattle.pt_feasible.specs.declared.stop.Stop.{Stop}
use Rattle.pt_feasible.specs.Pairing.{IsPickupThenDrop, is_partner}
use Rattle.pt_feasible.proofs.route.is_paired.Given as goal

abbrev pub invariant-loop-k : goal.invariant-loop-k
invariant-loop-k l = record {
  in_order : (i j : ℕ) (first second : Stop) → j < l.k → i < j → slice_get l.stops i ≡ Some first →
      slice_get l.stops j ≡ Some second → first.trip ≡ second.trip → IsPickupThenDrop first second;
  complete : (i : ℕ) (stop : Stop) → i < l.k → slice_get l.stops i ≡ Some stop → IsTrue (list_any (is_partner stop) l.stops);
}
