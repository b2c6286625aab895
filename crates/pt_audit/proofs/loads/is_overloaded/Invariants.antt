use Rattle.pt_feasible.specs.Stop.{is_pickup, is_drop}
use Rattle.pt_audit.specs.Insertion.{inserted_stops}
use Rattle.pt_audit.proofs.TotalLemmas.{IsTotal}
use Rattle.pt_audit.proofs.loads.is_overloaded.Given as goal

abbrev pub invariant-loop-place : goal.invariant-loop-place
invariant-loop-place l = IsTotal is_pickup (inserted_stops l.insertion) l.place l.came
    × IsTotal is_drop (inserted_stops l.insertion) l.place l.left
