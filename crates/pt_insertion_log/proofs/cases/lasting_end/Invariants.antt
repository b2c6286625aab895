use Rattle.std.proofs.Common.{◌≡◌, ℕ, ◌<◌, ◌≤◌, take}
use Rattle.pt_base_values.specs.Load.{FitsWithin}
use Rattle.pt_feasible.specs.Loads.{load_aboard}
use Rattle.pt_audit.specs.declared.line.End.TheVariants as end
use Rattle.pt_audit.specs.Insertion.{inserted_stops}
use Rattle.pt_insertion_log.specs.Steps.{IsLasting}
use Rattle.pt_insertion_log.proofs.cases.lasting_end.Given as goal

-- these are aboard, at the visits so far there is a way on, and there was room for those aboard
abbrev pub invariant-loop-k : goal.invariant-loop-k
invariant-loop-k g l = record {
  short : ¬ IsLasting (g.T.Times.minutes l.times) l.insertion.vehicle.now (inserted_stops l.insertion) end.TooLong;
  aboard : l.aboard ≡ load_aboard (take l.k (inserted_stops l.insertion));
  room : (k : ℕ) → k ≤ l.k → FitsWithin (load_aboard (take k (inserted_stops l.insertion))) l.insertion.vehicle.now;
  way : (k : ℕ) → k < l.k →
      ¬ IsLasting (g.T.Times.minutes l.times) l.insertion.vehicle.now (inserted_stops l.insertion) (end.NoWay k);
}
