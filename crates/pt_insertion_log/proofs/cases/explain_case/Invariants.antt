use Rattle.std.proofs.Common.{◌≡◌, ◌+◌, ◌<◌, ◌≤◌, length, slice_index}
use Rattle.pt_audit.specs.Insertion.{case_of, inserted_stops}
use Rattle.pt_insertion_log.specs.Steps.{AreKeptBut}
use Rattle.pt_insertion_log.proofs.FitLemmas.{room_of}
use Rattle.pt_insertion_log.proofs.WrittenLemmas.{IsBegun}
use Rattle.pt_insertion_log.proofs.cases.explain_case.Given as goal

-- the case was begun, with raises to these bounds; by them the visits before `rest`, except `first`, keep their
-- constraints
abbrev pub invariant-loop-raise : goal.invariant-loop-raise
invariant-loop-raise g l = record {
  begun : IsBegun (g.T.Times.minutes l.times) (case_of l.insertion) (g.W.Write.contents l.fn.out) (g.W.Write.contents l.out) (slice_index l.bounds);
  long : length l.bounds ≡ 104;
  among : l.rest < length (inserted_stops l.insertion) + 2;
  before : l.first ≤ l.rest;
  kept : AreKeptBut (g.T.Times.minutes l.times) l.insertion.vehicle.now (inserted_stops l.insertion)
      (slice_index l.bounds) l.first l.rest;
}

-- how far the bounds may still rise
abbrev pub decreases-loop-raise : goal.decreases-loop-raise
decreases-loop-raise g l = room_of l.bounds
