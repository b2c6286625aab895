use Rattle.std.proofs.Common.{◌≡◌, length}
use Rattle.std.specs.Int.{IsInRange}
use Rattle.pt_rights_files.specs.Conditions.{IsCondition}
use Rattle.pt_desk_spelling.specs.Requests.{condition_bytes}
use Rattle.pt_desk_spelling_reading.proofs.ListReading.{TakenSoFar}
use Rattle.pt_desk_spelling_reading.proofs.entries.take_conditions.Given as goal

abbrev pub invariant-loop-taken : goal.invariant-loop-taken
invariant-loop-taken l = record {
  taken : TakenSoFar condition_bytes (IsInRange 1 4) IsCondition l.fn.left.now l.left.now l.members.items l.count
      l._taken;
  number : length l.members.items ≡ l._taken;
}
