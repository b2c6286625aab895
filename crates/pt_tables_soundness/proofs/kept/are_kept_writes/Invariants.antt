use Rattle.std.proofs.Common.{drop}
use Rattle.pt_desk_rules.specs.Sound.{IsKeptWrite}
use Rattle.pt_base_records.specs.Records.{Each}
use Rattle.pt_tables_soundness.proofs.kept.are_kept_writes.Given as goal

abbrev pub invariant-loop-one : goal.invariant-loop-one
invariant-loop-one l = Each IsKeptWrite (drop l.one-index l.kept) → Each IsKeptWrite l.kept
