use Rattle.std.proofs.Common.{◌≡◌, length, take}
use Rattle.pt_rights_files.specs.Months.{numbers_of}
use Rattle.pt_rights_files.proofs.months.Months.numbers.Given as goal

abbrev pub invariant-loop-index : goal.invariant-loop-index
invariant-loop-index l = (l.numbers.items ≡ numbers_of (take l.index l.self-inside.has)) × (length l.self-inside.has ≡ 12)
