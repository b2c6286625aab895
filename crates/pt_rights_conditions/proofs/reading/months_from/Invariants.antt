use Rattle.std.proofs.Common.{◌≡◌, Bool, List, length, take}
use Rattle.pt_rights_files.specs.Months.{numbers_of, IsMonthSet}
use Rattle.pt_rights_conditions.specs.Texts.{numbers_text}
use Rattle.pt_rights_conditions.proofs.reading.months_from.Given as goal

abbrev pub invariant-loop-part : goal.invariant-loop-part
invariant-loop-part l =
    (marks : List Bool) → IsMonthSet marks → l.text ≡ numbers_text (numbers_of marks) → l.numbers.items ≡ take (length l.yielded) (numbers_of marks)
