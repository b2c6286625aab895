use Rattle.pt_rights_files.proofs.MonthMarks.{IsRead}
use Rattle.pt_rights_files.proofs.months.Months.of.Given as goal

abbrev pub invariant-loop-number : goal.invariant-loop-number
invariant-loop-number l = IsRead l.numbers l.number-index l.has l.last
