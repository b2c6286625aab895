use Rattle.std.proofs.Common.{◌≡◌, ◌≤◌, ◌-◌, length, false, refl, sym, ◌∙◌, arith}
use Rattle.std.specs.Prelude.{slice_index, nat_eq}
use Rattle.std.proofs.lemmas.Bool.Decides.{nat_tests}
use Rattle.pt_rights_files.proofs.MonthMarks.{IsRead, read_more, read_all}
use Rattle.pt_rights_files.proofs.months.Months.of.Goals as goal

pub loop-number-preserved : goal.loop-number-preserved
loop-number-preserved c =
    let numbers = c.args.numbers.now in
    let index = c.loop-number.number-index in
    let position : c.from.result ≡ slice_index numbers index - 1 = c.from.ensures in
    rw position (read_more numbers index c.loop-number.has c.loop-number.last c.loop-number.invariant (omega arith) (omega arith) (omega arith))

pub returns-clause-in_range : goal.returns-clause-in_range
returns-clause-in_range c =
    let numbers = c.args.numbers.now in
    let at_end : c.loop-number.number-index ≡ length numbers = omega arith in
    let read : IsRead numbers (length numbers) c.loop-number.has c.loop-number.last = rw (← at_end) c.loop-number.invariant in
    let empty : nat_eq (length numbers) 0 ≡ false = sym c.is_empty.ensures ∙ c.if-is_empty.false in
    let some : 1 ≤ length numbers = grind (arith, nat_tests, empty) in
    ((λ _. (read_all numbers c.loop-number.has c.loop-number.last read some).0), λ _. refl)
