use Rattle.std.proofs.Common.{arith}
use Rattle.std.proofs.lemmas.Fmt.{parse-decimal}
use Rattle.pt_rights_conditions.proofs.ResultLemmas.{some-from_only, ok_value, ok-not_err}
use Rattle.pt_rights_conditions.proofs.reading.feet_from.Goals as goal

pub returns-in-Ok : goal.returns-in-Ok
returns-in-Ok c = λ feet in_range spelled.
    let top = in_range.1 in
    let read = parse-decimal 32 feet _ _ (omega arith) (omega arith) spelled c.parse.ensures.value.0 in
    let same = ok_value c.parse.result _ _ c.in-Ok.is read in
    let taken = rw (← same) at in_range in
    let value = rw same at c.of.ensures.value in
    some-from_only c.of.result feet (c.of.ensures.in_range.1 taken) value

pub returns-in-Err : goal.returns-in-Err
returns-in-Err c = λ feet in_range spelled.
    let top = in_range.1 in
    let read = parse-decimal 32 feet _ _ (omega arith) (omega arith) spelled c.parse.ensures.value.0 in
    absurd (ok-not_err c.parse.result _ _ read c.in-Err.is)
