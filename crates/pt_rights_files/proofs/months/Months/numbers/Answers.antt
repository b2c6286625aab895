use Rattle.std.proofs.Common.{◌≡◌, ◌≤◌, length, ◌+◌, ◌++◌, [], ◌∷◌, false, get_or, sym, ap, ◌∙◌, take_all, arith}
use Rattle.pt_rights_files.specs.Months.{numbers_of}
use Rattle.pt_rights_files.proofs.MonthMarks.{length-numbers_of-take, numbers_of-take_yes, numbers_of-take_no, AreMonths-numbers_of}
use Rattle.pt_rights_files.proofs.months.Months.numbers.Goals as goal
use Rattle.pt_rights_files.proofs.months.Months.numbers.Goals.{then-self-from, else-self-from}

pub push-requires : goal.push-requires
push-requires c =
    let few : length c.loop-index.numbers.items ≤ c.loop-index.index = rw c.loop-index.invariant.0 (length-numbers_of-take c.self.inside.has c.loop-index.index) in
    (omega arith, omega arith)

pub loop-index-preserved : goal.loop-index-preserved
loop-index-preserved c =
    let marks = c.self.inside.has in
    let size = c.loop-index.invariant.1 in
    let at = ap (λ i. get_or marks i false) c.from.ensures in
    elim c.if-self-from.branch [
      | then-self-from w ↦ (
        ap (λ n. n.items) w.numbers-is ∙ w.push.ensures.items
            ∙ ap (λ xs. xs ++ (c.loop-index.index + 1) ∷ []) c.loop-index.invariant.0
            ∙ sym (numbers_of-take_yes marks c.loop-index.index (omega arith) (sym at ∙ w.if-self-from.true)),
        size,
      )
      | else-self-from w ↦ (ap (λ n. n.items) w.numbers-is ∙ c.loop-index.invariant.0 ∙ sym (numbers_of-take_no marks c.loop-index.index (omega arith) (sym at ∙ w.if-self-from.false)), size)
    ]

pub returns-clause-in_range : goal.returns-clause-in_range
returns-clause-in_range c =
    let whole : c.loop-index.numbers.items ≡ numbers_of c.self.inside.has = c.loop-index.invariant.0 ∙ ap numbers_of (take_all c.loop-index.index c.self.inside.has (omega arith)) in
    rw whole (AreMonths-numbers_of c.self.inside.has (omega arith) c.self.invariant.1)
