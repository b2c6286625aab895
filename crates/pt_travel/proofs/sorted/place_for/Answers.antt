use Rattle.std.proofs.Common.{ℕ, ◌-◌, inl, inr, get_or, length, refl, sym, subst, arith}
use Rattle.std.proofs.lemmas.Bool.{cases_eq}
use Rattle.pt_travel.specs.Chain.{Row}
use Rattle.pt_travel.specs.Table.{ComesBefore}
use Rattle.pt_travel.proofs.SortedLemmas.{before-trans, rises-apart}
use Rattle.pt_travel.proofs.sorted.place_for.Goals as goal

pub returns-in-Some-clause-before : goal.returns-in-Some-clause-before
returns-in-Some-clause-before c j in_j =
    let rows = c.args.rows.now in
    let row = c.args.row.now in
    let end = length rows - 1 in
    let is = c.in-Some.ensures.item.3.1 (0, 0, 0) in
    let last : ComesBefore (get_or rows end (0, 0, 0)) row = subst (λ (r : Row). ComesBefore r row) is
    (c.if-comes_before.ensures.0 refl) in
    elim (cases_eq j end) [
      | inl here ↦ subst (λ (i : ℕ). ComesBefore (get_or rows i (0, 0, 0)) row) (sym here) last
      | inr apart ↦
          before-trans (get_or rows j (0, 0, 0)) (get_or rows end (0, 0, 0)) row
          (rises-apart rows c.requires j end (omega arith) (omega arith)) last
    ]
