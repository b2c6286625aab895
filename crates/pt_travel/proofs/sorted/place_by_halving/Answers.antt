use Rattle.std.proofs.Common.{◌≡◌, ℕ, ◌+◌, ◌-◌, ◌/◌, inl, inr, get_or, refl, subst, arith}
use Rattle.std.proofs.lemmas.Bool.{cases_lt}
use Rattle.std.proofs.lemmas.List.{get_or_read}
use Rattle.pt_travel.specs.Chain.{Row}
use Rattle.pt_travel.specs.Table.{ComesBefore}
use Rattle.pt_travel.proofs.SortedLemmas.{before-trans, rises-apart}
use Rattle.pt_travel.proofs.sorted.place_by_halving.Goals as goal

pub loop-low-preserved-then-comes_before : goal.loop-low-preserved-then-comes_before
loop-low-preserved-then-comes_before c =
    let rows = c.args.rows.now in
    let row = c.args.row.now in
    let middle = c.loop-low.low + (c.loop-low.high - c.loop-low.low) / 2 in
    let found = c.index-rows-middle.result in
    let is = get_or_read rows middle found (omega (arith, c.loop-low.invariant.within)) c.index-rows-middle.is
    (0, 0, 0) in
    let here : ComesBefore (get_or rows middle (0, 0, 0)) row = subst (λ (r : Row). ComesBefore r row) is
    (c.if-comes_before.ensures.0 refl) in
    record {
      ordered = omega (arith, c.loop-low.invariant.ordered);
      within = c.loop-low.invariant.within;
      before = λ j less. elim (cases_lt j middle) [
        | inl earlier ↦
            before-trans (get_or rows j (0, 0, 0)) (get_or rows middle (0, 0, 0)) row
            (rises-apart rows c.requires j middle earlier (omega (arith, c.loop-low.invariant.within))) here
        | inr last ↦
            let e : middle ≡ j = omega arith in subst (λ (x : ℕ). ComesBefore (get_or rows x (0, 0, 0)) row) e here
      ];
      after = c.loop-low.invariant.after;
    }
