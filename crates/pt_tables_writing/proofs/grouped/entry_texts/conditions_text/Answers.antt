use Rattle.std.proofs.Common.{◌≡◌, ◌≤◌, ◌+◌, ◌*◌, ◌∷◌, ◌++◌, [], length, arith, length-append, ap, ◌∙◌}
use Rattle.pt_rights_conditions.specs.Texts.{condition_text}
use Rattle.pt_rights_conditions.proofs.JoinLemmas.{join-take, join-first}
use Rattle.pt_tables_writing.proofs.grouped.entry_texts.conditions_text.Goals as goal
use Rattle.pt_tables_writing.proofs.grouped.entry_texts.conditions_text.Goals.{then-index-gt0, else-index-gt0}

pub push-requires-in-loop-index : goal.push-requires-in-loop-index
push-requires-in-loop-index c =
    let front : length c.if-index-gt0.text.items ≤ 44 * c.loop-index.index = elim c.if-index-gt0.branch [
      | then-index-gt0 w ↦ let e : length c.if-index-gt0.text.items ≡ length c.loop-index.text.items + 1 = ap
          (λ t. length t.items) w.text-is ∙ ap length w.push.ensures
          ∙ length-append c.loop-index.text.items (59 ∷ []) in omega
          (arith, e, w.if-index-gt0.true, c.loop-index.invariant.short)
      | else-index-gt0 w ↦ let e : length c.if-index-gt0.text.items ≡ length c.loop-index.text.items = ap (λ t. length t.items) w.text-is in omega (arith, e, c.loop-index.invariant.short)
    ] in
    omega (arith, front, c.as_slice.ensures.fits, c.loop-index-test.true, c.as_slice-condition-items.ensures.in_range.1)

pub loop-index-preserved : goal.loop-index-preserved
loop-index-preserved c =
    let spelled = c.as_slice.ensures.value ∙ c.condition_text.ensures.value in
    let new = c.push-in-loop-index.ensures ∙ ap (λ t. c.if-index-gt0.text.items ++ t) (spelled ∙ ap condition_text c.condition-item.is) in
    let longer : length c.push-in-loop-index.new.text.items ≡ length c.if-index-gt0.text.items + length
    c.as_slice.result.now = ap length c.push-in-loop-index.ensures
    ∙ length-append c.if-index-gt0.text.items c.as_slice.result.now in
    elim c.if-index-gt0.branch [
      | then-index-gt0 w ↦
          let parted = ap (λ t. t.items) w.text-is ∙ w.push.ensures in
          let e : length c.if-index-gt0.text.items ≡ length c.loop-index.text.items + 1 = ap length parted ∙ length-append c.loop-index.text.items (59 ∷ []) in
          record {
            written = join-take 59 condition_text [] _ _ _ c.as_slice-condition-items.result.now c.loop-index.index _
                c.loop-index.invariant.written w.if-index-gt0.true c.loop-index-test.true parted new;
            short = omega (arith, e, longer, w.if-index-gt0.true, c.as_slice.ensures.fits, c.loop-index.invariant.short);
          }
      | else-index-gt0 w ↦
          let same = ap (λ t. t.items) w.text-is in
          let e : length c.if-index-gt0.text.items ≡ length c.loop-index.text.items = ap length same in
          record {
            written = join-first 59 condition_text [] _ _ _ c.as_slice-condition-items.result.now c.loop-index.index _
                c.loop-index.invariant.written w.if-index-gt0.false c.loop-index-test.true same new;
            short = omega (arith, e, longer, c.as_slice.ensures.fits, c.loop-index.invariant.short);
          }
    ]
