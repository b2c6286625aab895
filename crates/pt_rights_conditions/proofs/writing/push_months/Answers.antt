use Rattle.std.proofs.Common.{◌≡◌, ◌≤◌, ◌+◌, ◌∷◌, ◌++◌, [], length, arith, length-append, ap, ◌∙◌, decimal}
use Rattle.pt_rights_conditions.proofs.JoinLemmas.{join-take, join-first}
use Rattle.pt_rights_conditions.proofs.NumbersLemmas.{length-month}
use Rattle.pt_rights_conditions.proofs.writing.push_months.Goals as goal
use Rattle.pt_rights_conditions.proofs.writing.push_months.Goals.{then-index-gt0, else-index-gt0}

pub push-requires-in-loop-index : goal.push-requires-in-loop-index
push-requires-in-loop-index c =
    let spelled = c.as_bytes.ensures.value ∙ c.format.ensures.text in
    let months = rw (← c.as_slice-number-items.ensures.value) at c.numbers.ensures.in_range in
    let month = length-month c.as_slice-number-items.result.now c.loop-index.index 0 months c.loop-index-test.true in
    let digits : length c.as_bytes.result.now ≤ 2 = omega (arith, ap length spelled, month) in
    let comma : length c.if-index-gt0.text.items ≤ length c.loop-index.text.items + 1 = elim c.if-index-gt0.branch [
      | then-index-gt0 w ↦ let e : length c.if-index-gt0.text.items ≡ length c.loop-index.text.items + 1 = ap
          (λ t. length t.items) w.text-is ∙ ap length w.push.ensures
          ∙ length-append c.loop-index.text.items (44 ∷ []) in omega (arith, e)
      | else-index-gt0 w ↦ let e : length c.if-index-gt0.text.items ≡ length c.loop-index.text.items = ap (λ t. length t.items) w.text-is in omega (arith, e)
    ] in
    omega (arith, c.loop-index.invariant.short, digits, comma, c.as_slice-number-items.ensures.fits, c.requires, c.loop-index-test.true)

pub loop-index-preserved : goal.loop-index-preserved
loop-index-preserved c =
    let spelled = c.as_bytes.ensures.value ∙ c.format.ensures.text in
    let months = rw (← c.as_slice-number-items.ensures.value) at c.numbers.ensures.in_range in
    let month = length-month c.as_slice-number-items.result.now c.loop-index.index 0 months c.loop-index-test.true in
    let digits : length c.as_bytes.result.now ≤ 2 = omega (arith, ap length spelled, month) in
    let new = c.push-in-loop-index.ensures ∙ ap (λ t. c.if-index-gt0.text.items ++ t) spelled in
    let longer : length c.push-in-loop-index.new.text.items ≡ length c.if-index-gt0.text.items + length
    c.as_bytes.result.now = ap length c.push-in-loop-index.ensures
    ∙ length-append c.if-index-gt0.text.items c.as_bytes.result.now in
    elim c.if-index-gt0.branch [
      | then-index-gt0 w ↦
          let parted = ap (λ t. t.items) w.text-is ∙ w.push.ensures in
          let e : length c.if-index-gt0.text.items ≡ length c.loop-index.text.items + 1 = ap length parted ∙ length-append c.loop-index.text.items (44 ∷ []) in
          record {
            written = join-take 44 decimal _ _ _ _ c.as_slice-number-items.result.now c.loop-index.index 0 c.loop-index.invariant.written w.if-index-gt0.true c.loop-index-test.true parted new;
            short = omega (arith, e, longer, digits, c.loop-index.invariant.short);
          }
      | else-index-gt0 w ↦
          let same = ap (λ t. t.items) w.text-is in
          let e : length c.if-index-gt0.text.items ≡ length c.loop-index.text.items = ap length same in
          record {
            written = join-first 44 decimal _ _ _ _ c.as_slice-number-items.result.now c.loop-index.index 0 c.loop-index.invariant.written w.if-index-gt0.false c.loop-index-test.true same new;
            short = omega (arith, e, longer, digits, c.loop-index.invariant.short);
          }
    ]
