use Rattle.std.proofs.Common.{◌≡◌, ◌+◌, ◌<◌, ◌∷◌, suc, length, drop, drop-cons, add-one, sym, ap, ◌∙◌, arith}
use Rattle.pt_desk_store.proofs.FileLemmas.{filled, filled-more}
use Rattle.pt_desk_store.proofs.answers.file_with.Goals as goal

pub loop-filed-preserved : goal.loop-filed-preserved
loop-filed-preserved c =
    let entries = c.args.entries.now in
    let i = c.loop-filed.filed-index in
    let filed = c.filed-item.result in
    let file = c.loop-filed.file in
    let rest = drop (i + 1) entries in
    let lt : i < length entries = omega arith in
    let these : drop i entries ≡ filed ∷ rest = rw add-one (drop-cons entries i filed lt ∙ ap (λ e. e ∷ drop (suc i) entries) (sym c.filed-item.is)) in
    let full = c.is_full.ensures in
    let room_left = c.if-is_full.false in
    let room : length file < 200 = grind arith in
    ap (λ f. filled f rest) c.in_ok-push_copy.ensures.value ∙ filled-more file filed rest room ∙ ap (filled file) (sym these) ∙ c.loop-filed.invariant
