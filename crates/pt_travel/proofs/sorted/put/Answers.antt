use Rattle.std.proofs.Common.{◌≡◌, ℕ, ◌<◌, ◌≤◌, inl, inr, List, length, ap, get_or, sym, subst, arith}
use Rattle.std.proofs.lemmas.Bool.{false≢true}
use Rattle.std.proofs.lemmas.List.{get_or_read}
use Rattle.pt_travel.specs.Chain.{Row}
use Rattle.pt_travel.specs.Table.{ComesBefore, Rises}
use Rattle.pt_travel.proofs.SortedLemmas.{before-cases, contains-insert, new-pair, rises-insert}
use Rattle.pt_travel.proofs.sorted.put.Goals as goal
use Rattle.pt_travel.proofs.sorted.put.Goals.{After-insert, else-k-len-via-then-k-len+else-same_places}
use Rattle.pt_travel.proofs.sorted.put.Goals.{else-k-len-via-else-k-len}

-- the row at the place found, if there is one, comes after the new one
after_it : (c : After-insert) → c.place_for-k.result < length c.args.rows.now.items
    → ComesBefore c.args.row (get_or c.args.rows.now.items c.place_for-k.result (0, 0, 0))
after_it c in_k =
    let rows = c.args.rows.now.items in
    let k = c.place_for-k.result in
    let is : c.deref.result.now ≡ rows = c.deref.ensures.value in
    let here : Row = get_or rows k (0, 0, 0) in
    let not_before = subst (λ (x : List Row). k < length x → ComesBefore (get_or x k (0, 0, 0)) c.args.row → ⊥) is
    c.place_for-k.ensures.after in_k in
    elim c.else-k-len.branch [
      | else-k-len-via-then-k-len+else-same_places w ↦
          elim (before-cases here c.args.row not_before) [
            | inl after ↦ after
            | inr same ↦
                let there = get_or_read rows k w.index.result.now in_k w.index.ensures (0, 0, 0) in
                absurd (false≢true (w.if-same_places.ensures.1
                (subst (λ (r : Row). (r.0 ≡ c.args.row.0) × (r.1 ≡ c.args.row.1)) (sym there) same)))
          ]
      | else-k-len-via-else-k-len w ↦ absurd (omega arith)
    ]

pub returns-in-Ok-clause-rises : goal.returns-in-Ok-clause-rises
returns-in-Ok-clause-rises c =
    let rows = c.args.rows.now.items in
    let k = c.place_for-k.result in
    let is : c.deref.result.now ≡ rows = c.deref.ensures.value in
    let within : k ≤ length rows = omega (arith, c.place_for-k.ensures.within, ap length is) in
    let before = subst (λ (x : List Row). (j : ℕ) → j < k → ComesBefore (get_or x j (0, 0, 0)) c.args.row) is
    c.place_for-k.ensures.before in
    subst Rises (sym c.in-Ok.ensures.items) (rises-insert rows c.requires k c.args.row within before
    (after_it ((goal.at.returns-in-Ok-clause-rises c).After-insert)))

pub returns-in-Ok-clause-rows : goal.returns-in-Ok-clause-rows
returns-in-Ok-clause-rows c other =
    let rows = c.args.rows.now.items in
    let k = c.place_for-k.result in
    let is : c.deref.result.now ≡ rows = c.deref.ensures.value in
    let within : k ≤ length rows = omega (arith, c.place_for-k.ensures.within, ap length is) in
    rw c.in-Ok.ensures.items (contains-insert rows c.requires k c.args.row within other)

pub returns-in-Err-clause-refused : goal.returns-in-Err-clause-refused
returns-in-Err-clause-refused c =
    let rows = c.args.rows.now.items in
    let k = c.place_for-k.result in
    let is : c.deref.result.now ≡ rows = c.deref.ensures.value in
    let within : k ≤ length rows = omega (arith, c.place_for-k.ensures.within, ap length is) in
    let before = subst (λ (x : List Row). (j : ℕ) → j < k → ComesBefore (get_or x j (0, 0, 0)) c.args.row) is
    c.place_for-k.ensures.before in
    inl (
      c.into.ensures,
      new-pair rows c.requires k c.args.row within before
          (after_it ((goal.at.returns-in-Err-clause-refused c).After-insert)),
    )
