-- Rows in order: any two of them, and one more in its place.
use Rattle.std.proofs.Common.{◌≡◌, ℕ, zero, suc, ◌+◌, ◌-◌, ◌<◌, ◌≤◌, ◌⊎◌, inl, inr, ◌↔◌, sym, ap, ◌∙◌, subst, List}
use Rattle.std.proofs.Common.{length, get_or, Contains, arith}
use Rattle.std.specs.List.{insert}
use Rattle.std.proofs.lemmas.Bool.{cases_lt, cases_order}
use Rattle.std.proofs.lemmas.List.{get_or_default}
use Rattle.std.proofs.lemmas.List.Edits.{length-insert, get_or-insert_below, get_or-insert_at, get_or-insert_above}
use Rattle.pt_travel.specs.Chain.{Row}
use Rattle.pt_travel.specs.Table.{ComesBefore, IsNewPair, Rises}

pub before-trans : (a b c : Row) → ComesBefore a b → ComesBefore b c → ComesBefore a c
before-trans a b c (inl less) (inl more) = inl (omega arith)
before-trans a b c (inl less) (inr more) = inl (omega (arith, more.0))
before-trans a b c (inr less) (inl more) = inl (omega (arith, less.0))
before-trans a b c (inr less) (inr more) = inr (less.0 ∙ more.0, omega (arith, less.1, more.1))

-- no row comes before itself, and of two others one comes before the other
pub before-apart : (a b : Row) → a.0 ≡ b.0 → a.1 ≡ b.1 → ComesBefore a b → ⊥
before-apart a b from to (inl less) = omega arith
before-apart a b from to (inr less) = omega (arith, less.1)

pub before-cases : (a b : Row) → (ComesBefore a b → ⊥) → ComesBefore b a ⊎ ((a.0 ≡ b.0) × (a.1 ≡ b.1))
before-cases a b not_before = elim (cases_order a.0 b.0) [
  | inl from ↦ elim (cases_order a.1 b.1) [
    | inl to ↦ inr (from, to)
    | inr apart ↦ elim apart [
      | inl less ↦ absurd (not_before (inr (from, less)))
      | inr more ↦ inl (inr (sym from, more))
    ]
  ]
  | inr apart ↦ elim apart [ inl less ↦ absurd (not_before (inl less)) | inr more ↦ inl (inl more) ]
]

module _ (rows : List Row) (rises : Rises rows) where
  rises-by : (i n : ℕ) → i + n + 1 < length rows
      → ComesBefore (get_or rows i (0, 0, 0)) (get_or rows (i + n + 1) (0, 0, 0))
  rises-by i zero in_j =
      subst (λ (x : ℕ). ComesBefore (get_or rows i (0, 0, 0)) (get_or rows x (0, 0, 0))) (omega arith)
      (rises i (omega arith))
  rises-by i (suc n) in_j =
      let last = rises (i + n + 1) (omega arith) in
      let all = before-trans (get_or rows i (0, 0, 0)) (get_or rows (i + n + 1) (0, 0, 0))
      (get_or rows (i + n + 1 + 1) (0, 0, 0)) (rises-by i n (omega arith)) last in
      subst (λ (x : ℕ). ComesBefore (get_or rows i (0, 0, 0)) (get_or rows x (0, 0, 0))) (omega arith) all

  pub rises-apart : (i j : ℕ) → i < j → j < length rows
      → ComesBefore (get_or rows i (0, 0, 0)) (get_or rows j (0, 0, 0))
  rises-apart i j less in_j =
      let e : i + (j - i - 1) + 1 ≡ j = omega arith in
      subst (λ (x : ℕ). ComesBefore (get_or rows i (0, 0, 0)) (get_or rows x (0, 0, 0))) e
      (rises-by i (j - i - 1) (omega arith))

  -- each pair of places occurs once
  pub rises-once : (row other : Row) → Contains rows row → Contains rows other → row.0 ≡ other.0 → row.1 ≡ other.1
      → row ≡ other
  rises-once row other (i, in_i, at_i) (j, in_j, at_j) from to =
      let is_i : get_or rows i (0, 0, 0) ≡ row = get_or_default rows i (0, 0, 0) row in_i ∙ at_i in
      let is_j : get_or rows j (0, 0, 0) ≡ other = get_or_default rows j (0, 0, 0) other in_j ∙ at_j in
      elim (cases_order i j) [
        | inl same ↦ sym is_i ∙ ap (λ (x : ℕ). get_or rows x (0, 0, 0)) same ∙ is_j
        | inr apart ↦ elim apart [
          | inl less ↦ absurd (before-apart row other from to (rw (is_i, is_j) at (rises-apart i j less in_j)))
          | inr more ↦
              absurd (before-apart other row (sym from) (sym to) (rw (is_j, is_i) at (rises-apart j i more in_i)))
        ]
      ]

  module _ (k : ℕ) (row : Row) (within : k ≤ length rows) where
    pub new-pair : ((j : ℕ) → j < k → ComesBefore (get_or rows j (0, 0, 0)) row)
        → (k < length rows → ComesBefore row (get_or rows k (0, 0, 0))) → IsNewPair rows row
    new-pair before after other (i, in_i, at) from to =
        let is : get_or rows i (0, 0, 0) ≡ other = get_or_default rows i (0, 0, 0) other in_i ∙ at in
        elim (cases_order i k) [
          | inl here ↦
              let next = subst (λ (x : ℕ). ComesBefore row (get_or rows x (0, 0, 0))) (sym here)
              (after (omega arith)) in
              before-apart row other (sym from) (sym to) (rw is at next)
          | inr apart ↦ elim apart [
            | inl below ↦ before-apart other row from to (rw is at (before i below))
            | inr above ↦
                let last = rw is at (rises-apart k i above in_i) in
                before-apart row other (sym from) (sym to)
                (before-trans row (get_or rows k (0, 0, 0)) other (after (omega arith)) last)
          ]
        ]

    pub rises-insert : ((j : ℕ) → j < k → ComesBefore (get_or rows j (0, 0, 0)) row)
        → (k < length rows → ComesBefore row (get_or rows k (0, 0, 0))) → Rises (insert rows k row)
    rises-insert before after j in_j = elim (cases_lt (j + 1) k) [
      | inl below ↦
          rw (
            get_or-insert_below rows k row (0, 0, 0) j (omega arith) within,
            get_or-insert_below rows k row
                (0, 0, 0) (j + 1) below within,
          ) (rises j (omega arith))
      | inr above ↦ elim (cases_order (j + 1) k) [
        | inl last ↦
            subst (λ (x : ℕ). ComesBefore (get_or (insert rows k row) j (0, 0, 0))
            (get_or (insert rows k row) x (0, 0, 0))) (sym last)
            (rw (
              get_or-insert_below rows k row (0, 0, 0) j (omega arith) within,
              get_or-insert_at rows k row
                  (0, 0, 0) within,
            ) (before j (omega arith)))
        | inr apart ↦ elim (cases_order j k) [
          | inl here ↦
              rw (get_or-insert_above rows k row (0, 0, 0) j (omega arith) within)
              (subst (λ (x : ℕ). ComesBefore (get_or (insert rows k row) x (0, 0, 0)) (get_or rows x (0, 0, 0)))
              (sym here)
              (rw (get_or-insert_at rows k row (0, 0, 0) within)
              (after (omega (arith, length-insert rows k row within)))))
          | inr beyond ↦
              let e : j - 1 + 1 ≡ j = omega arith in
              let old = rises (j - 1) (omega (arith, length-insert rows k row within)) in
              let first = get_or-insert_above rows k row (0, 0, 0) (j - 1) (omega arith) within in
              rw (get_or-insert_above rows k row (0, 0, 0) j (omega arith) within)
              (subst (λ (x : ℕ). ComesBefore (get_or (insert rows k row) x (0, 0, 0)) (get_or rows x (0, 0, 0))) e
              (rw first (old)))
        ]
      ]
    ]

    pub contains-insert : (other : Row) → Contains (insert rows k row) other ↔ (Contains rows other ⊎ (other ≡ row))
    contains-insert other = (found, put)
      where
        found : Contains (insert rows k row) other → Contains rows other ⊎ (other ≡ row)
        found (j, in_j, at) = elim (cases_order j k) [
          | inl here ↦
              inr (sym at ∙ ap (λ (x : ℕ). get_or (insert rows k row) x other) here ∙ get_or-insert_at rows k row
              other within)
          | inr apart ↦ elim apart [
            | inl below ↦ inl (j, omega arith, sym (get_or-insert_below rows k row other j below within) ∙ at)
            | inr above ↦
                let e : j - 1 + 1 ≡ j = omega arith in
                inl (
                  j - 1,
                  omega (arith, length-insert rows k row within),
                  sym (get_or-insert_above rows k row other (j - 1) (omega arith) within) ∙ ap
                      (λ (x : ℕ). get_or (insert rows k row) x other) e ∙ at,
                )
          ]
        ]

        put : Contains rows other ⊎ (other ≡ row) → Contains (insert rows k row) other
        put (inr same) =
            (k, omega (arith, length-insert rows k row within), get_or-insert_at rows k row other within ∙ sym same)
        put (inl (j, in_j, at)) = elim (cases_lt j k) [
          | inl below ↦ (
            j,
            omega (arith, length-insert rows k row within),
            get_or-insert_below rows k row other j below within
                ∙ at,
          )
          | inr above ↦ (
            j + 1,
            omega (arith, length-insert rows k row within),
            get_or-insert_above rows k row other j above
                within ∙ at,
          )
        ]
