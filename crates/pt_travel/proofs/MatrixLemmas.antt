-- Lines of a matrix before and after the rows of a table are put into it.
use Rattle.std.proofs.Common.{◌≡◌, ℕ, ◌+◌, ◌<◌, ◌≤◌, inl, inr, sym, ap, ◌∙◌, subst, List, [], ◌∷◌, length}
use Rattle.std.proofs.Common.{get_or, set, replicate, eqb, cond, arith}
use Rattle.std.proofs.lemmas.Bool.{cases_eq, cond-true, cond-false, eq-eqb, ne_eqb}
use Rattle.std.proofs.lemmas.List.{get_or-replicate, get_or-set_same, get_or-set_other, length-replicate}
use Rattle.std.proofs.lemmas.List.{get_or_default}
use Rattle.std.proofs.lemmas.List.Sums.{sum_by-cons}
use Rattle.pt_travel.specs.Chain.{Row}
use Rattle.pt_travel.specs.Closure.{IsBelow, IsAttained, IsAmong, IsClosedOver}
use Rattle.pt_travel.specs.Matrix.{entry, IsCapped, PutsRow}

pub alone-at : (n far i j : ℕ) → i < n → j < n → get_or (set (replicate n far) i 0) j 0 ≡ cond (eqb i j) 0 far
alone-at n far i j in_i in_j = elim (cases_eq j i) [
  | inl same ↦
      rw (cond-true (eqb i j) 0 far (eq-eqb i j (sym same)), same)
      (get_or-set_same (replicate n far) i 0 0 (omega (arith, length-replicate n far)))
  | inr apart ↦
      rw (cond-false (eqb i j) 0 far (ne_eqb i j (λ e. apart (sym e))))
      (get_or-set_other (replicate n far) i j 0 0 apart ∙ get_or-replicate n j far 0 in_j)
]

-- the first rows of a table are in a matrix
pub record StandsUpTo (table : List Row) (places : List ℕ) (count : ℕ) (lines : List (List ℕ)) : Type 0 where
  pub size : length lines ≡ length places
  pub capped : IsCapped lines
  pub attained : (i j : ℕ) → i < length places → j < length places
      → IsAttained table (get_or places i 0) (get_or places j 0) (entry lines i j)
  pub stays : (i : ℕ) → i < length places → entry lines i i ≤ 0
  pub stands : (s i j : ℕ) → s < count → i < length places → j < length places
      → get_or places i 0 ≡ (get_or table s (0, 0, 0)).0 → get_or places j 0 ≡ (get_or table s (0, 0, 0)).1
      → entry lines i j ≤ (get_or table s (0, 0, 0)).2

module _ (table : List Row) (places : List ℕ) (few : length places ≤ 100) where
  pub stands-more : (k : ℕ) (old new : List (List ℕ)) (row : Row) → k < length table → get_or table k (0, 0, 0) ≡ row
      → StandsUpTo table places k old → PutsRow places row old new
      → StandsUpTo table places (k + 1) new
  stands-more k old new row in_k at was put = record {
    size = put.size ∙ was.size;
    capped = λ i j in_i in_j. entry-capped i j (omega (arith, put.size)) in_j;
    attained = λ i j in_i in_j. entry-attained i j in_i in_j;
    stays = λ i in_i. omega (arith, put.shrinks i i (omega (arith, was.size)) (omega arith), was.stays i in_i);
    stands = λ s i j in_s in_i in_j from to. entry-stands s i j in_s in_i in_j from to;
  }
    where
      entry-capped : (i j : ℕ) → i < length old → j < 100 → entry new i j ≤ 1440
      entry-capped i j in_i in_j = omega (arith, put.shrinks i j in_i in_j, was.capped i j in_i in_j)

      entry-attained : (i j : ℕ) → i < length places → j < length places
          → IsAttained table (get_or places i 0) (get_or places j 0) (entry new i j)
      entry-attained i j in_i in_j within = elim (put.others i j (omega (arith, was.size)) (omega (arith, was.size))) [
        | inl same ↦ let (chain, leads, is) = was.attained i j in_i in_j (omega arith) in (chain, leads, is ∙ sym same)
        | inr put_here ↦
            let (from, to, is) = put_here in (
              row ∷ [],
              ((k, in_k, get_or_default table k row (0, 0, 0) in_k ∙ at), sym from, sym to),
              sum_by-cons
                  (λ (r : Row). r.2) row [] ∙ (omega arith),
            )
      ]

      entry-stands : (s i j : ℕ) → s < k + 1 → i < length places → j < length places
          → get_or places i 0 ≡ (get_or table s (0, 0, 0)).0 → get_or places j 0 ≡ (get_or table s (0, 0, 0)).1
          → entry new i j ≤ (get_or table s (0, 0, 0)).2
      entry-stands s i j in_s in_i in_j from to = elim (cases_eq s k) [
        | inl last ↦
            let is : get_or table s (0, 0, 0) ≡ row = ap (λ (x : ℕ). get_or table x (0, 0, 0)) last ∙ at in
            rw is (put.stands i j (omega (arith, was.size)) (omega (arith, was.size))
            (from ∙ ap (λ (r : Row). r.0) is) (to ∙ ap (λ (r : Row). r.1) is))
        | inr earlier ↦
            omega (
              arith,
              put.shrinks i j (omega (arith, was.size)) (omega arith),
              was.stands s i j (omega arith) in_i
                  in_j from to,
            )
      ]

  -- once all rows are put in, no chain without a middle place takes less
  pub stands-all : (lines : List (List ℕ))
      → ((i j : ℕ) → i < length places → j < length places → get_or places i 0 ≡ get_or places j 0 → i ≡ j)
      → StandsUpTo table places (length table) lines
      → IsClosedOver table places 0 lines
  stands-all lines distinct all = record {
    size = all.size;
    capped = all.capped;
    attained = all.attained;
    below = λ i j in_i in_j chain leads via. entry-below i j in_i in_j chain leads via;
  }
    where
      entry-below : (i j : ℕ) → i < length places → j < length places
          → IsBelow table (IsAmong places 0) (get_or places i 0) (get_or places j 0) (entry lines i j)
      entry-below i j in_i in_j [] leads via =
          let same = distinct i j in_i in_j leads in
          let at = all.stays i in_i in
          subst (λ (x : ℕ). entry lines i x ≤ 0) same at
      entry-below i j in_i in_j (row ∷ []) (in_table, begins, ends) via =
          let is : get_or table in_table.0 (0, 0, 0) ≡ row = get_or_default table in_table.0 (0, 0, 0) row in_table.1
          ∙ in_table.2 in
          let at = rw is at (all.stands in_table.0 i j in_table.1 in_i in_j) in
          omega (arith, at (sym begins) (sym ends), sum_by-cons (λ (r : Row). r.2) row [])
      entry-below i j in_i in_j (row ∷ next ∷ rows) leads (none, via) = absurd (omega (arith, none.1))
