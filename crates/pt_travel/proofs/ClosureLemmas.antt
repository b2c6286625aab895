-- Chains by the places between their ends, what one more such place adds, and what the closed matrix answers.
use Rattle.std.proofs.Common.{◌≡◌, ℕ, ◌+◌, ◌<◌, ◌≤◌, ◌⊎◌, inl, inr, refl, sym, ap, ◌∙◌, subst, Option, None, Some}
use Rattle.std.proofs.Common.{List, [], ◌∷◌, ◌++◌, length, get_or, min, eqb, leb, Contains, arith}
use Rattle.std.specs.List.{position}
use Rattle.std.proofs.lemmas.Bool.{cases_lt, cases_eq, cond-true, cond-false, eq-eqb, ne_eqb, le-leb, lt-leb}
use Rattle.std.proofs.lemmas.List.{get_or_default}
use Rattle.std.proofs.lemmas.List.Elements.{All-contains}
use Rattle.std.proofs.lemmas.List.Sums.{sum_by-cons, sum_by-append}
use Rattle.pt_travel.specs.Chain.{Row, IsChain, total_of, IsTime}
use Rattle.pt_travel.specs.Closed.{within_a_day, entry_at, minutes_between}
use Rattle.pt_travel.specs.Closure.{Via, IsBelow, IsAttained, IsAmong, IsClosedOver}
use Rattle.pt_travel.specs.Matrix.{entry, HasTriangles}
use Rattle.pt_travel.specs.Table.{NamesOnly}
use Rattle.pt_travel.proofs.PlaceLemmas.{position-absent, position-found}

-- there is a chain over these places alone that takes at most these minutes
abbrev Within : List Row → (ℕ → Type 0) → ℕ → ℕ → ℕ → Type 0
Within table Is from to minutes =
    (chain : List Row) × IsChain table from to chain × Via Is chain × (total_of chain ≤ minutes)

total-cons : (row : Row) (rows : List Row) → total_of (row ∷ rows) ≡ row.2 + total_of rows
total-cons row rows = sum_by-cons (λ (r : Row). r.2) row rows

pub total-append : (rows more : List Row) → total_of (rows ++ more) ≡ total_of rows + total_of more
total-append rows more = sum_by-append (λ (r : Row). r.2) rows more

module _ (table : List Row) where
  Via-cons : (Is : ℕ → Type 0) (row : Row) (rows : List Row) → Is row.1 → Via Is rows → Via Is (row ∷ rows)
  Via-cons Is row [] is via = tt
  Via-cons Is row (next ∷ rows) is via = (is, via)

  Within-cons : (Is : ℕ → Type 0) (row : Row) (from to n : ℕ) → Contains table row → row.0 ≡ from → Is row.1
      → Within table Is row.1 to n → Within table Is from to (row.2 + n)
  Within-cons Is row from to n in_table begins is (chain, leads, via, less) =
      (row ∷ chain, (in_table, begins, leads), Via-cons Is row chain is via, omega (arith, total-cons row chain))

  Within-at : (Is : ℕ → Type 0) (from to n m : ℕ) → n ≤ m → Within table Is from to n → Within table Is from to m
  Within-at Is from to n m more (chain, leads, via, less) = (chain, leads, via, omega arith)

  -- two chains, one after the other
  pub chain-append : (from middle to : ℕ) (rows more : List Row) → IsChain table from middle rows
      → IsChain table middle to more → IsChain table from to (rows ++ more)
  chain-append from middle to [] more here leads = subst (λ a. IsChain table a to more) (sym here) leads
  chain-append from middle to (row ∷ rows) more (in_table, begins, rest) leads =
      (in_table, begins, chain-append row.1 middle to rows more rest leads)

  -- a chain over one more place goes without that place, or first to it and then on from it
  split : (Is More : ℕ → Type 0) (middle : ℕ) → ((x : ℕ) → More x → Is x ⊎ (x ≡ middle))
      → (chain : List Row) (from to : ℕ) → IsChain table from to chain → Via More chain
      → Within table Is from to (total_of chain)
      ⊎ ((m n : ℕ) × Within table Is from middle m × Within table Is middle to n × (m + n ≤ total_of chain))
  split Is More middle cases [] from to leads via = inl ([], leads, tt, omega arith)
  split Is More middle cases (row ∷ []) from to leads via = inl (row ∷ [], leads, tt, omega arith)
  split Is More middle cases (row ∷ next ∷ rows) from to (in_table, begins, leads) (more, via) =
      let rest = split Is More middle cases (next ∷ rows) row.1 to leads via in
      let sum = total-cons row (next ∷ rows) in
      let n = total_of (next ∷ rows) in
      elim (cases row.1 more) [
        | inl is ↦ elim rest [
          | inl without ↦
              inl (Within-at Is from to (row.2 + n) _ (omega arith)
              (Within-cons Is row from to n in_table begins is without))
          | inr over ↦
              let (m, k, first, then_on, less) = over in
              inr (row.2 + m, k, Within-cons Is row from middle m in_table begins is first, then_on, omega arith)
        ]
        | inr at ↦
            let first : Within table Is from middle row.2 = (
              row ∷ [],
              (in_table, begins, at),
              tt,
              omega
                  (arith, total-cons row []),
            ) in
            elim rest [
              | inl without ↦ inr (row.2, n, first, subst (λ (x : ℕ). Within table Is x to n) at without, omega arith)
              | inr over ↦
                  let (m, k, _, then_on, less) = over in
                  inr (row.2, k, first, then_on, omega arith)
            ]
      ]

  -- an entry of the closure by one more middle place
  pub below-more : (Is More : ℕ → Type 0) (middle : ℕ) → ((x : ℕ) → More x → Is x ⊎ (x ≡ middle))
      → (from to direct first rest minutes : ℕ)
      → IsBelow table Is from to direct → IsBelow table Is from middle first → IsBelow table Is middle to rest
      → minutes ≤ direct → minutes ≤ first + rest
      → IsBelow table More from to minutes
  below-more Is More middle cases from to direct first rest minutes below_direct below_first below_rest least_direct
      least_over chain leads via =
      elim (split Is More middle cases chain from to leads via) [
        | inl without ↦
            let (chain', leads', via', less) = without in
            omega (arith, below_direct chain' leads' via')
        | inr over ↦
            let (m, n, before, after, less) = over in
            let (chain1, leads1, via1, less1) = before in
            let (chain2, leads2, via2, less2) = after in
            omega (arith, below_first chain1 leads1 via1, below_rest chain2 leads2 via2)
      ]

  pub attained-over : (from middle to first rest : ℕ) → IsAttained table from middle first
      → IsAttained table middle to rest → IsAttained table from to (first + rest)
  attained-over from middle to first rest at_first at_rest below =
      let (chain1, leads1, is1) = at_first (omega arith) in
      let (chain2, leads2, is2) = at_rest (omega arith) in (
        chain1 ++ chain2,
        chain-append from middle to chain1 chain2 leads1 leads2,
        omega
            (arith, total-append chain1 chain2),
      )

  -- a line and a column of the next matrix
  pub closed-more : (places : List ℕ) (k : ℕ) (old new : List (List ℕ)) → length places ≤ 100 → k < length places
      → IsClosedOver table places k old
      → length new ≡ length old
      → ((i j : ℕ) → i < length old → j < 100 → entry new i j ≡ min (entry old i j) (entry old i k + entry old k j))
      → IsClosedOver table places (k + 1) new
  closed-more places k old new few in_range was size entries = record {
    size = size ∙ was.size;
    capped = λ i j in_i in_j. capped-at i j (omega (arith, was.size)) in_j;
    attained = λ i j in_i in_j. attained-at i j in_i in_j;
    below = λ i j in_i in_j. below-at i j in_i in_j;
  }
    where
      capped-at : (i j : ℕ) → i < length old → j < 100 → entry new i j ≤ 1440
      capped-at i j in_i in_j = omega (arith, entries i j in_i in_j, was.capped i j in_i in_j)

      attained-at : (i j : ℕ) → i < length places → j < length places
          → IsAttained table (get_or places i 0) (get_or places j 0) (entry new i j)
      attained-at i j in_i in_j =
          let e = entries i j (omega (arith, was.size)) (omega arith) in
          let over = attained-over (get_or places i 0) (get_or places k 0) (get_or places j 0) (entry old i k)
          (entry old k j) (was.attained i k in_i in_range) (was.attained k j in_range in_j) in
          elim (cases_lt (entry old i k + entry old k j) (entry old i j)) [
            | inl shorter ↦ let e' : entry new i j ≡ entry old i k + entry old k j = omega arith in rw e' over
            | inr longer ↦ let e' : entry new i j ≡ entry old i j = omega arith in rw e' (was.attained i j in_i in_j)
          ]

      cases : (x : ℕ) → IsAmong places (k + 1) x → IsAmong places k x ⊎ (x ≡ get_or places k 0)
      cases x (i, in_i, is) = elim (cases_lt i k) [
        | inl earlier ↦ inl (i, earlier, is)
        | inr last ↦ inr (sym is ∙ ap (λ (y : ℕ). get_or places y 0) (omega arith))
      ]

      below-at : (i j : ℕ) → i < length places → j < length places
          → IsBelow table (IsAmong places (k + 1)) (get_or places i 0) (get_or places j 0) (entry new i j)
      below-at i j in_i in_j =
          let e = entries i j (omega (arith, was.size)) (omega arith) in
          below-more (IsAmong places k) (IsAmong places (k + 1)) (get_or places k 0) cases (get_or places i 0)
          (get_or places j 0) (entry old i j) (entry old i k) (entry old k j) (entry new i j)
          (was.below i j in_i in_j) (was.below i k in_i in_range) (was.below k j in_range in_j) (omega arith)
          (omega arith)

  -- every chain goes over the places that the table names
  via-all : (places : List ℕ) → NamesOnly places table → (chain : List Row) (from to : ℕ)
      → IsChain table from to chain → Via (IsAmong places (length places)) chain
  via-all places names [] from to leads = tt
  via-all places names (row ∷ []) from to leads = tt
  via-all places names (row ∷ next ∷ rows) from to (in_table, begins, leads) =
      let at = (All-contains (λ (r : Row). Contains places r.0 × Contains places r.1) table row names in_table).1 in
      ((at.0, at.1, get_or_default places at.0 0 row.1 at.1 ∙ at.2), via-all places names (next ∷ rows) row.1 to leads)

  module _ (places : List ℕ) (lines : List (List ℕ)) (names : NamesOnly places table)
      (closed : IsClosedOver table places (length places) lines) where
    least-entry : (i j : ℕ) → i < length places → j < length places → (chain : List Row)
        → IsChain table (get_or places i 0) (get_or places j 0) chain → entry lines i j ≤ total_of chain
    least-entry i j in_i in_j chain leads =
        closed.below i j in_i in_j chain leads (via-all places names chain _ _ leads)

    pub triangles-all : length places ≤ 100 → HasTriangles (length places) lines
    triangles-all few i j k in_i in_j in_k = elim (cases_lt (entry lines i k + entry lines k j) 1440) [
      | inl within ↦
          let over = attained-over (get_or places i 0) (get_or places k 0) (get_or places j 0) (entry lines i k)
          (entry lines k j) (closed.attained i k in_i in_k) (closed.attained k j in_k in_j) within in
          omega (arith, least-entry i j in_i in_j over.0 over.1, over.2)
      | inr far ↦ omega (arith, closed.capped i j (omega (arith, closed.size)) (omega arith))
    ]

    entry-time : (i j : ℕ) → i < length places → j < length places → length places ≤ 100
        → IsTime table (get_or places i 0) (get_or places j 0) (within_a_day (entry lines i j))
    entry-time i j in_i in_j few = elim (cases_lt 1439 (entry lines i j)) [
      | inl far ↦
          rw (cond-false (leb (entry lines i j) 1439) (Some (entry lines i j)) None
          (lt-leb (entry lines i j) 1439 far)) (λ chain leads. omega (arith, least-entry i j in_i in_j chain leads))
      | inr within ↦
          rw (cond-true (leb (entry lines i j) 1439) (Some (entry lines i j)) None
          (le-leb (entry lines i j) 1439 within))
          (within, (closed.attained i j in_i in_j (omega arith), λ chain leads. least-entry i j in_i in_j chain leads))
    ]

    begins-among : (from to : ℕ) (chain : List Row) → (from ≡ to → ⊥) → IsChain table from to chain
        → Contains places from
    begins-among from to [] apart leads = absurd (apart leads)
    begins-among from to (row ∷ rows) apart (in_table, begins, leads) =
        subst (Contains places) begins (All-contains (λ (r : Row). Contains places r.0 × Contains places r.1) table
        row names in_table).0

    ends-among : (from to : ℕ) (chain : List Row) → (from ≡ to → ⊥) → IsChain table from to chain → Contains places to
    ends-among from to [] apart leads = absurd (apart leads)
    ends-among from to (row ∷ rows) apart (in_table, begins, leads) = elim (cases_eq row.1 to) [
      | inl here ↦
          subst (Contains places) here (All-contains (λ (r : Row). Contains places r.0 × Contains places r.1) table
          row names in_table).1
      | inr on ↦ ends-among row.1 to rows on leads
    ]

    times-at : (from to : ℕ) → (from ≡ to → ⊥) → length places ≤ 100 → (i j : Option ℕ)
        → position (λ p. eqb p from) places ≡ i → position (λ p. eqb p to) places ≡ j
        → IsTime table from to (entry_at lines i j)
    times-at from to apart few None j at_from at_to =
        λ chain leads. absurd (position-absent places from at_from (begins-among from to chain apart leads))
    times-at from to apart few (Some i) None at_from at_to =
        λ chain leads. absurd (position-absent places to at_to (ends-among from to chain apart leads))
    times-at from to apart few (Some i) (Some j) at_from at_to =
        let p = position-found places from i at_from in
        let q = position-found places to j at_to in
        subst (λ (x : ℕ). IsTime table x to (within_a_day (entry lines i j))) p.1
        (subst (λ (x : ℕ). IsTime table (get_or places i 0) x (within_a_day (entry lines i j))) q.1
        (entry-time i j p.0 q.0 few))

    -- the closed matrix answers the times by chains
    pub times-all : length places ≤ 100 → (from to : ℕ) → IsTime table from to (minutes_between places lines from to)
    times-all few from to = elim (cases_eq from to) [
      | inl same ↦
          subst (λ (x : ℕ). IsTime table from x (minutes_between places lines from x)) same
          (rw (cond-true (eqb from from) (Some 0) (entry_at lines (position (λ p. eqb p from) places)
          (position (λ p. eqb p from) places)) (eq-eqb from from refl))
          (omega arith, (([], refl, refl), λ chain leads. omega arith)))
      | inr apart ↦
          rw (cond-false (eqb from to) (Some 0) (entry_at lines (position (λ p. eqb p from) places)
          (position (λ p. eqb p to) places)) (ne_eqb from to apart))
          (times-at from to apart few _ _ refl refl)
    ]
