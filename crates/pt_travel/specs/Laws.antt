-- The laws of driving times, for a closed table.
use Rattle.std.proofs.Common.{◌≡◌, ℕ, ◌+◌, ◌<◌, ◌≤◌, Option, None, Some, IfSome, List, length, refl, sym, ◌∙◌}
use Rattle.std.proofs.Common.{subst, inl, inr, Bool, eqb, leb, arith}
use Rattle.std.specs.Option.{IsSomeAnd}
use Rattle.std.specs.List.{position}
use Rattle.std.proofs.lemmas.Bool.{cases_eq, cases_Bool, eq-eqb, ne_eqb, le-leb, leb-true, cond-true, cond-false}
use Rattle.std.proofs.lemmas.List.Quantifiers.{position-Some}
use Rattle.pt_base_values.specs.Ranges.{last_minute}
use Rattle.pt_travel.specs.declared.closed.Closed.{Closed}
use Rattle.pt_travel.specs.Matrix.{entry, HasTriangles}
use Rattle.pt_travel.specs.Closed.{within_a_day, entry_at, minutes_between}
use Rattle.pt_travel.specs.Places.{list_of}
use Rattle.pt_travel.specs.Times.{time_in}

within-is : (x m : ℕ) → within_a_day x ≡ Some m → (x ≡ m) × (x ≤ last_minute)
within-is x m e = elim (cases_Bool (leb x last_minute)) [
  | inl less ↦
      let s : Some x ≡ Some m = sym (cond-true (leb x last_minute) (Some x) None less) ∙ e in
      (cc s, leb-true x last_minute less)
  | inr more ↦ let s : None ≡ Some m = sym (cond-false (leb x last_minute) (Some x) None more) ∙ e in cc s
]

within-some : (x : ℕ) → x ≤ last_minute → within_a_day x ≡ Some x
within-some x less = cond-true (leb x last_minute) (Some x) None (le-leb x last_minute less)

within-day : (x : ℕ) → IfSome (within_a_day x) (λ t. t ≤ last_minute)
within-day x = elim (cases_Bool (leb x last_minute)) [
  | inl less ↦ rw (cond-true (leb x last_minute) (Some x) None less) (leb-true x last_minute less)
  | inr more ↦ rw (cond-false (leb x last_minute) (Some x) None more) tt
]

entry-day : (lines : List (List ℕ)) (i j : Option ℕ) → IfSome (entry_at lines i j) (λ t. t ≤ last_minute)
entry-day lines None j = tt
entry-day lines (Some i) None = tt
entry-day lines (Some i) (Some j) = within-day (entry lines i j)

entry-over : (lines : List (List ℕ)) (size : ℕ) → HasTriangles size lines → (i j k : Option ℕ)
    → IfSome i (λ x. x < size) → IfSome j (λ x. x < size) → IfSome k (λ x. x < size)
    → (m n : ℕ) → entry_at lines i k ≡ Some m → entry_at lines k j ≡ Some n → m + n ≤ last_minute
    → IsSomeAnd (entry_at lines i j) (λ t. t ≤ m + n)
entry-over lines size triangles None j k in_i in_j in_k m n first rest within = cc first
entry-over lines size triangles (Some i) j None in_i in_j in_k m n first rest within = cc first
entry-over lines size triangles (Some i) None (Some k) in_i in_j in_k m n first rest within = cc rest
entry-over lines size triangles (Some i) (Some j) (Some k) in_i in_j in_k m n first rest within =
    let a = within-is (entry lines i k) m first in
    let b = within-is (entry lines k j) n rest in
    let t = triangles i j k in_i in_j in_k in
    let s : entry lines i j ≤ last_minute = omega arith in
    rw (within-some (entry lines i j) s) (omega arith)

position-below : (p : ℕ → Bool) (places : List ℕ) → (o : Option ℕ) → position p places ≡ o
    → IfSome o (λ i. i < length places)
position-below p places None e = tt
position-below p places (Some i) e = (position-Some p places i 0 e).0

IfSome-weaker : (P Q : ℕ → Type 0) → ((i : ℕ) → P i → Q i) → (o : Option ℕ) → IfSome o P → IfSome o Q
IfSome-weaker P Q weaken None h = tt
IfSome-weaker P Q weaken (Some i) h = weaken i h

module _ (places : List ℕ) (lines : List (List ℕ)) where
  between-same : (a : ℕ) → minutes_between places lines a a ≡ Some 0
  between-same a = cond-true (eqb a a) _ _ (eq-eqb a a refl)

  between-other : (a b : ℕ) → (a ≡ b → ⊥)
      → minutes_between places lines a b ≡ entry_at lines (position (λ p. eqb p a) places)
      (position (λ p. eqb p b) places)
  between-other a b apart = cond-false (eqb a b) _ _ (ne_eqb a b apart)

  between-day : (a b : ℕ) → IfSome (minutes_between places lines a b) (λ t. t ≤ last_minute)
  between-day a b = elim (cases_eq a b) [
    | inl same ↦
        subst (λ (x : ℕ). IfSome (minutes_between places lines a x) (λ t. t ≤ last_minute)) same
        (rw (between-same a) (omega arith))
    | inr apart ↦ rw (between-other a b apart) (entry-day lines _ _)
  ]

  between-over : (size : ℕ) → length places ≤ size → HasTriangles size lines → (a b c m n : ℕ)
      → minutes_between places lines a b ≡ Some m → minutes_between places lines b c ≡ Some n → m + n ≤ last_minute
      → IsSomeAnd (minutes_between places lines a c) (λ t. t ≤ m + n)
  between-over size small triangles a b c m n first rest within =
      elim (cases_eq a b) [
        | inl same ↦
            let e : Some m ≡ Some 0 = sym first
            ∙ subst (λ (x : ℕ). minutes_between places lines a x ≡ Some 0) same (between-same a) in
            let zero : m ≡ 0 = cc e in
            subst (λ (x : ℕ). IsSomeAnd (minutes_between places lines x c) (λ t. t ≤ m + n)) (sym same)
            (rw rest (omega arith))
        | inr apart ↦ elim (cases_eq b c) [
          | inl same ↦
              subst (λ (x : ℕ). IsSomeAnd (minutes_between places lines a x) (λ t. t ≤ m + n)) same
              (rw first (omega arith))
          | inr apart' ↦ elim (cases_eq a c) [
            | inl same ↦
                subst (λ (x : ℕ). IsSomeAnd (minutes_between places lines a x) (λ t. t ≤ m + n)) same
                (rw (between-same a) (omega arith))
            | inr apart'' ↦
                rw (between-other a c apart'')
                (entry-over lines size triangles (position (λ p. eqb p a) places)
                (position (λ p. eqb p c) places) (position (λ p. eqb p b) places)
                (below (position (λ p. eqb p a) places) a refl) (below _ c refl) (below _ b refl)
                m n (sym (between-other a b apart) ∙ first) (sym (between-other b c apart') ∙ rest) within)
          ]
        ]
      ]
    where
      below : (o : Option ℕ) (x : ℕ) → position (λ p. eqb p x) places ≡ o → IfSome o (λ i. i < size)
      below o x e = IfSome-weaker (λ (i : ℕ). i < length places) (λ (i : ℕ). i < size)
          (λ i h. omega arith) o (position-below (λ p. eqb p x) places o e)

pub stays_in : (closed : Closed) (a : ℕ) → time_in closed a a ≡ Some 0
stays_in closed a = between-same (list_of closed.places) closed.lines.items a

pub within_a_day_in : (closed : Closed) (a b : ℕ) → IfSome (time_in closed a b) (λ t. t ≤ last_minute)
within_a_day_in closed a b = between-day (list_of closed.places) closed.lines.items a b

pub triangle_in : (closed : Closed) (a b c m n : ℕ) → time_in closed a b ≡ Some m → time_in closed b c ≡ Some n
    → m + n ≤ last_minute
    → IsSomeAnd (time_in closed a c) (λ t. t ≤ m + n)
triangle_in closed a b c m n first rest within =
    between-over (list_of closed.places) closed.lines.items (length (list_of closed.places)) (omega arith)
    closed.triangles a b c m n first rest within
