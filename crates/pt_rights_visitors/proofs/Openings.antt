-- The days of a visitor's uses with one more day, and their opening days.
use Rattle.std.proofs.Common.{◌≡◌, ℕ, zero, suc, ◌+◌, ◌<◌, ◌≤◌, ◌⊎◌, Bool, true, false, not, cond, List, [], ◌∷◌, refl, inl, inr, ⊎_elim, arith}
use Rattle.std.specs.Prelude.{nat_eq}
use Rattle.std.specs.List.{All, Contains, filter}
use Rattle.std.proofs.lemmas.Bool.{cases_lt}
use Rattle.std.proofs.lemmas.Bool.Decides.{nat_tests}
use Rattle.std.proofs.lemmas.List.Elements.{All-nil, All-cons, All-weaker, All-filter, All-contains, All-contains_itself, Contains-append_cases, Contains-append_left, Contains-append_right}
use Rattle.pt_rights_visitors.specs.Periods.{days_with, IsOpening, first, next, OpensPeriodOf}

-- a member is the day or one of the uses
pub days_with_cases : (uses : List ℕ) (day member : ℕ) → Contains (days_with uses day) member → (member ≡ day) ⊎ Contains uses member
days_with_cases uses day member has =
    let P : ℕ → Type 0 = λ x. (x ≡ day) ⊎ Contains uses x in
    let weak : All P uses = All-weaker (Contains uses) P (λ x here. inr here) uses (All-contains_itself uses) in
    All-contains P (days_with uses day) member (All-cons P day _ (inl refl) (All-filter (λ used. not (nat_eq used day)) P uses weak)) has

-- the day is a member
pub days_with_day : (uses : List ℕ) (day : ℕ) → Contains (days_with uses day) day
days_with_day uses day = (0, omega arith, refl)

head_kept : (day x : ℕ) (rest : List ℕ) (b : Bool) → nat_eq x day ≡ b → Contains (day ∷ cond (not b) (x ∷ rest) rest) x
head_kept day x rest true same = (0, omega arith, grind (arith, nat_tests))
head_kept day x rest false other = (1, omega arith, refl)

tail_kept : (day x : ℕ) (rest : List ℕ) (b : Bool) (member : ℕ) → Contains (day ∷ rest) member → Contains (day ∷ cond (not b) (x ∷ rest) rest) member
tail_kept day x rest true member has = has
tail_kept day x rest false member has =
    ⊎_elim (Contains-append_left (day ∷ []) (x ∷ rest) member) (Contains-append_right (day ∷ x ∷ []) rest member) (Contains-append_cases (day ∷ []) rest member has)

kept : (day : ℕ) (uses : List ℕ) → All (Contains (days_with uses day)) uses
kept day [] = All-nil (Contains (days_with [] day))
kept day (x ∷ xs) =
    let grown = tail_kept day x (filter (λ used. not (nat_eq used day)) xs) (nat_eq x day) in
    All-cons (Contains (days_with (x ∷ xs) day)) x xs (head_kept day x _ (nat_eq x day) refl) (All-weaker (Contains (days_with xs day)) (Contains (days_with (x ∷ xs) day)) grown xs (kept day xs))

-- and so is each use
pub days_with_used : (uses : List ℕ) (day used : ℕ) → Contains uses used → Contains (days_with uses day) used
days_with_used uses day used has = All-contains (Contains (days_with uses day)) uses used (kept day uses) has

-- an opening day is a member
pub opening_member : (days : List ℕ) (opening : ℕ) → IsOpening days opening → Contains days opening
opening_member days opening (first _ is) = is.member
opening_member days opening (next _ _ _ is) = is.member

apart : (n : ℕ) (days : List ℕ) (p q : ℕ) → q ≤ n → IsOpening days p → IsOpening days q → p < q → p + 365 ≤ q
apart zero days p q below h k less = absurd (omega arith)
apart (suc n) days p q below h (first _ is) less =
    let least : q ≤ p = is.least p (opening_member days p h) (omega arith) in absurd (omega arith)
apart (suc n) days p q below h (next former _ opens is) less =
    let from = is.from in
    ⊎_elim
    (λ (later : former < p).
    let passed : former + 365 ≤ p = apart n days former p (omega arith) opens h later in
    let least : q ≤ p = is.least p (opening_member days p h) passed in
    absurd (omega arith))
    (λ (earlier : p ≤ former). omega arith)
    (cases_lt former p)

-- an opening day opens the period of each of the 365 days from it on
pub opens_period : (days : List ℕ) (day opening : ℕ) → IsOpening days opening → opening ≤ day → day < opening + 365 → OpensPeriodOf days day opening
opens_period days day opening opens begun lasts = record {
  opens = opens;
  begun = begun;
  greatest = λ other is within.
      ⊎_elim
      (λ (later : opening < other).
      let passed = apart other days opening other (omega arith) opens is later in absurd (omega (arith, passed)))
      (λ (earlier : other ≤ opening). earlier)
      (cases_lt opening other);
}

-- one day opens a day's period
pub opens_period_unique : (days : List ℕ) (day p q : ℕ) → OpensPeriodOf days day p → OpensPeriodOf days day q → p ≡ q
opens_period_unique days day p q a b =
    let above : q ≤ p = a.greatest q b.opens b.begun in
    let below : p ≤ q = b.greatest p a.opens a.begun in
    omega arith
