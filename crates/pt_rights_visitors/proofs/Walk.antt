-- What a walk over a visitor's uses knows on its way.
use Rattle.std.proofs.Common.{◌≡◌, ℕ, zero, suc, ◌+◌, ◌<◌, ◌≤◌, ◌⊎◌, ◌↔◌, Bool, true, false, not, cond, ◌&&◌, List, ◌∷◌, length, take, refl, sym, ap, ◌∙◌, inl, inr, ⊎_elim, take_all, arith}
use Rattle.std.specs.Prelude.{slice_index, nat_eq, min}
use Rattle.std.specs.Ordering.{ord_min, nat_cmp}
use Rattle.std.specs.List.{Contains, count_by, filter}
use Rattle.std.specs.List.Sorted.{IsStrictlyIncreasing}
use Rattle.std.proofs.lemmas.Bool.{cases_lt}
use Rattle.std.proofs.lemmas.Bool.Decides.{nat_tests}
use Rattle.std.proofs.lemmas.Grind.{get_or_default_zero}
use Rattle.std.proofs.lemmas.List.Elements.{Contains-get_or}
use Rattle.std.proofs.lemmas.List.Kept.{AllPairs-from_increasing}
use Rattle.std.proofs.lemmas.List.Recursion.{is_count_by}
use Rattle.std.proofs.lemmas.List.Sums.{count_by_more_yes, count_by_more_no, sum_by-cons}
use Rattle.pt_rights_visitors.specs.Periods.{days_with, IsLeastFrom, IsOpening, first, next, is_in_period, days_of_period, MayUse}
use Rattle.pt_rights_visitors.proofs.Openings.{days_with_cases, days_with_day, days_with_used, opens_period, opens_period_unique}

-- a use other than the day lies in the period
abbrev pub is_other : ℕ → ℕ → ℕ → Bool
is_other opening day used = not (nat_eq used day) && is_in_period opening used

-- the uses before the index were walked over, and this is the latest opening day that they and the day gave
pub record IsWalked (uses : List ℕ) (day index opening others : ℕ) : Type 0 where
  pub opens : IsOpening (days_with uses day) opening
  pub begun : opening ≤ day
  pub ahead : (k : ℕ) → index ≤ k → k < length uses → opening ≤ slice_index uses k
  pub behind : opening + 365 ≤ day → (k : ℕ) → k < index → slice_index uses k < opening + 365
  pub counted : others ≡ count_by (is_other opening day) (take index uses)
  pub within : others ≤ index

rises : (uses : List ℕ) → IsStrictlyIncreasing uses → (j k : ℕ) → j ≤ k → k < length uses → slice_index uses j ≤ slice_index uses k
rises uses rising j k below fits =
    ⊎_elim
    (λ (less : j < k).
    let up : slice_index uses j < slice_index uses k = AllPairs-from_increasing uses rising j k 0 less fits in
    omega arith)
    (λ (same : k ≤ j). let e : j ≡ k = omega arith in rw e (omega arith))
    (cases_lt j k)

least_from : (uses : List ℕ) (day bound reached : ℕ) → Contains (days_with uses day) reached → bound ≤ reached
    → reached ≤ day → ((k : ℕ) → k < length uses → bound ≤ slice_index uses k → reached ≤ slice_index uses k)
    → IsLeastFrom (days_with uses day) bound reached
least_from uses day bound reached has above within least = record {
  member = has;
  from = above;
  least = λ other is from.
      ⊎_elim
      (λ (same : other ≡ day). omega arith)
      (λ (used : Contains uses other).
      let place : slice_index uses used.0 ≡ other = sym (get_or_default_zero uses used.0 other used.1) ∙ used.2 in
      let low : reached ≤ slice_index uses used.0 = least used.0 used.1 (omega arith) in
      omega arith)
      (days_with_cases uses day other is);
}

-- the day or a use, whichever is earlier, is a member
reached_member : (uses : List ℕ) (day k : ℕ) → k < length uses → Contains (days_with uses day) (min (slice_index uses k) day)
reached_member uses day k fits =
    ⊎_elim
    (λ (less : slice_index uses k < day).
    let e : min (slice_index uses k) day ≡ slice_index uses k = omega arith in
    rw e (days_with_used uses day (slice_index uses k) (Contains-get_or uses k 0 fits)))
    (λ (past : day ≤ slice_index uses k).
    let e : min (slice_index uses k) day ≡ day = omega arith in rw e (days_with_day uses day))
    (cases_lt (slice_index uses k) day)

-- before the first use
pub walk_begins : (uses : List ℕ) (day : ℕ) → IsStrictlyIncreasing uses → 0 < length uses → IsWalked uses day 0 (min (slice_index uses 0) day) 0
walk_begins uses day rising some = record {
  opens = first _ (least_from uses day 0 _ (reached_member uses day 0 some) (omega arith) (omega arith) (λ k fits _.
      let up = rises uses rising 0 k (omega arith) fits in omega (arith, up)));
  begun = omega arith;
  ahead = λ k from fits. let up = rises uses rising 0 k (omega arith) fits in omega (arith, up);
  behind = λ passed k below. absurd (omega arith);
  counted = refl;
  within = omega arith;
}

-- with no use
pub walk_empty : (uses : List ℕ) (day : ℕ) → length uses ≤ 0 → IsWalked uses day 0 day 0
walk_empty uses day none = record {
  opens = first _ (least_from uses day 0 day (days_with_day uses day) (omega arith) (omega arith) (λ k fits _. absurd (omega arith)));
  begun = omega arith;
  ahead = λ k from fits. absurd (omega arith);
  behind = λ passed k below. absurd (omega arith);
  counted = refl;
  within = omega arith;
}

is_other_below : (opening day used : ℕ) → used < opening → is_other opening day used ≡ false
is_other_below opening day used below = grind (arith, nat_tests)

none_counted : (p : ℕ → Bool) (xs : List ℕ) (i : ℕ) → i ≤ length xs → ((k : ℕ) → k < i → p (slice_index xs k) ≡ false) → count_by p (take i xs) ≡ 0
none_counted p xs zero fits fails = refl
none_counted p xs (suc i) fits fails =
    let e : suc i ≡ i + 1 = omega arith in
    ap (λ n. count_by p (take n xs)) e ∙ count_by_more_no p xs i 0 (omega arith) (fails i (omega arith)) ∙ none_counted p xs i (omega arith) (λ k below. fails k (omega arith))

-- the day or the next use opens a period
pub walk_opens : (uses : List ℕ) (day index opening others : ℕ) → IsStrictlyIncreasing uses
    → IsWalked uses day index opening others → index < length uses → opening + 365 ≤ min (slice_index uses index) day
    → IsWalked uses day index (min (slice_index uses index) day) 0
walk_opens uses day index opening others rising w fits passed = record {
  opens = next opening _ w.opens (least_from uses day (opening + 365) _ (reached_member uses day index fits) passed (omega arith) (λ k within from.
      ⊎_elim
      (λ (below : k < index). let before = w.behind (omega arith) k below in absurd (omega (arith, before)))
      (λ (on : index ≤ k). let up = rises uses rising index k on within in omega (arith, up))
      (cases_lt k index)));
  begun = omega arith;
  ahead = λ k from within. let up = rises uses rising index k from within in omega (arith, up);
  behind = λ later k below. let before = w.behind (omega arith) k below in omega (arith, before);
  counted = sym (none_counted (is_other _ day) uses index (omega arith) (λ k below.
      let before = w.behind (omega arith) k below in is_other_below _ day _ (omega (arith, before))));
  within = omega arith;
}

walked_behind : (uses : List ℕ) (day index opening others : ℕ) → IsWalked uses day index opening others
    → min (slice_index uses index) day < opening + 365 → opening + 365 ≤ day → (k : ℕ) → k < index + 1
    → slice_index uses k < opening + 365
walked_behind uses day index opening others w lasts later k below =
    ⊎_elim
    (λ (before : k < index). w.behind later k before)
    (λ (on : index ≤ k). let e : k ≡ index = omega arith in rw e (omega arith))
    (cases_lt k index)

-- the next use is counted or not
pub walk_counts : (uses : List ℕ) (day index opening others : ℕ) (b : Bool) → IsWalked uses day index opening others
    → index < length uses → min (slice_index uses index) day < opening + 365
    → is_other opening day (slice_index uses index) ≡ b
    → IsWalked uses day (index + 1) opening (cond b (others + 1) others)
walk_counts uses day index opening others true w fits lasts is = record {
  opens = w.opens;
  begun = w.begun;
  ahead = λ k from within. w.ahead k (omega arith) within;
  behind = walked_behind uses day index opening others w lasts;
  counted = ap (λ n. n + 1) w.counted ∙ sym (count_by_more_yes (is_other opening day) uses index 0 fits is);
  within = let few = w.within in omega arith;
}
walk_counts uses day index opening others false w fits lasts is = record {
  opens = w.opens;
  begun = w.begun;
  ahead = λ k from within. w.ahead k (omega arith) within;
  behind = walked_behind uses day index opening others w lasts;
  counted = w.counted ∙ sym (count_by_more_no (is_other opening day) uses index 0 fits is);
  within = let few = w.within in omega arith;
}

-- either the period has ended, and the day reached opens the next one, or it goes on
abbrev pub Opens : ℕ → ℕ → ℕ → ℕ → ℕ → Type 0
Opens reached opening others opening' others' =
    ((is_in_period opening reached ≡ false) × (opening' ≡ reached) × (others' ≡ 0)) ⊎ ((is_in_period opening reached ≡ true) × (opening' ≡ opening) × (others' ≡ others))

-- either the use is counted, or it is none of the others
abbrev pub Counts : ℕ → ℕ → ℕ → ℕ → ℕ → Type 0
Counts opening day used others others' =
    ((is_other opening day used ≡ true) × (others' ≡ others + 1)) ⊎ ((is_other opening day used ≡ false) × (others' ≡ others))

ended : (opening reached : ℕ) → is_in_period opening reached ≡ false → opening ≤ reached → opening + 365 ≤ reached
ended opening reached is from = grind (arith, nat_tests)

goes_on : (opening reached : ℕ) → is_in_period opening reached ≡ true → reached < opening + 365
goes_on opening reached is = grind (arith, nat_tests)

opened : (uses : List ℕ) (day index opening others opening' others' : ℕ) → IsStrictlyIncreasing uses
    → IsWalked uses day index opening others → index < length uses
    → Opens (min (slice_index uses index) day) opening others opening' others'
    → IsWalked uses day index opening' others' × (min (slice_index uses index) day < opening' + 365)
opened uses day index opening others opening' others' rising w fits (inl e) =
    let from = w.ahead index (omega arith) fits in
    let begun = w.begun in
    let next_one = walk_opens uses day index opening others rising w fits (ended opening _ e.0 (omega (arith, from))) in
    rw (e.1, e.2) (next_one, omega arith)
opened uses day index opening others opening' others' rising w fits (inr e) =
    rw (e.1, e.2) (w, goes_on opening _ e.0)

-- one more use is walked over
pub walk_step : (uses : List ℕ) (day index opening others opening' others' counted : ℕ) → IsStrictlyIncreasing uses
    → IsWalked uses day index opening others → index < length uses
    → Opens (min (slice_index uses index) day) opening others opening' others'
    → Counts opening' day (slice_index uses index) others' counted → IsWalked uses day (index + 1) opening' counted
walk_step uses day index opening others opening' others' counted rising w fits opens (inl e) =
    let o = opened uses day index opening others opening' others' rising w fits opens in
    rw e.1 (walk_counts uses day index opening' others' true o.0 fits o.1 e.0)
walk_step uses day index opening others opening' others' counted rising w fits opens (inr e) =
    let o = opened uses day index opening others opening' others' rising w fits opens in
    rw e.1 (walk_counts uses day index opening' others' false o.0 fits o.1 e.0)

-- the earlier of two days, as the code takes it
pub ord_min-min : (a b : ℕ) → ord_min nat_cmp a b ≡ min a b
ord_min-min a b = grind (arith, nat_tests)

-- the period of the day opens with this day, and this many of the uses lie in it
pub record IsCounted (uses : List ℕ) (day opening others : ℕ) : Type 0 where
  pub opens : IsOpening (days_with uses day) opening
  pub begun : opening ≤ day
  pub lasts : day < opening + 365
  pub counted : others ≡ count_by (is_other opening day) uses

ends_in : (uses : List ℕ) (day opening others : ℕ) → IsWalked uses day (length uses) opening others → day < opening + 365 → IsCounted uses day opening others
ends_in uses day opening others w lasts = record {
  opens = w.opens;
  begun = w.begun;
  lasts = lasts;
  counted = w.counted ∙ ap (count_by (is_other opening day)) (take_all (length uses) uses (omega arith));
}

-- where the last period ended before the day, the day opens its own
ends_before : (uses : List ℕ) (day opening others : ℕ) → IsWalked uses day (length uses) opening others → opening + 365 ≤ day → IsCounted uses day day 0
ends_before uses day opening others w passed = record {
  opens = next opening day w.opens (least_from uses day (opening + 365) day (days_with_day uses day) passed (omega arith) (λ k within from.
      let before = w.behind passed k within in absurd (omega (arith, before))));
  begun = omega arith;
  lasts = omega arith;
  counted = sym (ap (count_by (is_other day day)) (sym (take_all (length uses) uses (omega arith))) ∙ none_counted (is_other day day) uses (length uses) (omega arith) (λ k within.
      let before = w.behind passed k within in is_other_below day day _ (omega (arith, before))));
}

cond_plus : (b : Bool) (n : ℕ) → cond b 1 0 + n ≡ cond b (1 + n) n
cond_plus true n = refl
cond_plus false n = omega arith

count_kept : (p : ℕ → Bool) (x : ℕ) (rest : List ℕ) (b : Bool) → count_by p (cond b (x ∷ rest) rest) ≡ cond (b && p x) (1 + count_by p rest) (count_by p rest)
count_kept p x rest true = sum_by-cons (λ y. cond (p y) 1 0) x rest ∙ cond_plus (p x) (count_by p rest)
count_kept p x rest false = refl

count_by-filter : (p q : ℕ → Bool) (xs : List ℕ) → count_by p (filter q xs) ≡ count_by (λ x. q x && p x) xs
count_by-filter p q xs =
    is_count_by (λ ys. count_by p (filter q ys)) (λ x. q x && p x) refl (λ x ys. count_kept p x (filter q ys) (q x)) xs

-- the day itself and the others are the days of its period
days_counted : (uses : List ℕ) (day opening others : ℕ) → IsCounted uses day opening others → days_of_period opening (days_with uses day) ≡ others + 1
days_counted uses day opening others is =
    let p = is_in_period opening in
    let q : ℕ → Bool = λ used. not (nat_eq used day) in
    let begun = is.begun in
    let lasts = is.lasts in
    let holds : p day ≡ true = grind (arith, nat_tests) in
    let rest : count_by p (filter q uses) ≡ others = count_by-filter p q uses ∙ sym is.counted in
    let all : days_of_period opening (days_with uses day) ≡ cond {A = ℕ} (p day) 1 0 + count_by p (filter q uses) = sum_by-cons (λ y. cond (p y) 1 0) day (filter q uses) in
    let one : cond {A = ℕ} (p day) 1 0 ≡ 1 = ap (λ b. cond {A = ℕ} b 1 0) holds in
    omega arith

counted_may : (uses : List ℕ) (day opening others : ℕ) → IsCounted uses day opening others → (others < 21) ↔ MayUse uses day
counted_may uses day opening others is =
    let opens = opens_period (days_with uses day) day opening is.opens is.begun is.lasts in
    let counted = days_counted uses day opening others is in (
      λ few. (opening, opens, omega arith),
      λ may.
          let same : may.0 ≡ opening = opens_period_unique (days_with uses day) day may.0 opening may.1 opens in
          let most : days_of_period opening (days_with uses day) ≤ 21 = rw same at may.2 in
          omega arith,
    )

-- after the last use: in a period that holds the day, the count decides
pub walk_decides : (uses : List ℕ) (day opening others : ℕ) → IsWalked uses day (length uses) opening others → is_in_period opening day ≡ true → (others < 21) ↔ MayUse uses day
walk_decides uses day opening others w holds =
    counted_may uses day opening others (ends_in uses day opening others w (goes_on opening day holds))

-- and if the last period does not hold the day, the visitor may use the day
pub walk_allows : (uses : List ℕ) (day opening others : ℕ) → IsWalked uses day (length uses) opening others → is_in_period opening day ≡ false → MayUse uses day
walk_allows uses day opening others w ends =
    (counted_may uses day day 0 (ends_before uses day opening others w (ended opening day ends w.begun))).0 (omega arith)
