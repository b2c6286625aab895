-- The numbers of the marks of a set of months.
use Rattle.std.proofs.Common.{◌≡◌, ◌≢◌, take_all, length-set, length-take, append-nil, get_or-set_other, ℕ, zero, suc}
use Rattle.std.proofs.Common.{◌+◌, ◌-◌, ◌<◌, ◌≤◌, Bool, true, false, cond, List, [], ◌∷◌, ◌++◌, length, get_or, set}
use Rattle.std.proofs.Common.{take, refl, sym, ap, ◌∙◌, subst, ⊎_elim, arith}
use Rattle.std.specs.Prelude.{slice_index, IsTrue}
use Rattle.std.specs.Int.{IsInRange}
use Rattle.std.specs.List.{All, Contains}
use Rattle.std.specs.List.Sorted.{IsStrictlyIncreasing}
use Rattle.std.proofs.lemmas.Bool.{cases_lt}
use Rattle.std.proofs.lemmas.List.{get_or_past, take_more}
use Rattle.std.proofs.lemmas.List.Elements.{All-nil, All-cons, All-weaker, All-from_get_or, All-get_or, Contains-append_cases, Contains-append_right}
use Rattle.pt_rights_files.specs.Months.{numbers_from, numbers_of, AreMonths}

-- a mark that is true gives its number
pub number_of_mark : (n : ℕ) (marks : List Bool) (i m : ℕ) → m ≡ n + i → get_or marks i false ≡ true → Contains (numbers_from n marks) m
number_of_mark n [] i m e h = absurd (cc)
number_of_mark n (true ∷ marks) zero m e h = (0, omega arith, omega arith)
number_of_mark n (true ∷ marks) (suc i) m e h =
    Contains-append_right (n ∷ []) (numbers_from (n + 1) marks) m (number_of_mark (n + 1) marks i m (omega arith) h)
number_of_mark n (false ∷ marks) zero m e h = absurd (cc)
number_of_mark n (false ∷ marks) (suc i) m e h = number_of_mark (n + 1) marks i m (omega arith) h

only : (n m : ℕ) → Contains (n ∷ []) m → m ≡ n
only n m (zero, below, is) = sym is
only n m (suc k, below, is) = absurd (omega arith)

-- and each number is that of a mark that is true
pub mark_of_number : (n : ℕ) (marks : List Bool) (m : ℕ) → Contains (numbers_from n marks) m → (i : ℕ) × (m ≡ n + i) × (get_or marks i false ≡ true)
mark_of_number n [] m has = absurd (let below = has.1 in omega arith)
mark_of_number n (true ∷ marks) m has =
    ⊎_elim
    (λ (here : Contains (n ∷ []) m). let e = only n m here in (0, omega arith, refl))
    (λ (later : Contains (numbers_from (n + 1) marks) m).
    let found = mark_of_number (n + 1) marks m later in
    let e = found.1 in
    (suc found.0, omega arith, found.2))
    (Contains-append_cases (n ∷ []) (numbers_from (n + 1) marks) m has)
mark_of_number n (false ∷ marks) m has =
    let found = mark_of_number (n + 1) marks m has in
    let e = found.1 in
    (suc found.0, omega arith, found.2)

-- whether a month of the year is in the set
pub month_marked : (marks : List Bool) (i m : ℕ) → m ≡ 1 + i → IsTrue (get_or marks i false) → Contains (numbers_of marks) m
month_marked marks i m e h = number_of_mark 1 marks i m e h

pub marked_month : (marks : List Bool) (i m : ℕ) → m ≡ 1 + i → Contains (numbers_of marks) m → IsTrue (get_or marks i false)
marked_month marks i m e has =
    let found = mark_of_number 1 marks m has in
    let same : found.0 ≡ i = (let f = found.1 in omega arith) in
    subst (λ j. get_or marks j false ≡ true) same found.2

-- no other number is
pub no_month : (marks : List Bool) (m : ℕ) → length marks ≤ 12 → (1 ≤ m → m ≤ 12 → ⊥) → Contains (numbers_of marks) m → ⊥
no_month marks m short other has =
    let found = mark_of_number 1 marks m has in
    let e = found.1 in
    ⊎_elim
    (λ (within : found.0 < length marks). other (omega arith) (omega arith))
    (λ (past : length marks ≤ found.0). let none = get_or_past marks found.0 false past in let stands = found.2 in cc)
    (cases_lt found.0 (length marks))

-- if no mark is true there is no number
numbers_from-none : (n : ℕ) (marks : List Bool) → ((k : ℕ) → get_or marks k false ≡ false) → numbers_from n marks ≡ []
numbers_from-none n [] none = refl
numbers_from-none n (true ∷ marks) none = let h = none 0 in absurd (cc)
numbers_from-none n (false ∷ marks) none = numbers_from-none (n + 1) marks (λ k. none (suc k))

-- a mark that is set after all true ones adds its number at the end
numbers_from-set : (n : ℕ) (marks : List Bool) (i : ℕ) → i < length marks → ((k : ℕ) → i ≤ k → get_or marks k false ≡ false) → numbers_from n (set marks i true) ≡ numbers_from n marks ++ (n + i) ∷ []
numbers_from-set n [] i within none = absurd (omega arith)
numbers_from-set n (true ∷ marks) zero within none = let h = none 0 (omega arith) in absurd (cc)
numbers_from-set n (false ∷ marks) zero within none =
    let empty = numbers_from-none (n + 1) marks (λ k. none (suc k) (omega arith)) in
    let e : n ≡ n + 0 = omega arith in
    ap (λ xs. n ∷ xs) empty ∙ ap (λ m. m ∷ []) e ∙ ap (λ xs. xs ++ (n + 0) ∷ []) (sym empty)
numbers_from-set n (true ∷ marks) (suc i) within none =
    let e : n + 1 + i ≡ n + suc i = omega arith in
    ap (λ xs. n ∷ xs) (numbers_from-set (n + 1) marks i (omega arith) (λ k from. none (suc k) (omega arith)) ∙ ap (λ m. numbers_from (n + 1) marks ++ m ∷ []) e)
numbers_from-set n (false ∷ marks) (suc i) within none =
    let e : n + 1 + i ≡ n + suc i = omega arith in
    numbers_from-set (n + 1) marks i (omega arith) (λ k from. none (suc k) (omega arith)) ∙ ap (λ m. numbers_from (n + 1) marks ++ m ∷ []) e

-- the numbers of one more mark
numbers_from-take : (n : ℕ) (marks : List Bool) (i : ℕ) → i < length marks → numbers_from n (take (suc i) marks) ≡ numbers_from n (take i marks) ++ cond (get_or marks i false) ((n + i) ∷ []) []
numbers_from-take n [] i within = absurd (omega arith)
numbers_from-take n (true ∷ marks) zero within = let e : n ≡ n + 0 = omega arith in ap (λ m. m ∷ []) e
numbers_from-take n (false ∷ marks) zero within = refl
numbers_from-take n (true ∷ marks) (suc i) within =
    let e : n + 1 + i ≡ n + suc i = omega arith in
    ap (λ xs. n ∷ xs) (numbers_from-take (n + 1) marks i (omega arith) ∙ ap (λ m. numbers_from (n + 1) (take i marks) ++ cond (get_or marks i false) (m ∷ []) []) e)
numbers_from-take n (false ∷ marks) (suc i) within =
    let e : n + 1 + i ≡ n + suc i = omega arith in
    numbers_from-take (n + 1) marks i (omega arith) ∙ ap (λ m. numbers_from (n + 1) (take i marks) ++ cond (get_or marks i false) (m ∷ []) []) e

-- there are at most as many numbers as marks
pub length-numbers_from : (n : ℕ) (marks : List Bool) → length (numbers_from n marks) ≤ length marks
length-numbers_from n [] = omega arith
length-numbers_from n (true ∷ marks) = let few = length-numbers_from (n + 1) marks in omega arith
length-numbers_from n (false ∷ marks) = let few = length-numbers_from (n + 1) marks in omega arith

numbers_from-range : (n top : ℕ) (marks : List Bool) → n + length marks ≤ top + 1 → All (IsInRange n top) (numbers_from n marks)
numbers_from-range n top [] short = All-nil (IsInRange n top)
numbers_from-range n top (true ∷ marks) short =
    All-cons (IsInRange n top) n _ (omega arith, omega arith)
    (All-weaker (IsInRange (n + 1) top) (IsInRange n top) (λ x h. let low = h.0 in (omega arith, h.1)) _
    (numbers_from-range (n + 1) top marks (omega arith)))
numbers_from-range n top (false ∷ marks) short =
    All-weaker (IsInRange (n + 1) top) (IsInRange n top) (λ x h. let low = h.0 in (omega arith, h.1)) _ (numbers_from-range (n + 1) top marks (omega arith))

rising_cons : (x : ℕ) (xs : List ℕ) → All (λ y. x < y) xs → IsStrictlyIncreasing xs → IsStrictlyIncreasing (x ∷ xs)
rising_cons x xs above rising zero fits = All-get_or (λ y. x < y) xs 0 0 (omega arith) above
rising_cons x xs above rising (suc k) fits = let up = rising k (omega arith) in let e : suc k + 1 ≡ suc (k + 1) = omega arith in rw e up

numbers_from-rising : (n : ℕ) (marks : List Bool) → IsStrictlyIncreasing (numbers_from n marks)
numbers_from-rising n [] = λ k fits. absurd (omega arith)
numbers_from-rising n (true ∷ marks) =
    rising_cons n _ (All-weaker (IsInRange (n + 1) (n + length marks)) (λ y. n < y)
    (λ x h. let low = h.0 in omega arith) _ (numbers_from-range (n + 1) (n + length marks) marks (omega arith)))
    (numbers_from-rising (n + 1) marks)
numbers_from-rising n (false ∷ marks) = numbers_from-rising (n + 1) marks

-- the numbers of twelve marks, at least one of them true, are months
pub AreMonths-numbers_of : (marks : List Bool) → length marks ≤ 12 → 1 ≤ length (numbers_of marks) → AreMonths (numbers_of marks)
AreMonths-numbers_of marks short some = record {
  some = some;
  in_range = numbers_from-range 1 12 marks (omega arith);
  rising = numbers_from-rising 1 marks;
}

-- the numbers of the first marks, one mark after the other
pub numbers_of-take_yes : (marks : List Bool) (i : ℕ) → i < length marks → get_or marks i false ≡ true → numbers_of (take (i + 1) marks) ≡ numbers_of (take i marks) ++ (i + 1) ∷ []
numbers_of-take_yes marks i within h =
    let e : i + 1 ≡ suc i = omega arith in
    let f : 1 + i ≡ i + 1 = omega arith in
    ap (λ j. numbers_of (take j marks)) e ∙ numbers_from-take 1 marks i within ∙ ap (λ b. numbers_of (take i marks) ++ cond b ((1 + i) ∷ []) []) h ∙ ap (λ m. numbers_of (take i marks) ++ m ∷ []) f

pub numbers_of-take_no : (marks : List Bool) (i : ℕ) → i < length marks → get_or marks i false ≡ false → numbers_of (take (i + 1) marks) ≡ numbers_of (take i marks)
numbers_of-take_no marks i within h =
    let e : i + 1 ≡ suc i = omega arith in
    ap (λ j. numbers_of (take j marks)) e ∙ numbers_from-take 1 marks i within ∙ ap (λ b. numbers_of (take i marks) ++ cond b ((1 + i) ∷ []) []) h ∙ append-nil (numbers_of (take i marks))

pub length-numbers_of-take : (marks : List Bool) (i : ℕ) → length (numbers_of (take i marks)) ≤ i
length-numbers_of-take marks i =
    let few = length-numbers_from 1 (take i marks) in
    let short : length (take i marks) ≤ i = simp length-take (omega arith) in
    omega arith

-- the state after the first `index` months of a list were read into marks; `last` is the last of them
pub record IsRead (numbers : List ℕ) (index : ℕ) (marks : List Bool) (last : ℕ) : Type 0 where
  pub marked : numbers_of marks ≡ take index numbers
  pub unmarked : (k : ℕ) → last ≤ k → get_or marks k false ≡ false
  pub size : length marks ≡ 12
  pub top : last ≤ 12
  pub begins : index ≡ 0 → last ≡ 0
  pub latest : 0 < index → last ≡ slice_index numbers (index - 1)
  pub in_range : (k : ℕ) → k < index → IsInRange 1 12 (slice_index numbers k)
  pub rising : (k : ℕ) → k + 1 < index → slice_index numbers k < slice_index numbers (k + 1)

-- the next number rises and is a month
pub read_more : (numbers : List ℕ) (index : ℕ) (marks : List Bool) (last : ℕ) → IsRead numbers index marks last
    → index < length numbers → last < slice_index numbers index → slice_index numbers index ≤ 12
    → IsRead numbers (index + 1) (set marks (slice_index numbers index - 1) true) (slice_index numbers index)
read_more numbers index marks last r within above top = record {
  marked =
      let size = r.size in
      let e : 1 + (slice_index numbers index - 1) ≡ slice_index numbers index = omega arith in
      numbers_from-set 1 marks (slice_index numbers index - 1) (omega arith) (λ k from. r.unmarked k (omega arith))
      ∙ ap (λ xs. xs ++ (1 + (slice_index numbers index - 1)) ∷ []) r.marked
      ∙ ap (λ m. take index numbers ++ m ∷ []) e
      ∙ sym (take_more numbers index 0 within);
  unmarked = λ k from.
      let other : k ≢ slice_index numbers index - 1 = omega arith in
      get_or-set_other marks (slice_index numbers index - 1) k true false other ∙ r.unmarked k (omega arith);
  size = length-set marks _ true ∙ r.size;
  top = top;
  begins = λ none. absurd (omega arith);
  latest = λ _. let e : index + 1 - 1 ≡ index = omega arith in rw e refl;
  in_range = λ k below.
      ⊎_elim (λ (before : k < index). r.in_range k before)
      (λ (on : index ≤ k). let e : k ≡ index = omega arith in rw e (omega arith, top))
      (cases_lt k index);
  rising = λ k below.
      ⊎_elim (λ (before : k + 1 < index). r.rising k before)
      (λ (on : index ≤ k + 1).
      let e : index ≡ k + 1 = omega arith in
      let f : index - 1 ≡ k = omega arith in
      let was : last ≡ slice_index numbers k = r.latest (omega arith) ∙ ap (slice_index numbers) f in
      let up : last < slice_index numbers (k + 1) = rw e at above in
      rw was at up)
      (cases_lt (k + 1) index);
}

-- the whole list was read
pub read_all : (numbers : List ℕ) (marks : List Bool) (last : ℕ) → IsRead numbers (length numbers) marks last → 1 ≤ length numbers → AreMonths numbers × (numbers_of marks ≡ numbers)
read_all numbers marks last r some = (
  record {
    some = some;
    in_range = All-from_get_or (IsInRange 1 12) numbers 0 r.in_range;
    rising = r.rising;
  },
  r.marked ∙ take_all (length numbers) numbers (omega arith),
)
