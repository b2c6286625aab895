-- A text is that of a condition exactly if the condition is the first with that text.
use Rattle.std.proofs.Common.{◌≡◌, ◌∙◌, refl, sym, ap, subst, inl, inr, ◌⊎◌, ℕ, zero, suc, ◌+◌, ◌<◌, ◌≤◌, List, [], ◌∷◌}
use Rattle.std.proofs.Common.{◌++◌, map, length, Bool, true, false, Some, arith}
use Rattle.std.proofs.lemmas.Bool.{cases_eq, leb-true, le-leb}
use Rattle.std.proofs.lemmas.Slice.Eq.{bytes_eq-Decides}
use Rattle.std.specs.List.{range_with_len}
use Rattle.std.specs.Prelude.{bytes_eq, cond, filter, find, nat_le, Option, IsSome, IfSome, ◌↔◌}
use Rattle.pt_rights_conditions.proofs.TextLemmas.{condition_text-injective}
use Rattle.pt_rights_conditions.specs.Texts.{condition_text, SpellsCondition}
use Rattle.pt_rights_files.specs.Conditions.{IsCondition, IsConditions}
use Rattle.pt_rights_files.specs.Limits.{most_conditions}
use Rattle.pt_rights_files.specs.Months.{numbers_of}
use Rattle.pt_rights_files.specs.declared.conditions.Condition.{Condition}
use Rattle.pt_rights_files.specs.declared.conditions.Condition.TheVariants.{Always, Months, Farther, NoLift}
use Rattle.pt_base_values.proofs.ChoiceLemmas.{Decides-within, test-read}
use Rattle.pt_base_values.specs.SpelledNumber.{is_within}
use Rattle.pt_http_request.specs.Entries.{few}
use Rattle.pt_http_request.specs.Conditions.{mark_sets, month_sets, distances, conditions, condition_from}

-- ---- lists

-- the list has the element
abbrev Has : {A : Type 0} → List A → A → Type 0
Has [] x = ⊥
Has (y ∷ ys) x = (x ≡ y) ⊎ Has ys x

has-left : {A : Type 0} (xs ys : List A) (x : A) → Has xs x → Has (xs ++ ys) x
has-left [] ys x has = absurd has
has-left (y ∷ xs) ys x (inl here) = inl here
has-left (y ∷ xs) ys x (inr later) = inr (has-left xs ys x later)

has-right : {A : Type 0} (xs ys : List A) (x : A) → Has ys x → Has (xs ++ ys) x
has-right [] ys x has = has
has-right (y ∷ xs) ys x has = inr (has-right xs ys x has)

has-either : {A : Type 0} (xs ys : List A) (x : A) → Has (xs ++ ys) x → Has xs x ⊎ Has ys x
has-either [] ys x has = inr has
has-either (y ∷ xs) ys x (inl here) = inl (inl here)
has-either (y ∷ xs) ys x (inr later) = elim (has-either xs ys x later) [
  | inl left ↦ inl (inr left)
  | inr right ↦ inr right
]

has-map : {A B : Type 0} (f : A → B) (xs : List A) (x : A) → Has xs x → Has (map f xs) (f x)
has-map f [] x has = absurd has
has-map f (y ∷ xs) x (inl here) = inl (ap f here)
has-map f (y ∷ xs) x (inr later) = inr (has-map f xs x later)

from-map : {A B : Type 0} (f : A → B) (xs : List A) (y : B) → Has (map f xs) y → (x : A) × Has xs x × (y ≡ f x)
from-map f [] y has = absurd has
from-map f (z ∷ xs) y (inl here) = (z, inl refl, here)
from-map f (z ∷ xs) y (inr later) = let rest = from-map f xs y later in (rest.0, inr rest.1, rest.2)

has-filter : {A : Type 0} (test : A → Bool) (xs : List A) (x : A) → Has xs x → test x ≡ true → Has (filter test xs) x
has-filter test [] x has passes = absurd has
has-filter test (y ∷ xs) x (inl here) passes = rw (ap test (sym here) ∙ passes) (inl here)
has-filter test (y ∷ xs) x (inr later) passes = elim (test y) as (λ b. Has (cond b (y ∷ filter test xs)
    (filter test xs)) x) [
      | true ↦ inr (has-filter test xs x later passes)
      | false ↦ has-filter test xs x later passes
    ]

kept : {A : Type 0} (test : A → Bool) (y : A) (xs ys : List A) (x : A) (b : Bool) → test y ≡ b → (Has ys x
    → Has xs x × (test x ≡ true)) → Has (cond b (y ∷ ys) ys) x → Has (y ∷ xs) x × (test x ≡ true)
kept test y xs ys x true is rest (inl here) = (inl here, ap test here ∙ is)
kept test y xs ys x true is rest (inr later) = let passed = rest later in (inr passed.0, passed.1)
kept test y xs ys x false is rest has = let passed = rest has in (inr passed.0, passed.1)

from-filter : {A : Type 0} (test : A → Bool) (xs : List A) (x : A) → Has (filter test xs) x → Has xs x × (test x ≡ true)
from-filter test [] x has = absurd has
from-filter test (y ∷ xs) x has = kept test y xs (filter test xs) x (test y) refl (from-filter test xs x) has

has-range : (from size n : ℕ) → from ≤ n → n < from + size → Has (range_with_len from size) n
has-range from zero n low high = absurd (omega arith)
has-range from (suc size) n low high = elim (cases_eq n from) [
  | inl here ↦ inl here
  | inr apart ↦ inr (has-range (from + 1) size n (omega arith) (omega arith))
]

from-range : (from size n : ℕ) → Has (range_with_len from size) n → (from ≤ n) × (n < from + size)
from-range from zero n has = absurd has
from-range from (suc size) n (inl here) = (omega arith, omega arith)
from-range from (suc size) n (inr later) = let rest = from-range (from + 1) size n later in (
  omega
      (arith, rest.0),
  omega (arith, rest.1),
)

-- the first with a text has it
first-has : {A : Type 0} (name : A → List ℕ) (text : List ℕ) (y : A) (xs : List A) (x : A) (b : Bool)
    → bytes_eq (name y) text ≡ b → (find (λ z. bytes_eq (name z) text) xs ≡ Some x → Has xs x × (name x ≡ text))
    → cond b (Some y) (find (λ z. bytes_eq (name z) text) xs) ≡ Some x → Has (y ∷ xs) x × (name x ≡ text)
first-has name text y xs x true is rest e =
    let same : y ≡ x = cc e in
    (inl (sym same), ap name (sym same) ∙ (bytes_eq-Decides (name y) text).0 is)
first-has name text y xs x false is rest e = let later = rest e in (inr later.0, later.1)

find-has : {A : Type 0} (name : A → List ℕ) (text : List ℕ) (xs : List A) (x : A)
    → find (λ z. bytes_eq (name z) text) xs ≡ Some x → Has xs x × (name x ≡ text)
find-has name text [] x e = cc e
find-has name text (y ∷ xs) x e = first-has name text y xs x (bytes_eq (name y) text) refl (find-has name text xs x) e

first-known : {A : Type 0} (name : A → List ℕ) (y : A) (xs : List A) (x : A) (b : Bool)
    → bytes_eq (name y) (name x) ≡ b → (name y ≡ name x → y ≡ x) → find (λ z. bytes_eq (name z) (name x)) xs ≡ Some x
    → cond b (Some y) (find (λ z. bytes_eq (name z) (name x)) xs) ≡ Some x
first-known name y xs x true is same rest = ap Some (same ((bytes_eq-Decides (name y) (name x)).0 is))
first-known name y xs x false is same rest = rest

-- an element is found by its text, where no other has that text
find-known : {A : Type 0} (name : A → List ℕ) (xs : List A) (x : A) → Has xs x → ((y : A) → Has xs y
    → name y ≡ name x → y ≡ x) → find (λ z. bytes_eq (name z) (name x)) xs ≡ Some x
find-known name [] x has alone = absurd has
find-known name (y ∷ xs) x (inl here) alone =
    let same : bytes_eq (name y) (name x) ≡ true = (bytes_eq-Decides (name y) (name x)).1 (ap name (sym here)) in
    rw same (ap Some (sym here))
find-known name (y ∷ xs) x (inr later) alone =
    first-known name y xs x (bytes_eq (name y) (name x)) refl (alone y (inl refl)) (find-known name xs x later
    (λ z has. alone z (inr has)))

-- ---- conditions

mark_sets-length : (size : ℕ) (marks : List Bool) → Has (mark_sets size) marks → length marks ≡ size
mark_sets-length zero marks (inl here) = ap length here
mark_sets-length zero marks (inr later) = absurd later
mark_sets-length (suc rest) marks has = elim (has-either _ _ marks has) [
  | inl left ↦ let from = from-map (λ m. true ∷ m) (mark_sets rest) marks left in ap length from.2
      ∙ ap suc (mark_sets-length rest from.0 from.1)
  | inr right ↦ let from = from-map (λ m. false ∷ m) (mark_sets rest) marks right in ap length from.2
      ∙ ap suc (mark_sets-length rest from.0 from.1)
]

has-marks : (size : ℕ) (marks : List Bool) → length marks ≡ size → Has (mark_sets size) marks
has-marks zero [] e = inl refl
has-marks zero (mark ∷ marks) e = absurd (omega (arith, e))
has-marks (suc rest) [] e = absurd (omega (arith, e))
has-marks (suc rest) (true ∷ marks) e = has-left _ _ _ (has-map (λ m. true ∷ m) (mark_sets rest) marks
    (has-marks rest marks (omega (arith, e))))
has-marks (suc rest) (false ∷ marks) e = has-right _ _ _ (has-map (λ m. false ∷ m) (mark_sets rest) marks
    (has-marks rest marks (omega (arith, e))))

all_are : (condition : Condition) → Has conditions condition → IsCondition condition
unfolding month_sets distances
all_are condition (inl always) = subst IsCondition (sym always) tt
all_are condition (inr (inl no_lift)) = subst IsCondition (sym no_lift) tt
all_are condition (inr (inr later)) = elim (has-either (map Months month_sets)
    (map Farther distances) condition later) [
      | inl months ↦
          let from = from-map Months month_sets condition months in
          let set = from-filter (λ marks. nat_le 1 (length (numbers_of marks))) (mark_sets 12) from.0 from.1 in
          subst IsCondition (sym from.2) (mark_sets-length 12 from.0 set.0, leb-true _ _ set.1)
      | inr farther ↦
          let from = from-map Farther distances condition farther in
          let is = from-range 1 100_000 from.0 from.1 in
          subst IsCondition (sym from.2) (is.0, omega (arith, is.1))
    ]

-- each condition is one of them
each_is : (condition : Condition) → IsCondition condition → Has conditions condition
unfolding month_sets distances
each_is Always is = inl refl
each_is NoLift is = inr (inl refl)
each_is (Months marks) is =
    let one = has-filter (λ m. nat_le 1 (length (numbers_of m))) (mark_sets 12) marks (has-marks 12 marks is.0)
    (le-leb _ _ is.1) in
    inr (inr (has-left (map Months month_sets) (map Farther distances) (Months marks)
    (has-map Months month_sets marks one)))
each_is (Farther feet) is =
    let most = is.1 in
    let least = is.0 in
    inr (inr (has-right (map Months month_sets) (map Farther distances) (Farther feet) (has-map Farther distances feet
    (has-range 1 100_000 feet least (omega arith)))))

-- what a text spells is its condition, and the other way round
pub condition_from-known : (text : List ℕ) (condition : Condition) → SpellsCondition text condition
    → condition_from text ≡ Some condition
unfolding condition_from
condition_from-known text condition spelled =
    subst (λ (t : List ℕ). find (λ c. bytes_eq (condition_text c) t) conditions ≡ Some condition) (sym spelled.1)
    (find-known condition_text conditions condition (each_is condition spelled.0)
    (λ other has same. condition_text-injective other condition (all_are other has) spelled.0 same))

pub condition_from-spelled : (text : List ℕ) (condition : Condition) → condition_from text ≡ Some condition
    → SpellsCondition text condition
unfolding condition_from
condition_from-spelled text condition e =
    let is = find-has condition_text text conditions condition e in
    (all_are condition is.0, sym is.1)

-- ---- lists of them

pub few-read : (members : List Condition) (result : Option (List Condition)) → (IsSome result ↔ IsConditions members)
    → IfSome result (λ found. found ≡ members) → result ≡ few members
few-read members result some is = test-read (is_within 1 most_conditions (length members)) members result
    (Decides-within 1 most_conditions (length members)) some is
