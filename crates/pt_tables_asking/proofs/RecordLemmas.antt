-- Records by their rows: those that have the rows of others, and whether they are in the order of their keys.
use Rattle.std.proofs.Common.{◌≡◌, ◌<◌, ◌+◌, ◌↔◌, zero, suc, ℕ, Bool, true, false, IsTrue, List, [], ◌∷◌, length, map, drop, get_or, refl, sym, ap, ap₂, subst, arith}
use Rattle.std.specs.Prelude.{nat_lt}
use Rattle.std.specs.List.{IsAllAdjacentAnswer}
use Rattle.std.proofs.lemmas.Bool.Decides.{nat_tests}
use Rattle.sqlite.specs.Order.{Row}
use Rattle.pt_base_records.specs.Records.{Each, IsInOrder}
use Rattle.pt_base_records.proofs.SplitLemmas.{later_key}
use Rattle.pt_tables_rows.proofs.SameRowsLists.{steps-in_order}

-- ---- rows

-- if no record has one of the rows, no records have all rows
pub no_records : {A : Type 0} (row_of : A → Row) (Fits : A → Type 0) (row : Row) → ((x : A) → Fits x → row_of x ≡ row → ⊥) → (rows : List Row) (i : ℕ)
    → i < length rows → row ≡ get_or rows i row → (xs : List A) → Each Fits xs → map row_of xs ≡ rows → ⊥
no_records {A} row_of Fits row none rows i low at xs each same = go xs i each (subst (λ l. i < length l) (sym same) low) (subst (λ l. row ≡ get_or l i row) (sym same) at)
  where
    go : (xs : List A) (i : ℕ) → Each Fits xs → i < length (map row_of xs) → row ≡ get_or (map row_of xs) i row → ⊥
    go [] i each low at = absurd (omega arith)
    go (x ∷ xs) zero each low at = none x each.0 (sym at)
    go (x ∷ xs) (suc i) each low at = go xs i each.1 (omega arith) at

pub first_row : {A B : Type 0} (f : A → B) (x : A) (xs : List A) (y : A) (ys : List A) → map f (x ∷ xs) ≡ map f (y ∷ ys) → f x ≡ f y
first_row f x xs y ys same = ap (λ l. get_or l 0 (f x)) same

-- records with the same rows are the same, if each has a row of its own
pub same_records : {A B : Type 0} (row_of : A → B) (Fits : A → Type 0) (apart : (x y : A) → Fits x → Fits y → row_of x ≡ row_of y → x ≡ y)
    (xs ys : List A) → Each Fits xs → Each Fits ys → map row_of xs ≡ map row_of ys → xs ≡ ys
same_records row_of Fits apart [] [] one other same = refl
same_records row_of Fits apart [] (y ∷ ys) one other same = absurd (cc)
same_records row_of Fits apart (x ∷ xs) [] one other same = absurd (cc)
same_records row_of Fits apart (x ∷ xs) (y ∷ ys) one other same =
    ap₂ ◌∷◌ (apart x y one.0 other.0 (first_row row_of x xs y ys same)) (same_records row_of Fits apart xs ys one.1 other.1 (ap (drop 1) same))

-- or if two things together determine each
pub same_by_both : {A B C : Type 0} (f : A → B) (g : A → C) (apart : (x y : A) → f x ≡ f y → g x ≡ g y → x ≡ y)
    (xs ys : List A) → map f xs ≡ map f ys → map g xs ≡ map g ys → xs ≡ ys
same_by_both f g apart [] [] one other = refl
same_by_both f g apart [] (y ∷ ys) one other = absurd (cc)
same_by_both f g apart (x ∷ xs) [] one other = absurd (cc)
same_by_both f g apart (x ∷ xs) (y ∷ ys) one other =
    ap₂ ◌∷◌ (apart x y (first_row f x xs y ys one) (first_row g x xs y ys other)) (same_by_both f g apart xs ys (ap (drop 1) one) (ap (drop 1) other))

-- what rows determine is the same for records with the same rows
pub told_by_rows : {A B C : Type 0} (row_of : A → B) (f : A → C) → ((x y : A) → row_of x ≡ row_of y → f x ≡ f y) → (xs ys : List A) → map row_of xs ≡ map row_of ys → map f xs ≡ map f ys
told_by_rows row_of f tells [] [] same = refl
told_by_rows row_of f tells [] (y ∷ ys) same = absurd (cc)
told_by_rows row_of f tells (x ∷ xs) [] same = absurd (cc)
told_by_rows row_of f tells (x ∷ xs) (y ∷ ys) same = ap₂ ◌∷◌ (tells x y (first_row row_of x xs y ys same)) (told_by_rows row_of f tells xs ys (ap (drop 1) same))

-- ---- order

before : (a b : ℕ) → true ≡ nat_lt a b → a < b
before a b is = grind (arith, nat_tests)

not_before : (a b : ℕ) → false ≡ nat_lt a b → a < b → ⊥
not_before a b is low = grind (arith, nat_tests)

-- the test that each key is below the next shows whether the records are in the order of their keys
pub rising : {A : Type 0} (key : A → ℕ) (xs : List A) (r : Bool) → IsAllAdjacentAnswer (λ x y b. b ≡ nat_lt (key x) (key y)) xs r → IsTrue r ↔ IsInOrder key xs
rising key [] true h = (λ is. tt, λ order. refl)
rising key (x ∷ xs) true h = (λ is. steps-in_order key x (x ∷ xs) (λ k inside. before _ _ (h k x inside)), λ order. refl)
rising key [] false h = absurd (let low = h.1 in omega arith)
rising key (x ∷ xs) false h = (λ is. absurd (cc), λ order. absurd (not_before _ _ (h.2 x) (later_key key (x ∷ xs) order h.0 (h.0 + 1) x (omega arith) h.1)))
