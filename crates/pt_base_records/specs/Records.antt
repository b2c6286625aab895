-- Lists of records in order of a number, their key, and edits of them.
use Rattle.std.specs.Prelude.{ℕ, ◌<◌, ◌≤◌, ◌==◌, ◌&&◌, Bool, not, nat_le, List, [], ◌∷◌, length, find, filter, Option}
use Rattle.std.specs.Ordering.{nat_cmp, match_ordering}
use Rattle.pt_base_records.specs.declared.span.Span.{Span}

-- the key lies in the span, both ends included
abbrev pub is_within : ℕ → Span → Bool
is_within key span = nat_le span.from key && nat_le key span.to

-- the list with the record put at its place by key; it replaces a record with the same key
abbrev pub put : {A : Type 0} → (A → ℕ) → A → List A → List A
put key new [] = new ∷ []
put key new (x ∷ xs) = match_ordering (nat_cmp (key x) (key new)) (x ∷ put key new xs) (new ∷ xs) (new ∷ x ∷ xs)

-- the list with each of the records put in turn
abbrev pub put_all : {A : Type 0} → (A → ℕ) → List A → List A → List A
put_all key [] xs = xs
put_all key (new ∷ news) xs = put_all key news (put key new xs)

-- the list without the records whose keys are in the span
abbrev pub take_away : {A : Type 0} → (A → ℕ) → Span → List A → List A
take_away key span xs = filter (λ x. not (is_within (key x) span)) xs

abbrev pub take_all : {A : Type 0} → (A → ℕ) → List Span → List A → List A
take_all key [] xs = xs
take_all key (span ∷ spans) xs = take_all key spans (take_away key span xs)

-- the first record with this key
abbrev pub record_at : {A : Type 0} → (A → ℕ) → ℕ → List A → Option A
record_at key k xs = find (λ x. key x == k) xs

-- the records whose keys are in the span
abbrev pub within : {A : Type 0} → (A → ℕ) → Span → List A → List A
within key span xs = filter (λ x. is_within (key x) span) xs

-- an edit: the spans of keys to take away first, and then the records to put
pub record Edit (A : Type 0) : Type 0 where
  pub away : List Span
  pub puts : List A

-- the table after the edit
abbrev pub edited : {A : Type 0} → (A → ℕ) → Edit A → List A → List A
edited key edit xs = put_all key edit.puts (take_all key edit.away xs)

-- P holds for each record
abbrev pub Each : {A : Type 0} → (A → Type 0) → List A → Type 0
Each P [] = Unit {0}
Each P (x ∷ xs) = P x × Each P xs

-- the records are in rising order of key, and no key occurs twice
abbrev pub IsInOrder : {A : Type 0} → (A → ℕ) → List A → Type 0
IsInOrder key [] = Unit {0}
IsInOrder key (x ∷ xs) = Each (λ y. key x < key y) xs × IsInOrder key xs

-- records in order of key, at most `most` of them
pub record IsTable {A : Type 0} (key : A → ℕ) (most : ℕ) (xs : List A) : Type 0 where
  pub in_order : IsInOrder key xs
  pub within : length xs ≤ most

-- the records of a table, and how many more it has room for
pub record Contents (A : Type 0) : Type 0 where
  pub items : List A
  pub room : ℕ
