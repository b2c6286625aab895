-- What edits do to the rows of one table.
use Rattle.std.specs.Prelude.{◌≡◌, ℕ, ◌==◌, not, List, [], ◌∷◌, flat_map, filter}
use Rattle.sqlite.specs.Effect.{Database}
use Rattle.sqlite.specs.Order.{Row}
use Rattle.sqlite.specs.Table.{Table}
use Rattle.pt_base_records.specs.Records.{Edit, Each, IsInOrder, edited, put_all, take_all}
use Rattle.pt_base_records.specs.declared.span.Span.{Span}
use Rattle.pt_tables_writing.specs.Writes.{Rewrites}

-- the records without the one that has this one's key
abbrev pub without : {A : Type 0} → (A → ℕ) → A → List A → List A
without key gone xs = filter (λ x. not (key x == key gone)) xs

-- the records without those that have the keys of these
abbrev pub without_all : {A : Type 0} → (A → ℕ) → List A → List A → List A
without_all key [] xs = xs
without_all key (gone ∷ rest) xs = without_all key rest (without key gone xs)

-- if the table had the rows of the records `before`, it has those of the records `after`
abbrev pub Turns : {A : Type 0} → Table → (A → ℕ) → (A → Type 0) → (A → List Row) → List A → List A
    → Database → Database → Type 0
Turns {A} table key Fits rows before after old new =
    IsInOrder key before → Each Fits before → Rewrites table (flat_map rows before) (flat_map rows after) old new

-- each of these records is put, whatever others the table has
abbrev pub PutsAll : {A : Type 0} → Table → (A → ℕ) → (A → Type 0) → (A → List Row) → List A
    → Database → Database → Type 0
PutsAll {A} table key Fits rows news old new =
    Each Fits news → (xs : List A) → Turns table key Fits rows xs (put_all key news xs) old new

-- the records with the keys of these are removed, whatever others the table has
abbrev pub TakesAll : {A : Type 0} → Table → (A → ℕ) → (A → Type 0) → (A → List Row) → List A
    → Database → Database → Type 0
TakesAll {A} table key Fits rows gone old new =
    (xs : List A) → Turns table key Fits rows xs (without_all key gone xs) old new

-- the records with keys in these spans are removed from a table that has these records
abbrev pub TakesSpans : {A : Type 0} → Table → (A → ℕ) → (A → Type 0) → (A → List Row) → List Span → List A
    → Database → Database → Type 0
TakesSpans table key Fits rows spans xs old new = Turns table key Fits rows xs (take_all key spans xs) old new

-- the span is this key alone
abbrev pub IsKey : ℕ → Span → Type 0
IsKey key span = (span.from ≡ key) × (span.to ≡ key)

-- the edit puts this record, and removes nothing but what has its key
pub record OnlyPuts {A : Type 0} (key : A → ℕ) (new : A) (edit : Edit A) : Type 0 where
  pub away : Each (IsKey (key new)) edit.away
  pub puts : edit.puts ≡ new ∷ []

-- the edit is made in a table that has these records
abbrev pub EditsTable : {A : Type 0} → Table → (A → ℕ) → (A → Type 0) → (A → List Row) → Edit A → List A
    → Database → Database → Type 0
EditsTable table key Fits rows edit xs old new =
    Each Fits edit.puts → Turns table key Fits rows xs (edited key edit xs) old new
