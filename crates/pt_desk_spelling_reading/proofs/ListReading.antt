-- A list is taken item by item, after its length.
use Rattle.std.proofs.Common.{◌≡◌, ℕ, suc, ◌+◌, ◌<◌, ◌≤◌, List, [], ◌∷◌, ◌++◌, length, get_or, take, drop}
use Rattle.std.proofs.Common.{drop-cons, append_assoc, Option, Some, None, sym, ap, ◌∙◌, arith}
use Rattle.std.proofs.lemmas.List.{take_all, take_more, drop_all}
use Rattle.std.proofs.lemmas.List.Elements.{All-get_or}
use Rattle.std.specs.List.{All, flat_map}
use Rattle.pt_desk_spelling.specs.Fields.{number_bytes, list_bytes}
use Rattle.pt_desk_spelling_reading.proofs.ReadingLemmas.{some-same, none-found, found-same}
use Rattle.pt_desk_spelling_reading.specs.Reading.{Takes}

-- a list of a permitted length whose items fit
abbrev pub FitList : {A : Type 0} → (ℕ → Type 0) → (A → Type 0) → List A → Type 0
FitList Few Fits xs = Few (length xs) × All Fits xs

-- the first k items of a list have been taken from the bytes
abbrev pub TakenSoFar : {A : Type 0} → (A → List ℕ) → (ℕ → Type 0) → (A → Type 0) → List ℕ → List ℕ → List A → ℕ → ℕ
    → Type 0
TakenSoFar {A} written Few Fits before left items count k =
    (xs : List A) (later : List ℕ) → FitList Few Fits xs → before ≡ list_bytes written xs ++ later
    → (count ≡ length xs) × (items ≡ take k xs) × (left ≡ flat_map written (drop k xs) ++ later)

module _ {A : Type 0} (written : A → List ℕ) (Few : ℕ → Type 0) (Fits : A → Type 0) where
  pub taken-first : (before left : List ℕ) (items : List A) (count : ℕ)
      → Takes number_bytes Few before (Some count) left → items ≡ []
      → TakenSoFar written Few Fits before left items count 0
  taken-first before left items count number none xs later fits e =
      let s = number (length xs) (flat_map written xs ++ later) fits.0
      (e ∙ append_assoc (number_bytes (length xs)) (flat_map written xs) later) in
      (some-same count (length xs) s.0, none, s.1)

  next-item : (xs : List A) (later : List ℕ) (k : ℕ) (d : A) → k < length xs
      → flat_map written (drop k xs) ++ later ≡ written (get_or xs k d) ++ (flat_map written (drop (k + 1) xs) ++ later)
  next-item xs later k d below =
      let step : suc k ≡ k + 1 = omega arith in
      let parted = drop-cons xs k d below ∙ ap (λ (n : ℕ). get_or xs k d ∷ drop n xs) step in
      ap (λ (rest : List A). flat_map written rest ++ later) parted
      ∙ append_assoc (written (get_or xs k d)) (flat_map written (drop (k + 1) xs)) later

  pub taken-more : (before left next : List ℕ) (items pushed : List A) (count k : ℕ) (found : Option A) (item : A)
      → k < count → TakenSoFar written Few Fits before left items count k → Takes written Fits left found next
      → found ≡ Some item → pushed ≡ items ++ item ∷ []
      → TakenSoFar written Few Fits before next pushed count (k + 1)
  taken-more before left next items pushed count k found item within taken takes is push xs later fits e =
      let so_far = taken xs later fits e in
      let size = so_far.0 in
      let below : k < length xs = omega arith in
      let s = takes (get_or xs k item) (flat_map written (drop (k + 1) xs) ++ later)
      (All-get_or Fits xs k item below fits.1) (so_far.2 ∙ next-item xs later k item below) in
      let same = found-same found item (get_or xs k item) is s.0 in (
        size,
        push ∙ ap (λ (t : List A). t ++ item ∷ []) so_far.1 ∙ ap (λ (y : A). take k xs ++ y ∷ []) same
            ∙ sym (take_more xs k item below),
        s.1,
      )

  pub taken-short : (before left next : List ℕ) (items : List A) (count k : ℕ) (found : Option A) (d : A) → k < count
      → TakenSoFar written Few Fits before left items count k → Takes written Fits left found next → found ≡ None
      → (xs : List A) (later : List ℕ) → FitList Few Fits xs → before ≡ list_bytes written xs ++ later → ⊥
  taken-short before left next items count k found d within taken takes is xs later fits e =
      let so_far = taken xs later fits e in
      let size = so_far.0 in
      let below : k < length xs = omega arith in
      let s = takes (get_or xs k d) (flat_map written (drop (k + 1) xs) ++ later)
      (All-get_or Fits xs k d below fits.1) (so_far.2 ∙ next-item xs later k d below) in
      none-found found (get_or xs k d) is s.0

  pub taken-all : (before left : List ℕ) (items : List A) (count k : ℕ) → count ≤ k
      → TakenSoFar written Few Fits before left items count k → (xs : List A) (later : List ℕ) → FitList Few Fits xs
      → before ≡ list_bytes written xs ++ later → (items ≡ xs) × (left ≡ later)
  taken-all before left items count k over taken xs later fits e =
      let so_far = taken xs later fits e in
      let size = so_far.0 in
      let few : length xs ≤ k = omega arith in (
        so_far.1 ∙ take_all k xs few,
        so_far.2 ∙ ap (λ (rest : List A). flat_map written rest ++ later) (drop_all k xs few),
      )
