-- Positions of places in a list, and how many a list without repeats can have.
use Rattle.std.proofs.Common.{◌≡◌, ℕ, ◌<◌, ◌⊎◌, inl, inr, sym, ap, ◌∙◌, subst, None, Some, List, [], ◌∷◌, ◌++◌}
use Rattle.std.proofs.Common.{length, get_or, take, All, Contains, eqb, ltb, not, true, arith}
use Rattle.std.specs.List.{position, position_or_len}
use Rattle.std.proofs.lemmas.Bool.{cases_Bool, eqb-true, eq-eqb, ne_eqb, cond-true, false≢true, ltb-false, lt-ltb}
use Rattle.std.proofs.lemmas.List.{get_or-take, length-take, get_or_default, length-append}
use Rattle.std.proofs.lemmas.List.Quantifiers.{position-Some}
use Rattle.std.specs.Cmp.{nat_eq_equiv}
use Rattle.std.specs.Int.{IsInRange}
use Rattle.std.specs.List.{IsDistinct}
use Rattle.std.specs.Set.{is_member}
use Rattle.std.proofs.lemmas.Bool.{false_from_ne_true}
use Rattle.std.proofs.lemmas.Bool.Decides.{Decides-eqb}
use Rattle.std.proofs.lemmas.List.Elements.{All-push, All-contains, Contains-push, Contains-append_left}
use Rattle.std.proofs.lemmas.Map.Keys.{IsDistinct-push, IsDistinct-from_apart}
use Rattle.std.proofs.lemmas.Map.Made.{is_member-Decides, length-le_from_is_member}
use Rattle.std.proofs.lemmas.List.Sums.{prefix_len_passes, position_or_len_is}

pub position-found : (places : List ℕ) (place k : ℕ) → position (λ p. eqb p place) places ≡ Some k
    → (k < length places) × (get_or places k 0 ≡ place)
position-found places place k e =
    let at = position-Some (λ p. eqb p place) places k 0 e in
    (at.0, eqb-true (get_or places k 0) place at.1)

pub position-absent : (places : List ℕ) (place : ℕ) → position (λ p. eqb p place) places ≡ None
    → Contains places place → ⊥
position-absent places place e (k, in_k, is) =
    let n = position_or_len (λ p. eqb p place) places in
    elim (cases_Bool (ltb n (length places))) [
      | inl found ↦ let s : Some n ≡ None = sym (cond-true (ltb n (length places)) (Some n) None found) ∙ e in cc s
      | inr past ↦
          let passes = prefix_len_passes (λ p. not (eqb p place)) places k place
          (omega (arith, ltb-false n (length places) past)) in
          false≢true (sym (ap not (eq-eqb (get_or places k place) place is)) ∙ passes)
    ]

-- a list with no repeats, another place and a list that has them all
pub crowded : (places list : List ℕ) (place : ℕ)
    → ((i j : ℕ) → i < length places → j < length places → get_or places i 0 ≡ get_or places j 0 → i ≡ j)
    → (Contains places place → ⊥) → All (Contains list) places → Contains list place → length places < length list
crowded places list place distinct new all one =
    let more = places ++ place ∷ [] in
    let apart : IsDistinct eqb places = IsDistinct-from_apart eqb places
    (λ i j d before in_j. ne_eqb (get_or places i d) (get_or places j d)
    (λ e. absurd (omega (
      arith,
      distinct i j (omega arith) in_j
          (get_or_default places i 0 d (omega arith) ∙ e ∙ sym (get_or_default places j 0 d in_j)),
    )))) in
    let distinct_more : IsDistinct eqb more = IsDistinct-push nat_eq_equiv places place apart
    (false_from_ne_true (is_member eqb places place) (λ e. new
    ((is_member-Decides Decides-eqb places place).0 e))) in
    let within : (q : ℕ) → is_member eqb more q ≡ true → is_member eqb list q ≡ true =
    λ q e. (is_member-Decides Decides-eqb list q).1 (All-contains (Contains list) more q
    (All-push (Contains list) places place all one) ((is_member-Decides Decides-eqb more q).0 e)) in
    omega (
      arith,
      length-le_from_is_member nat_eq_equiv more list distinct_more within,
      length-append places
          (place ∷ []),
    )

-- the places before the end of an array are as apart as those of the array
pub distinct-take : (numbers : List ℕ) (n : ℕ)
    → ((i j : ℕ) → i < n → j < n → get_or numbers i 0 ≡ get_or numbers j 0 → i ≡ j)
    → (i j : ℕ) → i < length (take n numbers) → j < length (take n numbers)
    → get_or (take n numbers) i 0 ≡ get_or (take n numbers) j 0 → i ≡ j
distinct-take numbers n distinct i j in_i in_j same =
    let in_i' : i < n = omega (arith, length-take n numbers) in
    let in_j' : j < n = omega (arith, length-take n numbers) in
    distinct i j in_i' in_j' (sym (get_or-take n numbers i 0 in_i') ∙ same ∙ get_or-take n numbers j 0 in_j')

-- what a list of places has and needs once a place was put among them
pub record HasPut (old new : List ℕ) (place : ℕ) : Type 0 where
  pub has : Contains new place
  pub keeps : (other : ℕ) → Contains old other → Contains new other
  pub needs : (list : List ℕ) → All (Contains list) old → Contains list place → All (Contains list) new

pub put-kept : (old new : List ℕ) (place : ℕ) → ((new ≡ old) × Contains old place) ⊎ (new ≡ old ++ place ∷ [])
    → HasPut old new place
put-kept old new place (inl (same, there)) =
    subst (λ (x : List ℕ). HasPut old x place) (sym same)
    (record { has = there; keeps = λ other h. h; needs = λ list all one. all })
put-kept old new place (inr more) =
    subst (λ (x : List ℕ). HasPut old x place) (sym more)
    (record {
      has = Contains-push old place;
      keeps = λ other h. Contains-append_left old (place ∷ []) other h;
      needs = λ list all one. All-push (Contains list) old place all one;
    })

-- in a list with no repeats, the position of a place is where it was seen
pub position-is : (places : List ℕ) (place k : ℕ)
    → ((i j : ℕ) → i < length places → j < length places → get_or places i 0 ≡ get_or places j 0 → i ≡ j)
    → k < length places → get_or places k 0 ≡ place → position (λ p. eqb p place) places ≡ Some k
position-is places place k distinct in_k at =
    let first : position_or_len (λ p. eqb p place) places ≡ k =
    position_or_len_is (λ p. eqb p place) places k 0 (omega arith)
    (λ j less. ne_eqb (get_or places j 0) place (λ same. absurd
    (omega (arith, distinct j k (omega arith) in_k (same ∙ sym at)))))
    (λ _. eq-eqb (get_or places k 0) place at)
    in
    rw first (cond-true (ltb k (length places)) (Some k) None (lt-ltb k (length places) in_k))

-- the numbers before the end of an array are in range, if those of the array are
pub in-range : (numbers : List ℕ) (n place : ℕ) → ((i : ℕ) → i < n → IsInRange 1 4294967295 (get_or numbers i 0))
    → Contains (take n numbers) place → IsInRange 1 4294967295 place
in-range numbers n place valid (k, in_k, is) =
    let in_n : k < n = omega (arith, length-take n numbers) in
    let in_numbers : k < length numbers = omega (arith, length-take n numbers) in
    subst (IsInRange 1 4294967295) (get_or_default numbers k 0 place in_numbers ∙ sym
    (get_or-take n numbers k place in_n) ∙ is) (valid k in_n)
