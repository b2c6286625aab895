-- How many rows a travel table has at most.
use Rattle.std.proofs.Common.{◌≡◌, ℕ, zero, suc, ◌+◌, ◌-◌, ◌*◌, ◌<◌, ◌≤◌, inl, inr, List, [], ◌∷◌, length, get_or, Contains, ap, subst, arith}
use Rattle.pt_travel.specs.Chain.{Row}
use Rattle.pt_travel.specs.Table.{ComesBefore, NamesOnly, Rises, IsTable}

-- how many of the places have a lower number
abbrev rank : List ℕ → ℕ → ℕ
rank [] x = 0
rank (p ∷ places) x = (1 - (p + 1 - x)) + rank places x

pub rank-more : (places : List ℕ) (x y : ℕ) → x ≤ y → rank places x ≤ rank places y
rank-more [] x y most = omega arith
rank-more (p ∷ places) x y most = let rest = rank-more places x y most in omega arith

pub rank-length : (places : List ℕ) (x : ℕ) → rank places x ≤ length places
rank-length [] x = omega arith
rank-length (p ∷ places) x = let rest = rank-length places x in omega arith

-- a higher number has a higher rank
pub rank-rises : (places : List ℕ) (x y : ℕ) → Contains places x → x < y → rank places x < rank places y
rank-rises [] x y (k, below, is) less = absurd (omega arith)
rank-rises (p ∷ places) x y (zero, below, is) less = let rest = rank-more places x y (omega arith) in let same : p ≡ x = is in omega arith
rank-rises (p ∷ places) x y (suc k, below, is) less = let rest = rank-rises places x y (k, omega arith, is) less in omega arith

pub rank-below : (places : List ℕ) (x : ℕ) → Contains places x → rank places x < length places
rank-below [] x (k, below, is) = absurd (omega arith)
rank-below (p ∷ places) x (zero, below, is) = let rest = rank-length places x in let same : p ≡ x = is in omega arith
rank-below (p ∷ places) x (suc k, below, is) = let rest = rank-below places x (k, omega arith, is) in omega arith

module _ (places : List ℕ) (few : length places ≤ 100) where
  -- the slot of a row among all possible ones
  abbrev slot : Row → ℕ
  slot row = rank places row.0 * 100 + rank places row.1

  slot-below : (row : Row) → Contains places row.0 × Contains places row.1 → slot row < 10_000
  slot-below row named =
      let first = rank-below places row.0 named.0 in
      let last = rank-below places row.1 named.1 in
      omega arith

  slot-rises : (row other : Row) → Contains places row.0 × Contains places row.1 → Contains places other.0 × Contains places other.1 → ComesBefore row other → slot row < slot other
  slot-rises row other named others (inl less) =
      let first = rank-rises places row.0 other.0 named.0 less in
      let last = rank-below places row.1 named.1 in
      omega arith
  slot-rises row other named others (inr (same, less)) =
      let first : rank places row.0 ≡ rank places other.0 = ap (rank places) same in
      let last = rank-rises places row.1 other.1 named.1 less in
      omega arith

  -- a row's slot is at least its position among the rows
  slot-least : (rows : List Row) → Rises rows → NamesOnly places rows → (k : ℕ) → k < length rows → k ≤ slot (get_or rows k (0, 0, 0))
  slot-least rows rises named zero below = omega arith
  slot-least rows rises named (suc k) below =
      let before = slot-least rows rises named k (omega arith) in
      let e : k + 1 ≡ suc k = omega arith in
      let next : ComesBefore (get_or rows k (0, 0, 0)) (get_or rows (suc k) (0, 0, 0)) = subst (λ (j : ℕ). ComesBefore (get_or rows k (0, 0, 0)) (get_or rows j (0, 0, 0))) e (rises k (omega arith)) in
      let step = slot-rises (get_or rows k (0, 0, 0)) (get_or rows (suc k) (0, 0, 0)) (named k (0, 0, 0) (omega arith)) (named (suc k) (0, 0, 0) below) next in
      omega arith

  length-few : (rows : List Row) → Rises rows → NamesOnly places rows → (10_000 < length rows → ⊥)
  length-few rows rises named many =
      let least = slot-least rows rises named 10_000 many in
      let most = slot-below (get_or rows 10_000 (0, 0, 0)) (named 10_000 (0, 0, 0) many) in
      omega arith

-- a table has at most as many rows as a hundred places have pairs
pub length-table : (rows : List Row) → IsTable rows → length rows ≤ 10_000
length-table rows table =
    let many = length-few table.few_places.0 table.few_places.1 rows table.in_order table.few_places.2 in
    omega arith
