-- What lifts a suspension, by one walk from the end of a list.
use Rattle.std.specs.Prelude.{◌≡◌, ℕ, ◌-◌, ◌<◌, Bool, true, false, ◌&&◌, ◌||◌, not, List, [], ◌∷◌, Some, if◌then◌else◌, length, refl}
use Rattle.std.specs.List.{list_any, find}
use Rattle.std.specs.Option.{option_map_or}
use Rattle.std.proofs.Common.{zero, suc, arith, get_or, drop, drop-cons, ◌∙◌}
use Rattle.pt_rights_files.specs.Positions.{some_position, is_open}

-- the first item that closes passes the test
abbrev pub is_first : {X : Type 0} → (X → Bool) → (X → Bool) → List X → Bool
is_first closes test xs = option_map_or test (find closes xs) false

-- the first item that closes passes the test, or none closes
abbrev pub first_if_any : {X : Type 0} → (X → Bool) → (X → Bool) → List X → Bool
first_if_any closes test xs = option_map_or test (find closes xs) true

lifted_step : (o kept first held settled : Bool)
    → ((o && (kept || first)) || (held || settled)) ≡ (((o && kept) || held) || ((o && first) || settled))
lifted_step false kept first held settled = refl
lifted_step true true first held settled = refl
lifted_step true false true true settled = refl
lifted_step true false true false settled = refl
lifted_step true false false held settled = refl

module _ {X : Type 0} (opens closes test : X → Bool) where
  first-split : (xs : List X) → first_if_any closes test xs ≡ (not (list_any closes xs) || is_first closes test xs)
  first-split [] = refl
  first-split (first ∷ xs) =
      elim (closes first) as
      (λ c. option_map_or test (if c then Some first else find closes xs) true
      ≡ (not (c || list_any closes xs) || option_map_or test (if c then Some first else find closes xs) false)) [
        | true ↦ refl
        | false ↦ first-split xs
      ]

  -- some position opens, and stays open or is settled by the first item that closes
  pub lifted-split : (xs : List X)
      → some_position (λ item later. opens item && first_if_any closes test later) xs
      ≡ (some_position (is_open opens closes) xs || some_position (λ item later. opens item && is_first closes test later) xs)
  lifted-split [] = refl
  lifted-split (first ∷ xs) =
      rw (first-split xs, lifted-split xs)
      (lifted_step (opens first) (not (list_any closes xs)) (is_first closes test xs)
      (some_position (is_open opens closes) xs) (some_position (λ item later. opens item && is_first closes test later) xs))

-- one item earlier
module _ {X : Type 0} (closes test : X → Bool) (x : X) (later items : List X) (from : items ≡ x ∷ later) where
  pub first-more : (was now : Bool)
      → was ≡ first_if_any closes test later → now ≡ (if closes x then test x else was) → now ≡ first_if_any closes test items
  first-more was now was_is now_is = now_is ∙ rw (was_is, from) (first-cons (closes x)) where
    first-cons : (c : Bool)
        → (if c then test x else option_map_or test (find closes later) true)
        ≡ option_map_or test (if c then Some x else find closes later) true
    first-cons true = refl
    first-cons false = refl

  pub lifted-more : (opens : X → Bool) (lifts was now : Bool)
      → lifts ≡ first_if_any closes test later
      → was ≡ some_position (λ item after. opens item && first_if_any closes test after) later
      → now ≡ ((opens x && lifts) || was)
      → now ≡ some_position (λ item after. opens item && first_if_any closes test after) items
  lifted-more opens lifts was now lifts_is was_is now_is = now_is ∙ rw (lifts_is, was_is, from) refl

-- a list from the position before on
pub drop-before : {X : Type 0} (xs : List X) (position : ℕ) (x : X)
    → 0 < position → position - 1 < length xs → drop (position - 1) xs ≡ get_or xs (position - 1) x ∷ drop position xs
drop-before xs zero x after within = absurd (omega arith)
drop-before xs (suc before) x after within =
    let same : suc before - 1 ≡ before = omega arith in
    let within_before : before < length xs = omega arith in
    rw same (drop-cons xs before x within_before)
