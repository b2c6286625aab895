-- What one more item at the end of a list does to the positions that are held, followed or settled.
use Rattle.std.specs.Prelude.{◌≡◌, ℕ, ◌+◌, ◌<◌, Bool, true, false, ◌&&◌, ◌||◌, not, List, [], ◌∷◌, ◌++◌, length, refl}
use Rattle.std.proofs.Common.{take, get_or, sym, ◌∙◌}
use Rattle.std.proofs.lemmas.List.{take_more}
use Rattle.std.specs.List.{list_any}
use Rattle.std.proofs.lemmas.List.Folds.{list_any-append}
use Rattle.pt_rights_files.specs.Positions.{some_position, is_open, is_followed}

open_new : (o : Bool) → ((o && not false) || false) ≡ (false || o)
open_new true = refl
open_new false = refl

-- the test of the first position, of the later positions and of the new one, before and after the new item
open_step : (o closed c rest o_new : Bool)
    → ((o && not (closed || (c || false))) || ((rest && not c) || o_new))
    ≡ ((((o && not closed) || rest) && not c) || o_new)
open_step false closed c rest o_new = refl
open_step true true c rest o_new = refl
open_step true false true true o_new = refl
open_step true false true false o_new = refl
open_step true false false rest o_new = refl

followed_new : (o c f : Bool) → (((o && not false) && false) || false) ≡ (not c && (false || (false && f)))
followed_new true true f = refl
followed_new true false f = refl
followed_new false true f = refl
followed_new false false f = refl

followed_step : (o closed c followed f held rest : Bool)
    → (((o && not (closed || (c || false))) && (followed || (f || false))) || (not c && (rest || (held && f))))
    ≡ (not c && ((((o && not closed) && followed) || rest) || (((o && not closed) || held) && f)))
followed_step false closed true followed f held rest = refl
followed_step true true true followed f held rest = refl
followed_step true false true followed f held rest = refl
followed_step false closed false followed f held rest = refl
followed_step true true false followed f held rest = refl
followed_step true false false true f held rest = refl
followed_step true false false false true held true = refl
followed_step true false false false true held false = refl
followed_step true false false false false held true = refl
followed_step true false false false false true false = refl
followed_step true false false false false false false = refl

module _ {X : Type 0} (opens closes : X → Bool) where
  pub open-push : (xs : List X) (x : X)
      → some_position (is_open opens closes) (xs ++ x ∷ [])
      ≡ ((some_position (is_open opens closes) xs && not (closes x)) || opens x)
  open-push [] x = open_new (opens x)
  open-push (first ∷ xs) x =
      rw (list_any-append closes xs (x ∷ []), open-push xs x)
      (open_step (opens first) (list_any closes xs) (closes x) (some_position (is_open opens closes) xs) (opens x))

  pub followed-push : (follows : X → Bool) (xs : List X) (x : X)
      → some_position (is_followed opens closes follows) (xs ++ x ∷ [])
      ≡ (not (closes x) && (some_position (is_followed opens closes follows) xs || (some_position (is_open opens closes) xs && follows x)))
  followed-push follows [] x = followed_new (opens x) (closes x) (follows x)
  followed-push follows (first ∷ xs) x =
      rw (list_any-append closes xs (x ∷ []), list_any-append follows xs (x ∷ []), followed-push follows xs x)
      (followed_step (opens first) (list_any closes xs) (closes x) (list_any follows xs) (follows x)
      (some_position (is_open opens closes) xs) (some_position (is_followed opens closes follows) xs))

-- the same of a walk over a list that has come to the item at i
module _ {X : Type 0} (xs : List X) (i : ℕ) (x : X) (within : i < length xs) (is : x ≡ get_or xs i x) where
  here : take (i + 1) xs ≡ take i xs ++ x ∷ []
  here = take_more xs i x within ∙ rw (← is) refl

  pub open-more : (opens closes : X → Bool) (was now : Bool)
      → was ≡ some_position (is_open opens closes) (take i xs)
      → now ≡ ((was && not (closes x)) || opens x)
      → now ≡ some_position (is_open opens closes) (take (i + 1) xs)
  open-more opens closes was now was_is now_is =
      now_is ∙ rw (was_is, here) (sym (open-push opens closes (take i xs) x))

  pub followed-more : (opens closes follows : X → Bool) (held was now : Bool)
      → held ≡ some_position (is_open opens closes) (take i xs)
      → was ≡ some_position (is_followed opens closes follows) (take i xs)
      → now ≡ (not (closes x) && (was || (held && follows x)))
      → now ≡ some_position (is_followed opens closes follows) (take (i + 1) xs)
  followed-more opens closes follows held was now open_is was_is now_is =
      now_is ∙ rw (open_is, was_is, here) (sym (followed-push opens closes follows (take i xs) x))
