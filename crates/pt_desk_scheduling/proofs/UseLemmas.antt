-- Days in rising order, each once.
use Rattle.std.proofs.Common.{◌≡◌, ℕ, ◌<◌, zero, suc, Bool, true, false, List, [], ◌∷◌, length, Option, arith, refl, sym, ap, add-one, ◌∙◌, inl, inr}
use Rattle.std.specs.Prelude.{◌==◌, ◌||◌, ◌&&◌, slice_index}
use Rattle.pt_base_values.specs.declared.trip.Trip.{Trip}
use Rattle.pt_desk_scheduling.specs.Uses.{is_other, is_used, is_use_of}
use Rattle.std.specs.List.{list_any}
use Rattle.std.specs.List.Sorted.{IsStrictlyIncreasing}
use Rattle.std.proofs.lemmas.Bool.Decides.{nat_tests}
use Rattle.pt_base_records.specs.Records.{put, IsInOrder}
use Rattle.pt_base_records.proofs.OrderLemmas.{compared}
use Rattle.pt_base_records.proofs.RecordLemmas.{put_past, put_over, put_before}

swap : (a b c : Bool) → (a || (b || c)) ≡ (b || (a || c))
swap true true c = refl
swap true false c = refl
swap false true c = refl
swap false false c = refl

same_twice : (x new day : ℕ) (rest : Bool) → x ≡ new → ((new == day) || rest) ≡ ((new == day) || ((x == day) || rest))
same_twice x new day true same = grind (arith, nat_tests)
same_twice x new day false same = grind (arith, nat_tests)

-- a day that is put is there, together with those that were
pub has_put : (new day : ℕ) (days : List ℕ) → list_any (λ use_day. use_day == day) (put (λ use_day. use_day) new days) ≡ ((new == day) || list_any (λ use_day. use_day == day) days)
has_put new day [] = refl
has_put new day (x ∷ xs) = elim (compared x new) [
  | inl lt ↦ rw (put_past (λ use_day. use_day) new x xs lt)
      (ap (λ b. (x == day) || b) (has_put new day xs) ∙ swap (x == day) (new == day) (list_any (λ use_day. use_day == day) xs))
  | inr (inl is) ↦ rw (put_over (λ use_day. use_day) new x xs is) (same_twice x new day (list_any (λ use_day. use_day == day) xs) is)
  | inr (inr gt) ↦ rw (put_before (λ use_day. use_day) new x xs gt) refl
]

rises-at : (days : List ℕ) → IsInOrder (λ day. day) days → (k : ℕ) → suc k < length days → slice_index days k < slice_index days (suc k)
rises-at [] order k within = absurd (omega arith)
rises-at (x ∷ []) order k within = absurd (omega arith)
rises-at (x ∷ y ∷ ys) order zero within = order.0.0
rises-at (x ∷ y ∷ ys) order (suc k) within = rises-at (y ∷ ys) order.1 k (omega arith)

-- what is in order rises
pub rises : (days : List ℕ) → IsInOrder (λ day. day) days → IsStrictlyIncreasing days
rises days order = λ k within. rw add-one (rises-at days order k (omega (arith, within)))

use_turn : (has more same b : Bool) → b ≡ true → ((same || has) || more) ≡ (has || ((b && same) || more))
use_turn true more true true is = refl
use_turn true more false true is = refl
use_turn false more true true is = refl
use_turn false more false true is = refl
use_turn has more same false is = absurd (cc)

skip_turn : (has more same b : Bool) → b ≡ false → (has || more) ≡ (has || ((b && same) || more))
skip_turn has more same false is = refl
skip_turn has more same true is = absurd (cc)

abbrev has_day : ℕ → List ℕ → Bool
has_day day days = list_any (λ use_day. use_day == day) days

-- a trip that makes its day a day of use
pub used : (left_out : Option ℕ) (trip : Trip) (days : List ℕ) (later : List Trip) → (is_other left_out trip.id && is_used trip.status) ≡ true → (day : ℕ)
    → (list_any (λ use_day. use_day == day) (put (λ use_day. use_day) trip.wish.day days) || list_any (is_use_of left_out day) later)
    ≡ (list_any (λ use_day. use_day == day) days || list_any (is_use_of left_out day) (trip ∷ later))
used left_out trip days later is day =
    ap (λ b. b || list_any (is_use_of left_out day) later) (has_put trip.wish.day day days)
    ∙ use_turn (has_day day days) (list_any (is_use_of left_out day) later) (trip.wish.day == day) (is_other left_out trip.id && is_used trip.status) is

-- and one that does not
pub unused : (left_out : Option ℕ) (trip : Trip) (days : List ℕ) (later : List Trip) → (is_other left_out trip.id && is_used trip.status) ≡ false → (day : ℕ)
    → (list_any (λ use_day. use_day == day) days || list_any (is_use_of left_out day) later)
    ≡ (list_any (λ use_day. use_day == day) days || list_any (is_use_of left_out day) (trip ∷ later))
unused left_out trip days later is day =
    skip_turn (has_day day days) (list_any (is_use_of left_out day) later) (trip.wish.day == day) (is_other left_out trip.id && is_used trip.status) is

or_none : (b : Bool) → b ≡ (b || false)
or_none true = refl
or_none false = refl

-- after the last trip
pub ended : (left_out : Option ℕ) (trips : List Trip) (days : List ℕ) (rest : List Trip) → rest ≡ []
    → ((day : ℕ) → (list_any (λ use_day. use_day == day) days || list_any (is_use_of left_out day) rest) ≡ list_any (is_use_of left_out day) trips)
    → (day : ℕ) → list_any (λ use_day. use_day == day) days ≡ list_any (is_use_of left_out day) trips
ended left_out trips days rest none turn day =
    or_none (has_day day days) ∙ ap (λ (ts : List Trip). has_day day days || list_any (is_use_of left_out day) ts) (sym none) ∙ turn day
