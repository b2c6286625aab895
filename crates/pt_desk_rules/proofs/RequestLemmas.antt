-- The facts determine the request of a wish: one list has a visitor's days of use.
use Rattle.std.proofs.Common.{◌≡◌, ◌∙◌, ◌⊎◌, ◌<◌, ◌+◌, ◌||◌, ℕ, zero, suc, Bool, true, false, List, [], ◌∷◌, Option}
use Rattle.std.proofs.Common.{inl, inr, arith, refl, sym, ap, subst}
use Rattle.std.specs.Prelude.{◌==◌, slice_index}
use Rattle.std.specs.List.{list_any}
use Rattle.std.specs.List.Sorted.{IsStrictlyIncreasing}
use Rattle.std.proofs.lemmas.Bool.Decides.{eqb_tells, nat_tests}
use Rattle.std.proofs.lemmas.Option.{same_Some}
use Rattle.pt_base_values.specs.declared.trip.Trip.{Trip}
use Rattle.pt_base_values.specs.declared.trip.Wish.{Wish}
use Rattle.pt_desk_booking.specs.Request.{Request}
use Rattle.pt_desk_scheduling.specs.Uses.{AreUses}
use Rattle.pt_desk_rules.specs.Booking.{IsRequestBy}
use Rattle.pt_desk_rules.specs.declared.facts.WishFacts.{WishFacts}

-- two rising lists with the same members are the same
abbrev has : ℕ → List ℕ → Bool
has d xs = list_any (λ u. u == d) xs

has_first : (x : ℕ) (xs : List ℕ) → has x (x ∷ xs) ≡ true
has_first x xs = let itself : (x == x) ≡ true = grind (arith, nat_tests) in ap (λ b. b || has x xs) itself

has_either : (d x : ℕ) (xs : List ℕ) → has d (x ∷ xs) ≡ true → (x ≡ d) ⊎ (has d xs ≡ true)
has_either d x xs is = elim (eqb_tells x d) [
  | inl (tells, same) ↦ inl same
  | inr (tells, other) ↦ inr (sym (ap (λ b. b || has d xs) tells) ∙ is)
]

tail_rises : (x : ℕ) (xs : List ℕ) → IsStrictlyIncreasing (x ∷ xs) → IsStrictlyIncreasing xs
tail_rises x xs rises k within =
    let next : suc k + 1 ≡ suc (k + 1) = omega arith in
    subst (λ i. slice_index xs k < slice_index (x ∷ xs) i) next (rises (suc k) (omega arith))

above_first : (x d : ℕ) (xs : List ℕ) → IsStrictlyIncreasing (x ∷ xs) → has d xs ≡ true → x < d
above_first x d [] rises is = absurd (cc)
above_first x d (y ∷ ys) rises is =
    let below : x < y = rises zero (omega arith) in
    elim (has_either d y ys is) [
      | inl same ↦ omega arith
      | inr later ↦ (let above = above_first y d ys (tail_rises x (y ∷ ys) rises) later in omega arith)
    ]

not_above : (x : ℕ) (xs : List ℕ) (b : Bool) → has x xs ≡ b → IsStrictlyIncreasing (x ∷ xs) → b ≡ false
not_above x xs true is rises = absurd (let above = above_first x x xs rises is in omega arith)
not_above x xs false is rises = refl

first_same : (x y : ℕ) (xs ys : List ℕ) → IsStrictlyIncreasing (x ∷ xs) → IsStrictlyIncreasing (y ∷ ys)
    → has x (y ∷ ys) ≡ true → has y (x ∷ xs) ≡ true → x ≡ y
first_same x y xs ys rises also one two = elim (has_either x y ys one) [
  | inl same ↦ sym same
  | inr later ↦ elim (has_either y x xs two) [
    | inl same ↦ same
    | inr after ↦ (let a = above_first x y xs rises after in let b = above_first y x ys also later in omega arith)
  ]
]

tails_same : (x d : ℕ) (xs ys : List ℕ) → IsStrictlyIncreasing (x ∷ xs) → IsStrictlyIncreasing (x ∷ ys)
    → has d (x ∷ xs) ≡ has d (x ∷ ys) → has d xs ≡ has d ys
tails_same x d xs ys rises also same = elim (eqb_tells x d) [
  | inl (tells, is) ↦
      subst (λ n. has n xs ≡ has n ys) is
      (not_above x xs (has x xs) refl rises ∙ sym (not_above x ys (has x ys) refl also))
  | inr (tells, other) ↦ sym (ap (λ b. b || has d xs) tells) ∙ same ∙ ap (λ b. b || has d ys) tells
]

rising_one : (xs ys : List ℕ) → IsStrictlyIncreasing xs → IsStrictlyIncreasing ys
    → ((d : ℕ) → has d xs ≡ has d ys) → xs ≡ ys
rising_one [] [] rises also same = refl
rising_one [] (y ∷ ys) rises also same = absurd (let first = same y ∙ has_first y ys in cc)
rising_one (x ∷ xs) [] rises also same = absurd (let first = sym (same x) ∙ has_first x xs in cc)
rising_one (x ∷ xs) (y ∷ ys) rises also same =
    let first = first_same x y xs ys rises also (sym (same x) ∙ has_first x xs) (same y ∙ has_first y ys) in
    let rest = subst (λ n. IsStrictlyIncreasing (n ∷ ys)) (sym first) also in
    let members = λ (d : ℕ). tails_same x d xs ys rises rest (same d ∙ ap (λ n. has d (n ∷ ys)) (sym first)) in
    let tails = rising_one xs ys (tail_rises x xs rises) (tail_rises y ys also) members in
    ap (λ n. n ∷ xs) first ∙ ap (λ l. y ∷ l) tails

pub uses_one : (left_out : Option ℕ) (trips : List Trip) (a b : List ℕ) → AreUses left_out trips a
    → AreUses left_out trips b → a ≡ b
uses_one left_out trips a b one two =
    rising_one a b one.rising two.rising (λ d. one.members d ∙ sym (two.members d))

-- the facts determine the request of a wish
pub request_one : (facts : WishFacts) (number : ℕ) (left_out : Option ℕ) (today : ℕ) (wish : Wish) (a b : Request)
    → IsRequestBy facts number left_out today wish a → IsRequestBy facts number left_out today wish b → a ≡ b
request_one facts number left_out today wish a b one two =
    let trip = one.trip ∙ sym two.trip in
    let rider = same_Some a.rider b.rider (sym one.rider ∙ two.rider) in
    let file = one.file ∙ sym two.file in
    let uses = uses_one left_out facts.booking.trips a.uses b.uses one.uses two.uses in
    let policy = one.policy ∙ sym two.policy in
    let routes = one.routes ∙ sym two.routes in
    let from = same_Some a.from b.from (sym one.from ∙ two.from) in
    let to = same_Some a.to b.to (sym one.to ∙ two.to) in
    let today = one.day ∙ sym two.day in
    let wish = one.wished ∙ sym two.wished in
    λ i. record {
      trip = trip i;
      rider = rider i;
      file = file i;
      uses = uses i;
      policy = policy i;
      routes = routes i;
      from = from i;
      to = to i;
      today = today i;
      wish = wish i;
    }
