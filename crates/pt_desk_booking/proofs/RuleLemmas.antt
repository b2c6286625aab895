-- The first failing rule of a list: there is one answer, and tests of each rule find it.
use Rattle.std.proofs.Common.{◌≡◌, Bool, true, false, List, [], ◌∷◌, ◌++◌, ◌↔◌, Option, Some, None, IsTrue, inl, inr, refl, ap, sym, ◌∙◌}
use Rattle.std.proofs.lemmas.Bool.{false≢true}
use Rattle.pt_base_values.specs.declared.rule.Rule.{Rule}
use Rattle.pt_rights_files.specs.Rules.{first_failing}
use Rattle.pt_desk_booking.specs.Rules.{IsFirstFailing}

-- a rule that fails is the first
pub first-here : (rule : Rule) (P : Type 0) (rules : List (Rule × Type 0)) → ¬ P → IsFirstFailing ((rule, P) ∷ rules) (Some rule)
first-here rule P rules fails = inl (fails, refl)

-- after a rule that holds the first is that of the rest
pub first-later : (rule : Rule) (P : Type 0) (rules : List (Rule × Type 0)) (found : Option Rule) → P → IsFirstFailing rules found →
    IsFirstFailing ((rule, P) ∷ rules) found
first-later rule P rules found holds later = inr (holds, later)

-- a list of rules has one first that fails
pub first-unique : (rules : List (Rule × Type 0)) (one other : Option Rule) → IsFirstFailing rules one → IsFirstFailing rules other → one ≡ other
first-unique [] one other first second = first ∙ sym second
first-unique (rule ∷ rules) one other first second = elim first [
  | inl here ↦ elim second [ inl there ↦ here.1 ∙ sym there.1 | inr past ↦ absurd (here.0 past.0) ]
  | inr later ↦ elim second [ inl there ↦ absurd (there.0 later.0) | inr past ↦ first-unique rules one other later.1 past.1 ]
]

-- one that fails is the first of a longer list
pub first-in-front : (rules more : List (Rule × Type 0)) (rule : Rule) → IsFirstFailing rules (Some rule) → IsFirstFailing (rules ++ more) (Some rule)
first-in-front [] more rule first = cc first
first-in-front (r ∷ rules) more rule first = elim first [
  | inl here ↦ inl here
  | inr later ↦ inr (later.0, first-in-front rules more rule later.1)
]

-- where all hold, the first of a longer list is that of the rest
pub first-behind : (rules more : List (Rule × Type 0)) (found : Option Rule) → IsFirstFailing rules None → IsFirstFailing more found →
    IsFirstFailing (rules ++ more) found
first-behind [] more found none first = first
first-behind (r ∷ rules) more found none first = elim none [
  | inl here ↦ cc (here.1)
  | inr later ↦ inr (later.0, first-behind rules more found later.1 first)
]

-- each rule is decided by the test at its position in the other list
abbrev pub AreTests : List (Rule × Bool) → List (Rule × Type 0) → Type 0
AreTests [] [] = Unit {0}
AreTests [] (rule ∷ rules) = ⊥
AreTests (test ∷ tests) [] = ⊥
AreTests (test ∷ tests) (rule ∷ rules) = (test.0 ≡ rule.0) × (IsTrue test.1 ↔ rule.1) × AreTests tests rules

tested-here : (name : Rule) (holds : Bool) (tests : List (Rule × Bool)) (rule : Rule) (P : Type 0) (rules : List (Rule × Type 0)) →
    name ≡ rule → (IsTrue holds ↔ P) → IsFirstFailing rules (first_failing tests) →
    IsFirstFailing ((rule, P) ∷ rules) (first_failing ((name, holds) ∷ tests))
tested-here name true tests rule P rules same decides later = inr (decides.0 refl, later)
tested-here name false tests rule P rules same decides later = inl (λ p. false≢true (decides.1 p), ap Some same)

-- the first test that fails is that of the first rule that fails
pub first_failing-tests : (tests : List (Rule × Bool)) (rules : List (Rule × Type 0)) → AreTests tests rules →
    IsFirstFailing rules (first_failing tests)
first_failing-tests [] [] both = refl
first_failing-tests [] (rule ∷ rules) both = absurd both
first_failing-tests (test ∷ tests) [] both = absurd both
first_failing-tests (test ∷ tests) (rule ∷ rules) both =
    tested-here test.0 test.1 tests rule.0 rule.1 rules both.0 both.1 (first_failing-tests tests rules both.2)
