-- The answer to a dispatcher who asks whether a wish could be booked.
use Rattle.std.specs.Prelude.{◌≡◌, ◌⊎◌, ℕ, List, Option, Some, None}
use Rattle.pt_base_values.specs.Moment.{Moment}
use Rattle.pt_base_values.specs.declared.rule.Rule.{Rule}
use Rattle.pt_base_values.specs.declared.trip.Wish.{Wish}
use Rattle.pt_desk_laws.specs.Laws.{IsFirstOfBooking}
use Rattle.pt_desk_rules.specs.Explaining.{next_trip}
use Rattle.pt_desk_rules.specs.Facts.{wish_facts}
use Rattle.pt_desk_rules.specs.Rules.{explain_rules}
use Rattle.pt_desk_rules.specs.Sound.{IsSound}
use Rattle.pt_desk_rules.specs.State.{State}
use Rattle.pt_desk_rules.specs.Step.{IsOutcome, sender}
use Rattle.pt_desk_rules.specs.declared.facts.WishFacts.{WishFacts}
use Rattle.pt_desk_rules.specs.Caller.{Caller}
use Rattle.pt_desk_rules.specs.Answer.TheVariants as answer
use Rattle.pt_desk_rules.specs.Request.TheVariants as request
use Rattle.pt_desk_rules.specs.FailingRules.{first_failing}

-- this is the first of all rules of a wish to fail: first those before its trip's, then its trip's
abbrev pub IsFirstOfWish : Wish → Caller → Moment → WishFacts → Rule → Type 0
IsFirstOfWish wish me now facts rule =
    (first_failing (explain_rules wish me facts) ≡ Some rule)
    ⊎ ((first_failing (explain_rules wish me facts) ≡ None)
    × IsFirstOfBooking facts (next_trip facts) None now.0 wish rule)

-- if a wish is denied, this rule is the first to fail
abbrev pub ExplanationsAreRight : Type 0
ExplanationsAreRight =
    (key : List ℕ) (now : Moment) (number rider : ℕ) (wish : Wish) (me : Caller) (s : State) (rule : Rule)
    (left : Option State) → IsSound s → sender key s ≡ Some me →
    IsOutcome key now number (request.Explain rider wish) s (answer.Denied rule) left →
    IsFirstOfWish wish me now (wish_facts rider wish None s) rule
