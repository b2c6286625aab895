-- The decision on a write by its own rules.
use Rattle.std.proofs.Common.{◌≡◌, ◌∙◌, ℕ, Bool, true, false, List, [], ◌∷◌, Option, Some, None, refl, sym, ap, subst}
use Rattle.std.specs.Prelude.{◌&&◌, is_some}
use Rattle.pt_base_values.specs.Moment.{Moment}
use Rattle.pt_base_values.specs.declared.rule.Rule.{Rule}
use Rattle.pt_base_values.specs.declared.trip.Trip.{Trip}
use Rattle.pt_base_values.specs.declared.trip.Wish.{Wish}
use Rattle.pt_desk_requests.specs.declared.caller.Caller.{Caller}
use Rattle.pt_desk_requests.specs.declared.request.Write.{Write}
use Rattle.pt_desk_requests.specs.declared.request.Write.TheVariants as write
use Rattle.pt_rights_files.specs.Rules.{first_failing}
use Rattle.pt_desk_rules.specs.Booking.{IsBooking}
use Rattle.pt_desk_rules.specs.Deciding.{booked, changed, with_kept, IsDecidedBy, IsDecisionAfter}
use Rattle.pt_desk_rules.specs.Deciding.{IsRuling, IsRulingAfter}
use Rattle.pt_desk_rules.specs.Explaining.{next_trip}
use Rattle.pt_desk_rules.specs.Facts.{FactsOf}
use Rattle.pt_desk_rules.specs.Permission.{may_alter}
use Rattle.pt_desk_rules.specs.Rules.{rules_of}
use Rattle.pt_desk_rules.specs.Trips.{has_ends, is_changeable}
use Rattle.pt_desk_rules.specs.declared.deciding.Decision.{Decision}
use Rattle.pt_desk_rules.specs.declared.deciding.Decision.TheVariants.{Denied}
use Rattle.pt_desk_rules.specs.declared.facts.WishFacts.{WishFacts}
use Rattle.pt_desk_rules.specs.declared.kept.Sent.{Sent}
use Rattle.pt_desk_rules.proofs.BookingLemmas.{of_trip}

-- the first rule that fails
pub denied_by : (first : Option Rule) (asked : Write) (author today : ℕ) (facts : FactsOf asked) (rule : Rule)
    → first ≡ Some rule → IsRulingAfter first asked author today facts (Denied rule)
denied_by first asked author today facts rule is =
    subst (λ f. IsRulingAfter f asked author today facts (Denied rule)) (sym is) refl

-- no rule fails
pub decided_by : (first : Option Rule) (asked : Write) (author today : ℕ) (facts : FactsOf asked) (decided : Decision)
    → first ≡ None → IsDecidedBy asked author today facts decided
    → IsRulingAfter first asked author today facts decided
decided_by first asked author today facts decided none is =
    subst (λ f. IsRulingAfter f asked author today facts decided) (sym none) is

-- the kept request of an accepted write
pub with_its_kept : (first : Option Rule) (asked : Write) (me : Caller) (now : Moment) (sent : Sent)
    (facts : FactsOf asked) (made decided : Decision) → IsRulingAfter first asked me.id now.0 facts made
    → decided ≡ with_kept me.id sent made → IsDecisionAfter first asked me now sent facts decided
with_its_kept (Some first) asked me now sent facts made decided ruled is =
    is ∙ ap (with_kept me.id sent) ruled
with_its_kept None asked me now sent facts made decided ruled is = (made, ruled, is)

-- a rule that holds leaves those behind it
pub behind : (name : Rule) (holds : Bool) (rest : List (Rule × Bool)) (found : Option Rule) → holds ≡ true
    → first_failing rest ≡ found → first_failing ((name, holds) ∷ rest) ≡ found
behind name true rest found is same = same
behind name false rest found is same = absurd (cc)

three_hold : (p q r : Rule) (a b c : Bool) → a ≡ true → b ≡ true → c ≡ true
    → first_failing ((p, a) ∷ (q, b) ∷ (r, c) ∷ []) ≡ None
three_hold p q r a b c is_a is_b is_c = rw (is_a, is_b, is_c) refl

-- a booking that none of its own rules denies
pub booked_by : (rider number : ℕ) (wish : Wish) (me : Caller) (now : Moment) (facts : WishFacts) (made : Decision)
    → first_failing (rules_of (write.Book rider wish) me now facts) ≡ None
    → number ≡ next_trip facts → IsBooking booked number None now.0 wish facts made
    → IsRuling (write.Book rider wish) me now facts made
booked_by rider number wish me now facts made none same is =
    decided_by _ (write.Book rider wish) me.id now.0 facts made none
    (subst (λ (n : ℕ). IsBooking booked n None now.0 wish facts made) same is)

-- none of its own rules denies the change of a trip that exists and may be changed
pub changeable : (trip : ℕ) (old : Trip) (wish : Wish) (me : Caller) (now : Moment) (facts : WishFacts)
    → may_alter facts.booking.trip facts.rider me.role ≡ true → facts.booking.trip ≡ Some old
    → (is_some facts.rider && has_ends wish facts.places) ≡ true → is_changeable now.0 (Some old) ≡ true
    → first_failing (rules_of (write.Change trip wish) me now facts) ≡ None
changeable trip old wish me now facts may is there changes =
    three_hold _ _ _ (may_alter facts.booking.trip facts.rider me.role)
    (is_some facts.booking.trip && is_some facts.rider && has_ends wish facts.places)
    (is_changeable now.0 facts.booking.trip) may (rw is there) (rw is changes)

-- a change that none of its own rules denies
pub changed_by : (trip : ℕ) (old : Trip) (wish : Wish) (me : Caller) (now : Moment) (facts : WishFacts)
    (made : Decision) → first_failing (rules_of (write.Change trip wish) me now facts) ≡ None
    → facts.booking.trip ≡ Some old
    → IsBooking (changed old facts.booking.plan) old.id (Some old.id) now.0 wish facts made
    → IsRuling (write.Change trip wish) me now facts made
changed_by trip old wish me now facts made none is by =
    decided_by _ (write.Change trip wish) me.id now.0 facts made none
    (of_trip facts.booking.trip old now.0 wish facts made is by)
