-- Each test of the list decides its rule.
use Rattle.std.proofs.Common.{◌≡◌, ◌↔◌, Bool, true, false, IsTrue, not, List, [], ◌∷◌, refl, sym, subst, ◌∙◌}
use Rattle.std.proofs.lemmas.Bool.{false≢true}
use Rattle.pt_base_values.specs.declared.rule.Rule.{Rule}
use Rattle.pt_base_values.specs.declared.rule.Rule.TheVariants as rule
use Rattle.pt_party.specs.declared.party.Party.{Party}
use Rattle.pt_party.specs.Party.{MayTravel}
use Rattle.pt_desk_booking.specs.Request.{request_of}
use Rattle.pt_desk_booking.specs.Rules.{riders_rules}
use Rattle.pt_desk_booking.proofs.RuleLemmas.{first_failing-tests, AreTests}
use Rattle.pt_desk_booking.proofs.riders.riders_denial.Goals as goal

-- what is not so is false
not-decides : (answer fact : Bool) → answer ≡ fact → IsTrue (not answer) ↔ (fact ≡ false)
not-decides true fact same = (λ h. absurd (false≢true h), λ h. absurd (false≢true (sym h ∙ sym same)))
not-decides false fact same = (λ h. sym same, λ h. refl)

-- no rule refuses the party exactly where it may travel
none-decides : (answer some : Bool) (P : Type 0) → some ≡ not answer → ((some ≡ false) ↔ P) → IsTrue answer ↔ P
none-decides true some P same decides = (λ h. decides.0 same, λ p. refl)
none-decides false some P same decides = (λ h. absurd (false≢true h), λ p. absurd (false≢true (sym (decides.1 p) ∙ same)))

pub returns : goal.returns
returns c =
    let tests : List (Rule × Bool) =
    c.entitlement.result
    ∷ (rule.Suspension, not c.suspended.result)
    ∷ (rule.Conditions, c.is_covered.result)
    ∷ (rule.Party, c.is_none.result)
    ∷ (rule.BookingDays, c.bookable.result)
    ∷ (rule.Area, c.is_served.result)
    ∷ (rule.Hours, c.is_served_then.result)
    ∷ [] in
    let party : IsTrue c.is_none.result ↔ MayTravel c.args.request.now.rider.now c.party_of-party.result =
    none-decides _ _ _ c.is_none.ensures c.party_rule.ensures.allowed in
    let decide : AreTests tests (riders_rules (request_of c.args.request.now)) = (
      c.entitlement.ensures.rule,
      c.entitlement.ensures.holds,
      (
        refl,
        not-decides _ _ c.suspended.ensures.value,
        (
          refl,
          c.is_covered.ensures,
          (
            refl,
            subst (λ (p : Party). IsTrue c.is_none.result ↔ MayTravel c.args.request.now.rider.now p) c.party_of-party.ensures party,
            (
              refl,
              c.bookable.ensures,
              (
                refl,
                c.is_served.ensures,
                (refl, c.is_served_then.ensures, tt),
              ),
            ),
          ),
        ),
      ),
    ) in
    rw c.first_failing.ensures.value (first_failing-tests tests (riders_rules (request_of c.args.request.now)) decide)
