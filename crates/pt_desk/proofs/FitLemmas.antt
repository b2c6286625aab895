-- A store is given no change that it does not take.
use Rattle.std.proofs.Common.{◌≡◌, ◌≤◌, ◌∙◌, ℕ, inl, inr, Option, None, Result, Ok, arith, refl, sym, subst}
use Rattle.pt_base_values.specs.Moment.{Moment}
use Rattle.pt_desk_rules.specs.Deciding.{IsDecision, PutsInRangeIf}
use Rattle.pt_desk_rules.specs.Facts.{facts_of}
use Rattle.pt_desk_rules.specs.State.{State}
use Rattle.pt_desk_rules.specs.Step.{sent_with}
use Rattle.pt_desk_rules.specs.declared.deciding.Decision.{Decision}
use Rattle.pt_desk_rules.specs.declared.deciding.Decision.TheVariants.{Denied, Accepted}
use Rattle.pt_desk_requests.specs.declared.caller.Caller.{Caller}
use Rattle.pt_desk_requests.specs.declared.request.Write.{Write}
use Rattle.pt_desk_spelling.specs.Ranges.{IsRequest}
use Rattle.pt_desk_store.specs.Store.{Store, Answers, Fits, Goes}
use Rattle.pt_desk_store.specs.declared.keeper.StoreFault.{StoreFault}
use Rattle.pt_desk_store.proofs.StoreLemmas.{read_tells}
use Rattle.pt_desk.specs.Fitting.{ChangesByRules, IsNewBy}

-- a read gives it none
pub fits_read : {X : Type 0} (a b : Store) (v : X) (r : Result X StoreFault) (Is : State → Type 0) → Goes a b v None r → Fits a b Is
fits_read a b v r Is read clean is = (read.holds clean).fits refl

-- a read before calls that give it none, by what is known of what was read
pub fits_known : {X : Type 0} (a b c : Store) (x v : X) (Is Then : State → Type 0) → Goes a b v None (Ok x) → b.doubt ≤ c.doubt → Fits b c Then
    → (b.doubt ≡ 0 → Is a.content → Then a.content) → Fits a c Is
fits_known a b c x v Is Then first up next gives clean is =
    let was : b.doubt ≡ 0 = omega (arith, up, clean) in
    let read = first.holds was in
    let stood = read_tells a.content b.content v x read.tells in
    next clean (subst Then (sym stood.1) (gives was is)) ∙ read.fits refl

-- a read before calls that give it none
pub fits_then : {X : Type 0} (a b c : Store) (x v : X) (Is Then : State → Type 0) → Goes a b v None (Ok x) → b.doubt ≤ c.doubt → Fits b c Then
    → (x ≡ v → Is a.content → Then a.content) → Fits a c Is
fits_then a b c x v Is Then first up next gives = fits_known a b c x v Is Then first up next (λ was. gives (first.holds was).tells.0)

-- nor do calls whose outcomes commit nothing
pub fits_quiet : {X : Type 0} (a b : Store) (IsOutcome : State → X → Option State → Type 0) (r : Result X StoreFault) (Is : State → Type 0) → Answers a b IsOutcome r
    → ((told : X) (left : Option State) → IsOutcome a.content told left → left ≡ None) → Fits a b Is
fits_quiet a b IsOutcome r Is (told, left, goes, by) none clean is =
    (goes.holds clean).fits (elim (by clean) [ inl outcome ↦ none told left outcome | inr fault ↦ fault.1 ])

-- the change of a decision on a new write in a sound state is by the rules
pub decided_by_rules : (asked : Write) (me : Caller) (now : Moment) (number : ℕ) (s : State) (decided : Decision)
    → IsDecision asked me now (sent_with number asked) (facts_of asked s) decided → PutsInRangeIf decided → IsRequest asked → IsNewBy me number asked s → ChangesByRules decided s
decided_by_rules asked me now number s (Denied first) is puts ranges new = tt
decided_by_rules asked me now number s (Accepted told change) is puts ranges new = record {
  sound = new.0.0;
  key = new.0.1.0;
  now = now;
  number = number;
  asked = asked;
  me = me;
  told = told;
  sends = new.0.1.1;
  arrives = new.1;
  decided = is;
  puts = puts;
  ranges = ranges;
}
