-- The answer to a request that comes again with nothing between.
use Rattle.std.proofs.Common.{◌≡◌, ◌∙◌, ℕ, List, []}
use Rattle.std.proofs.Common.{inl, inr, Option, Some, None, refl, sym, ap, subst}
use Rattle.std.specs.Option.{option_map}
use Rattle.std.proofs.lemmas.Option.{same_Some}
use Rattle.pt_desk_rules.specs.Rule.TheVariants as rule
use Rattle.pt_desk_rules.specs.Moment.{Moment}
use Rattle.pt_desk_laws.specs.Again.{IsToldAgain}
use Rattle.pt_desk_laws.specs.Again.{ReadsAreTheSameAgain, RequestsAreTheSameAgain}
use Rattle.pt_desk_rules.specs.Sound.{IsSound}
use Rattle.pt_desk_rules.specs.State.{State}
use Rattle.pt_desk_rules.specs.Step.{sender, state_after}
use Rattle.pt_desk_rules.specs.Step.{IsOutcome, IsOutcomeBy}
use Rattle.pt_desk_laws.proofs.KeyLemmas.{key_stays}
use Rattle.pt_desk_laws.proofs.NumberLemmas.{writes_may_be_sent_again}
use Rattle.pt_desk_laws.proofs.SoundLemmas.{request_sound}
use Rattle.pt_desk_rules.specs.Caller.{Caller}
use Rattle.pt_desk_rules.specs.Answer.{Answer}
use Rattle.pt_desk_rules.specs.Answer.TheVariants as answer
use Rattle.pt_desk_rules.specs.Read.{Read}
use Rattle.pt_desk_rules.specs.Request.{Request}
use Rattle.pt_desk_rules.specs.Request.TheVariants as request
use Rattle.pt_desk_rules.specs.Write.{Write}
use Rattle.pt_desk_laws.specs.Numbers.{DenialsAreTheSameAgain}
use Rattle.pt_desk_laws.proofs.OutcomeLemmas.{commits_nothing}
use Rattle.pt_desk_laws.specs.One.{RequestsOutliveCrashes}
use Rattle.pt_desk_laws.proofs.OneLemmas.{outcomes_are_one}
use Rattle.pt_desk_laws.proofs.ReadLemmas.{like, read_one}

-- a read commits nothing
read_leaves : (found : Option Caller) (now : Moment) (number : ℕ) (asked : Read) (s : State) (told : Answer)
    (left : Option State) → IsOutcomeBy found now number (request.Read asked) s told left → left ≡ None
read_leaves None now number asked s told left one = one.1
read_leaves (Some me) now number asked s told left one = one.1

pub reads_are_the_same_again : ReadsAreTheSameAgain
reads_are_the_same_again key now number other asked s told again left after one two =
    let nothing = read_leaves (sender key s) now number asked s told left one in
    let stays : state_after left s ≡ s = ap (λ l. state_after l s) nothing in
    read_one (sender key s) now number other asked s told again left after one
    (subst (λ t. IsOutcome key now other (request.Read asked) t again after) stays two)

-- a denial commits nothing
pub denials_are_the_same_again : DenialsAreTheSameAgain
denials_are_the_same_again key now number asked s rule told left after sound one two =
    let nothing = commits_nothing (sender key s) now number asked s (answer.Denied rule) left one refl in
    let stays : state_after left s ≡ s = ap (λ l. state_after l s) nothing in
    let same = outcomes_are_one key now number asked s (answer.Denied rule) told left after sound one
    (subst (λ t. IsOutcome key now number asked t told after) stays two) in
    (sym same.0, sym same.1 ∙ nothing)

-- a request that was accepted comes again, under a key that is still its caller's
accepted_again : (me : Caller) (holds : Option Caller) (key : List ℕ) (now : Moment) (number : ℕ) (asked : Write)
    (s new : State) (told again : Answer) (after : Option State) → sender key s ≡ Some me → sender key new ≡ holds
    → option_map (λ caller. caller.id) holds ≡ Some me.id
    → IsOutcomeBy (Some me) now number (request.Write asked) s told (Some new)
    → IsOutcome key now number (request.Write asked) new again after → (again ≡ told) × (after ≡ None)
accepted_again me None key now number asked s new told again after by has same one two = absurd (cc)
accepted_again me (Some holder) key now number asked s new told again after by has same one two =
    writes_may_be_sent_again key key now now number asked me holder told again [] s new after
    (record {
      committed = new;
      by = by;
      accepted = subst (λ c. IsOutcomeBy c now number (request.Write asked) s told (Some new)) (sym by) one;
      calls_since = refl;
      none_since = refl;
    }) has (same_Some holder.id me.id same) two

-- it comes again under a key that nobody has any longer
nobody_told : (holds : Option Caller) (now : Moment) (number : ℕ) (asked : Request) (s : State) (again : Answer)
    (after : Option State) → option_map (λ caller. caller.id) holds ≡ None
    → IsOutcomeBy holds now number asked s again after → (again ≡ answer.Denied rule.Key) × (after ≡ None)
nobody_told None now number asked s again after lost two = two
nobody_told (Some holder) now number asked s again after lost two = absurd (cc)

-- a request that committed a state comes again
committed_again : (found : Option Caller) (key : List ℕ) (now : Moment) (number : ℕ) (asked : Request)
    (s new : State) (told again : Answer) (after : Option State) → IsSound s → IsSound new → sender key s ≡ found
    → IsOutcomeBy found now number asked s told (Some new) → IsOutcome key now number asked new again after
    → IsToldAgain key asked s new told again × (after ≡ None)
committed_again None key now number asked s new told again after sound sound_after by one two =
    absurd (let none = one.1 in cc)
committed_again (Some me) key now number (request.Read asked) s new told again after sound sound_after by one two =
    absurd (let none = one.1 in cc)
committed_again (Some me) key now number (request.Explain rider wish) s new told again after sound sound_after by one
    two = absurd (let none = one.1 in cc)
committed_again (Some me) key now number (request.Write asked) s new told again after sound sound_after by one two =
    elim (key_stays key me now number asked s new told sound sound_after by one) [
      | inl stays ↦
          let held = stays ∙ ap (option_map (λ (c : Caller). c.id)) by in
          let same = accepted_again me (sender key new) key now number asked s new told again after by refl held one
          two in
          (inl (like told again (sym same.0)), same.1)
      | inr given ↦
          let denied = nobody_told (sender key new) now number (request.Write asked) new again after given.lost two in
          (inr (given, denied.0), denied.1)
    ]

pub requests_are_the_same_again : RequestsAreTheSameAgain
requests_are_the_same_again key now number asked s told again None after sound one two =
    let same = outcomes_are_one key now number asked s told again None after sound one two in (inl same.0, sym same.1)
requests_are_the_same_again key now number asked s told again (Some new) after sound one two =
    committed_again (sender key s) key now number asked s new told again after sound
    (request_sound key now number asked s told (Some new) sound one) refl one two

-- a crash leaves the state before a request or the state after it, and in both it has the same outcome
pub requests_outlive_crashes : RequestsOutliveCrashes
requests_outlive_crashes key now number asked s found told again left after sound one (inl before) two =
    let same = outcomes_are_one key now number asked s told again left after sound one
    (subst (λ t. IsOutcome key now number asked t again after) before two) in
    (inl same.0, ap (λ l. state_after l found) (sym same.1) ∙ ap (state_after left) before)
requests_outlive_crashes key now number asked s found told again left after sound one (inr made) two =
    let same = requests_are_the_same_again key now number asked s told again left after sound one
    (subst (λ t. IsOutcome key now number asked t again after) made two) in
    (same.0, ap (λ l. state_after l found) same.1 ∙ made)
