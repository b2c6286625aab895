-- The answers about one rider depend only on the caller and on the rider's own record, file and trips.
use Rattle.std.proofs.Common.{◌≡◌, ℕ, List, Option, Some, None, refl, sym, ◌∙◌, subst}
use Rattle.pt_desk_rules.specs.Rule.{Rule}
use Rattle.pt_desk_rules.specs.Moment.{Moment}
use Rattle.pt_desk_rules.specs.FailingRules.{first_failing}
use Rattle.pt_desk_rules.specs.Deciding.{IsTold, IsToldAfter}
use Rattle.pt_desk_rules.specs.Facts.{read_facts_of}
use Rattle.pt_desk_rules.specs.Letters.{letter_at}
use Rattle.pt_desk_laws.specs.Privacy.{AgreeOnFile, AgreeOnStanding, AgreeOnTrips, AnswersAlike}
use Rattle.pt_desk_laws.specs.Privacy.{LettersArePrivate, StandingsArePrivate, TripsArePrivate}
use Rattle.pt_desk_laws.proofs.ReadLemmas.{letter_one, standing_one}
use Rattle.pt_desk_rules.specs.Rules.{read_rules}
use Rattle.pt_desk_rules.specs.State.{State}
use Rattle.pt_desk_rules.specs.Step.{sender, IsOutcomeBy}
use Rattle.pt_desk_rules.specs.Caller.{Caller}
use Rattle.pt_desk_rules.specs.declared.facts.ReadFacts.{ReadFacts}
use Rattle.pt_desk_rules.specs.Answer.{Answer}
use Rattle.pt_desk_rules.specs.Read.{Read}
use Rattle.pt_desk_rules.specs.Read.TheVariants as read
use Rattle.pt_desk_rules.specs.Request.TheVariants as request

-- the question has one answer by these facts
abbrev HasOneAnswer : Read → ReadFacts → Type 0
HasOneAnswer asked facts = (first : Option Rule) (today : ℕ) (told also : Answer) →
    IsToldAfter first asked today facts told → IsToldAfter first asked today facts also → told ≡ also

by_caller : (found : Option Caller) (asked : Read) (now : Moment) (number : ℕ) (s other : State) (told also : Answer)
    (left and_left : Option State) → HasOneAnswer asked (read_facts_of asked s) → read_facts_of asked other ≡ read_facts_of asked s
    → IsOutcomeBy found now number (request.Read asked) s told left → IsOutcomeBy found now number (request.Read asked) other also and_left → told ≡ also
by_caller None asked now number s other told also left and_left has_one same one two = one.0 ∙ sym two.0
by_caller (Some me) asked now number s other told also left and_left has_one same one two =
    let facts = read_facts_of asked s in
    has_one (first_failing (read_rules asked me facts)) now.0 told also one.0
    (subst (λ f. IsTold asked me now f also) same two.0)

alike : (key : List ℕ) (asked : Read) (s other : State) → sender key s ≡ sender key other → HasOneAnswer asked (read_facts_of asked s)
    → read_facts_of asked other ≡ read_facts_of asked s → AnswersAlike key asked s other
alike key asked s other caller has_one same now number told also left and_left one two =
    by_caller (sender key s) asked now number s other told also left and_left has_one same one
    (subst (λ c. IsOutcomeBy c now number (request.Read asked) other also and_left) (sym caller) two)

trips_once : (rider : ℕ) (facts : ReadFacts) → HasOneAnswer (read.Trips rider) facts
trips_once rider facts (Some rule) today told also one two = one ∙ sym two
trips_once rider facts None today told also one two = one ∙ sym two

letters_once : (rider position : ℕ) (facts : ReadFacts) → HasOneAnswer (read.Letter rider position) facts
letters_once rider position facts (Some rule) today told also one two = one ∙ sym two
letters_once rider position facts None today told also one two =
    letter_one (letter_at facts.rider facts.file position) told also one two

standings_once : (rider day : ℕ) (facts : ReadFacts) → HasOneAnswer (read.Standing rider day) facts
standings_once rider day facts (Some rule) today told also one two = one ∙ sym two
standings_once rider day facts None today told also one two =
    standing_one facts.rider facts.file facts.trips today day told also one two

same_trips : (key : List ℕ) (rider : ℕ) (s other : State) → AgreeOnTrips key rider s other
    → read_facts_of (read.Trips rider) other ≡ read_facts_of (read.Trips rider) s
same_trips key rider s other agree = rw (agree.record_of_rider, agree.trips) refl

same_file : (key : List ℕ) (rider position : ℕ) (s other : State) → AgreeOnFile key rider s other
    → read_facts_of (read.Letter rider position) other ≡ read_facts_of (read.Letter rider position) s
same_file key rider position s other agree = rw (agree.record_of_rider, agree.file) refl

same_standing : (key : List ℕ) (rider day : ℕ) (s other : State) → AgreeOnStanding key rider s other
    → read_facts_of (read.Standing rider day) other ≡ read_facts_of (read.Standing rider day) s
same_standing key rider day s other agree = rw (agree.uses, agree.file.record_of_rider, agree.file.file) refl

pub trips_are_private : TripsArePrivate
trips_are_private key rider s other agree =
    alike key (read.Trips rider) s other agree.caller (trips_once rider (read_facts_of (read.Trips rider) s))
    (same_trips key rider s other agree)

pub letters_are_private : LettersArePrivate
letters_are_private key rider position s other agree =
    alike key (read.Letter rider position) s other agree.caller
    (letters_once rider position (read_facts_of (read.Letter rider position) s)) (same_file key rider position s other agree)

pub standings_are_private : StandingsArePrivate
standings_are_private key rider day s other agree =
    alike key (read.Standing rider day) s other agree.file.caller
    (standings_once rider day (read_facts_of (read.Standing rider day) s)) (same_standing key rider day s other agree)
