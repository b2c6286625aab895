-- Which requests commit nothing.
use Rattle.std.proofs.Common.{◌≡◌, ◌∙◌, ℕ, ◌+◌, Bool, true, false, Option, Some, None, refl, sym, ap, subst}
use Rattle.pt_desk_rules.specs.Rule.{Rule}
use Rattle.pt_desk_rules.specs.Trip.{Trip}
use Rattle.pt_desk_rules.specs.Wish.{Wish}
use Rattle.pt_desk_rules.specs.Moment.{Moment}
use Rattle.pt_desk_rules.specs.FailingRules.{first_failing}
use Rattle.pt_desk_scheduling.specs.Plan.{Plan}
use Rattle.pt_desk_scheduling.specs.declared.scheduling.Scheduled.TheVariants as scheduled
use Rattle.pt_desk_rules.specs.Booking.{IsBooking}
use Rattle.pt_desk_rules.specs.Outcome.{Outcome}
use Rattle.pt_desk_rules.specs.Deciding.{booked, changed, with_kept, IsCancelDecided, IsChangeDecided, IsEndDecided, IsDecidedBy, IsDecisionAfter}
use Rattle.pt_desk_rules.specs.Facts.{facts_of, FactsOf}
use Rattle.pt_desk_rules.specs.Rules.{rules_of}
use Rattle.pt_desk_rules.specs.State.{State}
use Rattle.pt_desk_rules.specs.Step.{arrival_in, sent_with, told_of, left_of, IsOutcomeBy, IsOutcomeAs}
use Rattle.pt_desk_rules.specs.Caller.{Caller}
use Rattle.pt_desk_rules.specs.declared.kept.Arrival.{Arrival}
use Rattle.pt_desk_rules.specs.declared.kept.Arrival.TheVariants.{New, Repeated, Stale}
use Rattle.pt_desk_rules.specs.declared.kept.Sent.{Sent}
use Rattle.pt_desk_rules.specs.declared.change.Change.{Change}
use Rattle.pt_desk_rules.specs.declared.deciding.Decision.{Decision}
use Rattle.pt_desk_rules.specs.declared.deciding.Decision.TheVariants as decision
use Rattle.pt_desk_rules.specs.declared.facts.CancelFacts.{CancelFacts}
use Rattle.pt_desk_rules.specs.declared.facts.WishFacts.{WishFacts}
use Rattle.pt_desk_rules.specs.Answer.{Answer}
use Rattle.pt_desk_rules.specs.Answer.TheVariants.{Done, Entered, Booked}
use Rattle.pt_desk_rules.specs.Read.{Read}
use Rattle.pt_desk_rules.specs.Request.{Request}
use Rattle.pt_desk_rules.specs.Request.TheVariants as request
use Rattle.pt_desk_rules.specs.Write.{Write}
use Rattle.pt_desk_rules.specs.Write.TheVariants as write

-- the answers to accepted writes
abbrev pub is_of_write : Answer → Bool
is_of_write Done = true
is_of_write (Entered position) = true
is_of_write (Booked told) = true
is_of_write _ = false

-- an accepted decision has the answer of a write
abbrev pub IsOfWrite : Decision → Type 0
IsOfWrite (decision.Denied first) = Unit {0}
IsOfWrite (decision.Accepted told change) = is_of_write told ≡ true

booking_is : (change : Trip → Plan → Change) (number : ℕ) (left_out : Option ℕ) (today : ℕ) (wish : Wish) (facts : WishFacts) (decided : Decision)
    → IsBooking change number left_out today wish facts decided → IsOfWrite decided
booking_is change number left_out today wish facts decided (scheduled.Denied rule, by, is) = subst IsOfWrite (sym is) tt
booking_is change number left_out today wish facts decided (scheduled.Booked trip plan, by, (told, confirms, is)) = subst IsOfWrite (sym is) refl

change_is : (found : Option Trip) (wish : Wish) (today : ℕ) (facts : WishFacts) (decided : Decision) → IsChangeDecided found wish today facts decided → IsOfWrite decided
change_is None wish today facts decided changes = absurd changes
change_is (Some old) wish today facts decided changes = booking_is (changed old facts.booking.plan) old.id (Some old.id) today wish facts decided changes

cancel_is : (found : Option Trip) (facts : CancelFacts) (decided : Decision) → IsCancelDecided found facts decided → IsOfWrite decided
cancel_is None facts decided cancels = absurd cancels
cancel_is (Some trip) facts decided is = subst IsOfWrite (sym is) refl

end_is : (found : Option Trip) (outcome : Outcome) (decided : Decision) → IsEndDecided found outcome decided → IsOfWrite decided
end_is None outcome decided ends = absurd ends
end_is (Some trip) outcome decided is = subst IsOfWrite (sym is) refl

decided_is : (asked : Write) (author today : ℕ) (facts : FactsOf asked) (decided : Decision) → IsDecidedBy asked author today facts decided → IsOfWrite decided
decided_is (write.Book rider wish) author today facts decided is = booking_is booked (facts.booking.last_trip + 1) None today wish facts decided is
decided_is (write.Change trip wish) author today facts decided is = change_is facts.booking.trip wish today facts decided is
decided_is (write.Cancel trip) author today facts decided is = cancel_is facts.trip facts decided is
decided_is (write.Outcome trip outcome) author today found decided is = end_is found outcome decided is
decided_is _ author today facts decided is = subst IsOfWrite (sym is) refl

-- the kept request does not change the answer
kept_is : (me : ℕ) (sent : Sent) (made : Decision) → IsOfWrite made → IsOfWrite (with_kept me sent made)
kept_is me sent (decision.Denied first) is = tt
kept_is me sent (decision.Accepted told change) is = is

pub decision_is : (first : Option Rule) (asked : Write) (me : Caller) (now : Moment) (sent : Sent) (facts : FactsOf asked) (decided : Decision)
    → IsDecisionAfter first asked me now sent facts decided → IsOfWrite decided
decision_is (Some first) asked me now sent facts decided is = subst IsOfWrite (sym is) tt
decision_is None asked me now sent facts decided (made, is, keeps) =
    subst IsOfWrite (sym keeps) (kept_is me.id sent made (decided_is asked me.id now.0 facts made is))

denial_changes_nothing : (decided : Decision) (s : State) → IsOfWrite decided → is_of_write (told_of decided) ≡ false → left_of decided s ≡ None
denial_changes_nothing (decision.Denied first) s is other = refl
denial_changes_nothing (decision.Accepted told change) s is other = absurd (cc)

write_commits_nothing : (arrival : Arrival) (asked : Write) (me : Caller) (now : Moment) (number : ℕ) (s : State) (told : Answer) (left : Option State)
    → IsOutcomeAs arrival asked me now number s told left → is_of_write told ≡ false → left ≡ None
write_commits_nothing (Repeated reply) asked me now number s told left (tells, leaves) other = leaves
write_commits_nothing Stale asked me now number s told left (tells, leaves) other = leaves
write_commits_nothing New asked me now number s told left (decided, is, made, tells, leaves) other =
    let facts = facts_of asked s in
    leaves
    ∙ denial_changes_nothing decided s (decision_is (first_failing (rules_of asked me now facts)) asked me now (sent_with number asked) facts decided is) (ap is_of_write (sym tells) ∙ other)

-- a request whose answer is not that of an accepted write commits nothing
pub commits_nothing : (caller : Option Caller) (now : Moment) (number : ℕ) (asked : Request) (s : State) (told : Answer) (left : Option State)
    → IsOutcomeBy caller now number asked s told left → is_of_write told ≡ false → left ≡ None
commits_nothing None now number asked s told left (tells, leaves) other = leaves
commits_nothing (Some me) now number (request.Read read) s told left (tells, leaves) other = leaves
commits_nothing (Some me) now number (request.Explain rider wish) s told left (tells, leaves) other = leaves
commits_nothing (Some me) now number (request.Write asked) s told left outcome other =
    write_commits_nothing (arrival_in s asked me number) asked me now number s told left outcome other

-- a read commits nothing
pub read_commits_nothing : (caller : Option Caller) (now : Moment) (number : ℕ) (asked : Read) (s : State) (told : Answer) (left : Option State)
    → IsOutcomeBy caller now number (request.Read asked) s told left → left ≡ None
read_commits_nothing None now number asked s told left (tells, leaves) = leaves
read_commits_nothing (Some me) now number asked s told left (tells, leaves) = leaves
