-- Requests that change nothing.
use Rattle.std.proofs.Common.{◌≡◌, ℕ, false, List, Option, Some, None, Result, Ok, IfOk, ap, sym}
use Rattle.pt_base_values.specs.declared.trip.Wish.{Wish}
use Rattle.pt_base_values.specs.Moment.{Moment}
use Rattle.pt_desk_rules.specs.State.{State}
use Rattle.pt_desk_rules.specs.Step.{sender, IsOutcome, IsOutcomeBy}
use Rattle.pt_desk_requests.specs.declared.caller.Caller.{Caller}
use Rattle.pt_desk_requests.specs.declared.request.Answer.{Answer}
use Rattle.pt_desk_requests.specs.declared.request.Answer.TheVariants.{Denied}
use Rattle.pt_desk_requests.specs.declared.request.Request.{Request}
use Rattle.pt_desk_requests.specs.declared.request.Request.TheVariants as request
use Rattle.pt_desk_laws.proofs.OutcomeLemmas.{is_of_write, commits_nothing, read_commits_nothing}
use Rattle.pt_desk.specs.Run.{IsDenial, IsRead}
use Rattle.pt_desk_store.specs.Store.{Store, Answers, ChangesNothing}
use Rattle.pt_desk_store.specs.declared.keeper.StoreFault.{StoreFault}
use Rattle.pt_desk.proofs.AnswerLemmas.{changes_nothing}

abbrev Reply : Type 0
Reply = Result Answer StoreFault

is_denied : (reply : Reply) (told : Answer) → IsDenial reply → IfOk reply (λ answer. answer ≡ told) → is_of_write told ≡ false
is_denied (Ok (Denied rule)) told denial agrees = ap is_of_write (sym agrees)
is_denied _ told denial agrees = absurd denial

-- a denial
pub denied : (a b : Store) (key : List ℕ) (now : Moment) (number : ℕ) (asked : Request) (reply : Reply) → Answers a b (IsOutcome key now number asked) reply → IsDenial reply → ChangesNothing a b reply
denied a b key now number asked reply answers denial =
    changes_nothing a b (IsOutcome key now number asked) reply answers
    (λ told left agrees is. commits_nothing (sender key a.content) now number asked a.content told left is (is_denied reply told denial agrees))

-- an explanation
explain_commits_nothing : (caller : Option Caller) (now : Moment) (number rider : ℕ) (wish : Wish) (s : State)
    (told : Answer) (left : Option State) → IsOutcomeBy caller now number (request.Explain rider wish) s told left
    → left ≡ None
explain_commits_nothing None now number rider wish s told left (tells, leaves) = leaves
explain_commits_nothing (Some me) now number rider wish s told left (tells, leaves) = leaves

-- a read
pub read : (a b : Store) (key : List ℕ) (now : Moment) (number : ℕ) (asked : Request) (reply : Reply) → Answers a b (IsOutcome key now number asked) reply → IsRead asked → ChangesNothing a b reply
read a b key now number (request.Read asked) reply answers is_read =
    changes_nothing a b (IsOutcome key now number (request.Read asked)) reply answers
    (λ told left agrees is. read_commits_nothing (sender key a.content) now number asked a.content told left is)
read a b key now number (request.Explain rider wish) reply answers is_read =
    changes_nothing a b (IsOutcome key now number (request.Explain rider wish)) reply answers
    (λ told left agrees is. explain_commits_nothing (sender key a.content) now number rider wish a.content told left is)
read a b key now number (request.Write asked) reply answers is_read = absurd is_read
