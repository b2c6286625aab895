-- The moment at the front of an input.
use Rattle.std.proofs.Common.{◌≡◌, ◌≢◌, ℕ, ◌<◌, ◌≤◌, ◌+◌, List, [], ◌∷◌, ◌++◌, length, sym, ap, ◌∙◌, refl, arith}
use Rattle.std.proofs.Common.{length-append, Bool, true, false, Option, Some, None, Result, Ok, inl, inr, ◌⊎◌}
use Rattle.pt_base_values.specs.Moment.{Moment}
use Rattle.pt_http_inbox.specs.declared.inbox.Inbox.{Inbox}
use Rattle.pt_http_rehearsal.specs.Moment.{BeginsWithMoment}
use Rattle.pt_http_exchange.specs.Input.{HasInput}
use Rattle.pt_http_rehearsal.specs.Moments.{IsNext}

-- the test says which of the two holds
pub one_of_two : {E P Q : Type 0} (came : Bool) (result : Result Bool E) → result ≡ Ok came → (result ≡ Ok true → P)
    → (result ≡ Ok false → Q) → P ⊎ Q
one_of_two true result is enough ended = inl (enough is)
one_of_two false result is enough ended = inr (ended is)

-- the input has a moment, or none
pub next_some : {R : Type 0} (remaining : R → Option (List ℕ)) (inbox : Inbox R) (input : List ℕ)
    (found : Option Moment) (now : Moment) → found ≡ Some now → IsNext remaining inbox input found
    → (rest : List ℕ) × HasInput remaining inbox rest × BeginsWithMoment input now.0 now.1 rest
next_some remaining inbox input found now is next = rw is at next

pub next_none : {R : Type 0} (remaining : R → Option (List ℕ)) (inbox : Inbox R) (input : List ℕ)
    (found : Option Moment) → found ≡ None → IsNext remaining inbox input found → input ≡ []
next_none remaining inbox input found is next = rw is at next

none_in : (bytes : List ℕ) → length bytes < 1 → bytes ≡ []
none_in [] few = refl
none_in (byte ∷ bytes) few = absurd (omega arith)

-- an input with nothing held or left is empty
pub nothing_left : (input bytes left : List ℕ) → input ≡ bytes ++ left → length bytes < 1 → left ≡ [] → input ≡ []
nothing_left input bytes left is few ended = is ∙ ap (λ b. b ++ left) (none_in bytes few) ∙ ended

-- an input with a held byte is not empty
pub not_empty : (input bytes left : List ℕ) → input ≡ bytes ++ left → 1 ≤ length bytes → input ≢ []
not_empty input bytes left is some none =
    let long : length input ≡ length bytes + length left = ap length is ∙ length-append bytes left in
    let short : length input ≡ 0 = ap length none in
    omega arith
