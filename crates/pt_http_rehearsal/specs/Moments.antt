-- The moment before the next message of a rehearsal.
use Rattle.std.specs.Prelude.{◌≡◌, ℕ, List, [], Option, Some, None}
use Rattle.pt_base_values.specs.Moment.{Moment}
use Rattle.pt_http_inbox.specs.declared.inbox.Inbox.{Inbox}
use Rattle.pt_http_rehearsal.specs.Moment.{BeginsWithMoment}
use Rattle.pt_http_exchange.specs.Input.{HasInput}

-- the input begins with this moment and the inbox holds what follows it, or the input is at its end
abbrev pub IsNext : {R : Type 0} → (R → Option (List ℕ)) → Inbox R → List ℕ → Option Moment → Type 0
IsNext remaining inbox input None = input ≡ []
IsNext remaining inbox input (Some now) =
    (rest : List ℕ) × HasInput remaining inbox rest × BeginsWithMoment input now.0 now.1 rest
