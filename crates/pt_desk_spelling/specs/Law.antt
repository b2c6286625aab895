-- The law of the spelling of requests.
use Rattle.std.specs.Prelude.{◌≡◌}
use Rattle.pt_desk_requests.specs.declared.request.Write.{Write}
use Rattle.pt_desk_spelling.specs.Ranges.{IsRequest}
use Rattle.pt_desk_spelling.specs.Requests.{spelling}

-- no two requests have the same spelling
abbrev pub SpellingTellsRequest : Type 0
SpellingTellsRequest =
    (one other : Write) → IsRequest one → IsRequest other → spelling one ≡ spelling other → one ≡ other
