-- How the request of a connection is answered.
use Rattle.std.specs.Prelude.{◌≡◌, ℕ, List, [], ◌∷◌, ◌++◌, Option, Some, None, Result, MatchResult, option_map, ⊤}
use Rattle.pt_base_values.specs.declared.fault.Fault.{Fault}
use Rattle.pt_base_values.specs.Moment.{Moment}
use Rattle.pt_desk_store.specs.Store.{Store}
use Rattle.pt_http_exchange.specs.Answering.{AnswersOne}
use Rattle.pt_http_exchange.specs.Exchange.{Exchanges, KeepsFound, desk_of}
use Rattle.pt_http_reply.specs.declared.response.Response.{Response}

-- a desk over a store answers the front of these bytes so at this moment; the store before and after
abbrev pub IsAnsweredFrom : Store → Store → Moment → List ℕ → Response → Type 0
IsAnsweredFrom old new now input reply =
    (rest : List ℕ) × Exchanges now input (desk_of old) (desk_of new) reply rest × KeepsFound reply old new

-- the answer to the one request that a reader gives from its beginning; its bytes are these, if they are known
abbrev pub AnswersFrom : {T : Type 0} → Option (List ℕ) → Store → Store → Moment → Option (List ℕ) → Option (List ℕ)
    → Type 0 → Result T Fault
    → Type 0
AnswersFrom given old new now out_old out_new Same result =
    AnswersOne (λ input. given ≡ Some input) (IsAnsweredFrom old new now) old new now out_old out_new Same result

-- no bytes yet, known if this is known
abbrev pub nothing_of : Option (List ℕ) → Option (List ℕ)
nothing_of sent = option_map (λ _. []) sent

-- What is known of a new connection: what its client sends, and that nothing is written to it yet. If it is known, the
-- connection is accepted.
abbrev pub IsComing : {S E : Type 0} → (S → Option (List ℕ)) → (S → Option (List ℕ)) → (Option (List ℕ) → Type 0)
    → Option (List ℕ) → Result S E
    → Type 0
IsComing sends got Fails sent connection =
    MatchResult connection (λ stream. (sends stream ≡ sent) × (got stream ≡ nothing_of sent))
    (λ _. (sent ≡ None) × Fails sent)

-- the next connection is the first of those to come
abbrev pub IsNext : {S E : Type 0} → (S → Option (List ℕ)) → (S → Option (List ℕ)) → (Option (List ℕ) → Type 0)
    → List (Option (List ℕ)) → List (Option (List ℕ)) → Result S E
    → Type 0
IsNext sends got Fails old new connection =
    (sent : Option (List ℕ)) × (old ≡ sent ∷ new) × IsComing sends got Fails sent connection

-- what clients have got, followed by what this one has got, if that is known
abbrev pub Adds : Option (List (List ℕ)) → Option (List ℕ) → Option (List (List ℕ)) → Type 0
Adds (Some before) got (Some after) = (text : List ℕ) × (got ≡ Some text) × (after ≡ before ++ text ∷ [])
Adds _ _ _ = ⊤
