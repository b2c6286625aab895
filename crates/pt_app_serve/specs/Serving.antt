-- What a desk has served on connections one after another.
use Rattle.std.specs.Prelude.{◌≡◌, ◌⊎◌, ℕ, Bool, not, List, [], ◌∷◌, ◌++◌, ℤ, pos, Option, Some, None, is_some, ⊤}
use Rattle.std.specs.Prelude.{Result, Ok, Err, IfOk, IfErr, IfSome, OnErr}
use Rattle.std.specs.List.{count_by}
use Rattle.pt_base_values.specs.declared.fault.Cause.TheVariants as cause
use Rattle.pt_base_values.specs.Fault.{fault}
use Rattle.pt_base_values.specs.declared.fault.Fault.{Fault}
use Rattle.pt_base_values.specs.Day.{IsOutside}
use Rattle.pt_base_values.specs.Moment.{Moment}
use Rattle.pt_base_clock.specs.LocalTime.{IsLocalTime, IsZoneRule}
use Rattle.pt_desk_store.specs.Store.{Store}
use Rattle.pt_http_exchange.specs.Exchange.{Desk, Exchanges, Serves, desk_of}
use Rattle.pt_http_reply.specs.Response.{IsReplyText}
use Rattle.pt_http_reply.specs.declared.response.Response.{Response}

-- a request that was served: the moment at which it was, and the reply
pub record Served : Type 0 where
  pub now : Moment
  pub reply : Response

-- The state between two connections: the desk, what the clients so far have got, if that is known, and whether the last
-- connection that was left had its whole reply.
pub record Progress : Type 0 where
  pub desk : Desk
  pub replied : Option (List (List ℕ))
  pub ending : Option Bool

abbrev pub progress_of : Store → Option (List (List ℕ)) → Option Bool → Progress
progress_of store replied ending = record { desk = desk_of store; replied = replied; ending = ending }

-- clocks of the zone show this moment at an instant that a clock showed
abbrev pub IsMomentAt : (ℤ → Type 0) → List ℕ → Moment → Type 0
IsMomentAt Shows zone now = (instant : ℤ) × Shows instant × IsLocalTime zone instant (pos now.0) now.1

-- clocks of the zone show a day outside 2000 to 2099 at this instant
abbrev pub IsOutOfRange : List ℕ → ℤ → Type 0
IsOutOfRange zone instant = (day : ℤ) × (minute : ℕ) × IsLocalTime zone instant day minute × IsOutside day

-- Why a clock gives no moment: the zone's text is no rule, or the clock could not be read, or it showed an instant whose
-- day is out of range.
abbrev pub LacksMoment : Type 0 → (ℤ → Type 0) → List ℕ → Fault → Type 0
LacksMoment Unread Shows zone error =
    (error ≡ fault cause.NoSuchZone) ⊎ ((error ≡ fault cause.DateOutOfRange)
    × (Unread ⊎ ((instant : ℤ) × Shows instant × IsOutOfRange zone instant)))

-- the reply is the desk's to the front of the bytes that a client sends; if these are unknown, it is to some message
abbrev pub AnswersSent : Option (List ℕ) → Moment → Desk → Desk → Response → Type 0
AnswersSent (Some input) now old new reply = (rest : List ℕ) × Exchanges now input old new reply rest
AnswersSent None now old new reply = Serves now old new reply

-- at a moment in the zone, of an instant that a clock showed on the connection, the desk serves this
pub record IsServed (Shows : ℤ → Type 0) (zone : List ℕ) (sent : Option (List ℕ)) (one : Served) (old new : Desk)
    : Type 0 where
  pub moment : IsMomentAt Shows zone one.now
  pub answered : AnswersSent sent one.now old new one.reply

-- The end of a connection: its request is answered and the whole reply written; or it is answered, but the reply is not
-- wholly written; or none of its requests is answered.
pub data Turn : Type 0 where
  heard : Served → Turn
  unheard : Served → Turn
  unanswered : Turn

-- how a connection failed, if it did
abbrev pub failure_of : Turn → Option Fault
failure_of (heard one) = None
failure_of (unheard one) = Some (fault cause.WriteFailed)
failure_of unanswered = Some (fault cause.ReadFailed)

-- the reply on the connection was not wholly written
abbrev pub has_failed : Turn → Bool
has_failed turn = is_some (failure_of turn)

abbrev pub failures_in : List Turn → ℕ
failures_in turns = count_by has_failed turns

-- What the desk serves on one connection. Only the connection itself says that it failed. If no request is answered,
-- nothing changes.
abbrev pub DeskServes : (Option (List ℕ) → ℤ → Type 0) → (Option (List ℕ) → Type 0) → List ℕ → Option (List ℕ) → Turn
    → Desk → Desk
    → Type 0
DeskServes Shows Fails zone sent (heard one) old new = IsServed (Shows sent) zone sent one old new
DeskServes Shows Fails zone sent (unheard one) old new = IsServed (Shows sent) zone sent one old new × Fails sent
DeskServes Shows Fails zone sent unanswered old new = (new ≡ old) × Fails sent

-- what the client of a connection got: the whole reply, or nothing if no request is answered
abbrev pub IsGot : Turn → List ℕ → Type 0
IsGot (heard one) text = IsReplyText one.reply text
IsGot (unheard one) text = ⊤
IsGot unanswered text = text ≡ []

-- if it is known what a client sends and what clients have got, this one has got its own, after those before it
abbrev pub Gets : Option (List ℕ) → Turn → Option (List (List ℕ)) → Option (List (List ℕ)) → Type 0
Gets (Some input) turn (Some before) (Some after) = (text : List ℕ) × IsGot turn text × (after ≡ before ++ text ∷ [])
Gets _ _ _ _ = ⊤

-- The connection was left in the way that goes with its turn: its client is seen off if its whole reply was written, and
-- only then. One that was not accepted is not left.
abbrev pub IsLeftAs : Option (List ℕ) → Turn → Option Bool → Option Bool → Type 0
IsLeftAs (Some input) turn before after = after ≡ Some (not (has_failed turn))
IsLeftAs None turn before after = (after ≡ Some (not (has_failed turn))) ⊎ ((turn ≡ unanswered) × (after ≡ before))

-- the turn of one connection whose client sends this
pub record ServesOn (Shows : Option (List ℕ) → ℤ → Type 0) (Fails : Option (List ℕ) → Type 0) (zone : List ℕ)
    (sent : Option (List ℕ)) (turn : Turn) (old new : Progress) : Type 0 where
  pub desk : DeskServes Shows Fails zone sent turn old.desk new.desk
  pub client : Gets sent turn old.replied new.replied
  pub seen_off : IsLeftAs sent turn old.ending new.ending

-- the same, and this is how the connection failed, if it did
abbrev pub ServesATurn : (Option (List ℕ) → ℤ → Type 0) → (Option (List ℕ) → Type 0) → List ℕ → Option (List ℕ)
    → Option Fault → Progress → Progress
    → Type 0
ServesATurn Shows Fails zone sent failed old new =
    (turn : Turn) × (failure_of turn ≡ failed) × ServesOn Shows Fails zone sent turn old new

-- the turns of connections one after another, whose clients send these
abbrev pub ServesInTurn : (Option (List ℕ) → ℤ → Type 0) → (Option (List ℕ) → Type 0) → List ℕ
    → List (Option (List ℕ)) → List Turn → Progress → Progress
    → Type 0
ServesInTurn Shows Fails zone [] [] old new = new ≡ old
ServesInTurn Shows Fails zone (sent ∷ more) (turn ∷ later) old new =
    (mid : Progress) × ServesOn Shows Fails zone sent turn old mid × ServesInTurn Shows Fails zone more later mid new
ServesInTurn _ _ _ _ _ _ _ = ⊥

-- the faults that end the serving: out of memory, a text that is no zone's rule, or a clock that is out of range or
-- cannot be read
abbrev pub EndsServing : Fault → Type 0
EndsServing error = (error ≡ fault cause.Memory) ⊎ (error ≡ fault cause.NoSuchZone) ⊎ (error ≡ fault cause.DateOutOfRange)

-- The result of one connection: how it failed, if it did, or an error that ends the serving. `SameStore` and `SamePort`
-- say that nothing changed there.
pub record EndsConnection {S E : Type 0} (connection : Result S E) (zone : List ℕ) (SameStore SamePort : Type 0)
    (result : Result (Option Fault) Fault) : Type 0 where
  -- one that was not accepted is a failed read
  pub refused : OnErr connection (result ≡ Ok (Some (fault cause.ReadFailed)))
  -- a request that was not read changed nothing
  pub unread : result ≡ Ok (Some (fault cause.ReadFailed)) → SameStore
  pub failed : IfOk result (λ failed. IfSome failed (λ error.
      (error ≡ fault cause.ReadFailed) ⊎ (error ≡ fault cause.WriteFailed)))
  -- an error ends the serving, and changed nothing
  pub error : IfErr result EndsServing
  pub ended : OnErr result (SameStore × SamePort)
  pub no_rule : result ≡ Err (fault cause.NoSuchZone) → ¬ (IsZoneRule zone)
