-- How the desk answers the message at the front of some bytes.
use Rattle.std.specs.Prelude.{◌≡◌, ◌⊎◌, ℕ, Bool, true, false, List, Option, Some, None, Result, Ok, Err, option_map}
use Rattle.pt_base_values.specs.Fault.{fault}
use Rattle.pt_base_values.specs.declared.fault.Fault.{Fault}
use Rattle.pt_base_values.specs.declared.fault.Cause.TheVariants as cause
use Rattle.pt_base_values.specs.declared.rule.Rule.TheVariants.{Key}
use Rattle.pt_base_values.specs.Moment.{Moment}
use Rattle.pt_desk_store.specs.Store.{Store, FindsContent, IsLeft, TellsBy, Fails}
use Rattle.pt_desk.specs.State.{State}
use Rattle.pt_desk.specs.Step.{IsOutcome}
use Rattle.pt_desk_store.specs.declared.keeper.StoreFault.{StoreFault}
use Rattle.pt_desk_store.specs.declared.keeper.StoreFault.TheVariants.{Memory}
use Rattle.pt_desk_requests.specs.declared.request.Answer.{Answer}
use Rattle.pt_desk_requests.specs.declared.request.Answer.TheVariants.{Denied}
use Rattle.pt_http_request.specs.declared.fault.RequestFault.TheVariants.{Head, Length}
use Rattle.pt_http_reply.specs.declared.response.Response.{Response}
use Rattle.pt_http_reply.specs.declared.response.Response.TheVariants as response
use Rattle.pt_http_request.specs.declared.message.Message.{Message}
use Rattle.pt_http_inbox.specs.Inbox.{reads_of}
use Rattle.pt_http_inbox.specs.declared.inbox.Inbox.{Inbox}
use Rattle.pt_http_reply.specs.Response.{IsReplyText}
use Rattle.std.specs.Io.KnownBytes.{Appends}
use Rattle.pt_http_exchange.specs.Input.{HasInput}
use Rattle.pt_http_exchange.specs.Message.{BeginsWithMessage, BeginsWithFault}

-- the desk: its content, and whether its store has failed
pub record Desk : Type 0 where
  pub content : State
  pub failures : ℕ

abbrev pub desk_of : Store → Desk
desk_of store = record { content = store.content; failures = store.failures }

-- The rules answer a message with this key. A message without a key is denied and changes nothing, whoever the callers
-- are.
abbrev pub AnswersWith : Option (List ℕ) → Moment → Message → Desk → Desk → Result Answer StoreFault → Type 0
AnswersWith (Some key) now message old new told =
    TellsBy old.content new.content (IsOutcome key now message.number message.request) told
    × Fails old.failures new.failures told
AnswersWith None now message old new told = (told ≡ Ok (Denied Key)) × (new ≡ old)

-- the message gets this answer at this moment
abbrev pub AnswersMessage : Moment → Message → Desk → Desk → Result Answer StoreFault → Type 0
AnswersMessage now message old new told =
    AnswersWith (option_map (λ key. key.items) message.key) now message old new told

-- the rules answer the message at this moment, and what they commit is what an opening finds
pub record IsCommittedBy (now : Moment) (message : Message) (s : State) (o : Option State) : Type 0 where
  pub key : List ℕ
  pub has_key : option_map (λ given. given.items) message.key ≡ Some key
  pub told : Answer
  pub left : Option State
  pub outcome : IsOutcome key now message.number message.request s told left
  pub is_left : IsLeft left o

-- so does the message that begins these bytes
abbrev pub IsCommittedFrom : Moment → List ℕ → State → Option State → Type 0
IsCommittedFrom now bytes s o =
    (message : Message) × (rest : List ℕ) × BeginsWithMessage bytes message rest × IsCommittedBy now message s o

-- The reply to the front of the bytes, and what it leaves: a message is answered, and a fault changes nothing.
abbrev pub Exchanges : Moment → List ℕ → Desk → Desk → Response → List ℕ → Type 0
Exchanges now bytes old new (response.Answered told) rest =
    (message : Message) × BeginsWithMessage bytes message rest × AnswersMessage now message old new told
Exchanges now bytes old new (response.Refused why) rest = BeginsWithFault bytes why rest × (new ≡ old)

-- The reply is the desk's reply to some message at this moment, or a fault, which changes nothing. The message need not
-- be the one that came in.
abbrev pub Serves : Moment → Desk → Desk → Response → Type 0
Serves now old new (response.Answered told) = (message : Message) × AnswersMessage now message old new told
Serves now old new (response.Refused why) = new ≡ old

-- if the reply is out of memory, an opening finds the content, if it would have found it before
abbrev pub KeepsFound : Response → Store → Store → Type 0
KeepsFound (response.Answered (Err Memory)) old new = FindsContent old → FindsContent new
KeepsFound _ old new = Unit {0}

-- the same reply by a desk over a store, before and after
abbrev pub ServesOver : Store → Store → Moment → Response → Type 0
ServesOver old new now reply = Serves now (desk_of old) (desk_of new) reply × KeepsFound reply old new

-- Out of memory, a failed read or too many reads: nothing was answered.
abbrev pub IsUnanswered : Fault → Type 0
IsUnanswered error = (error ≡ fault cause.Memory) ⊎ (error ≡ fault cause.ReadFailed)

-- after a bad head or a bad length, the start of the next message is not known
abbrev pub is_last : Response → Bool
is_last (response.Refused Head) = true
is_last (response.Refused Length) = true
is_last _ = false

-- The front of the input gets this reply from a desk over a store, before and after. The inbox holds what follows it
-- and counts reads anew.
abbrev pub IsExchangedOver : {R : Type 0} → (R → Option (List ℕ)) → Store → Store → Moment → List ℕ → Inbox R
    → Response
    → Type 0
IsExchangedOver remaining old new now input inbox reply =
    (rest : List ℕ) × HasInput remaining inbox rest × Exchanges now input (desk_of old) (desk_of new) reply rest
    × (is_last reply ≡ false → reads_of inbox ≡ 0) × KeepsFound reply old new

-- the bytes of the reply are appended to what was written
abbrev pub IsWritten : Response → Option (List ℕ) → Option (List ℕ) → Type 0
IsWritten reply old new = (text : List ℕ) × IsReplyText reply text × Appends old new text
