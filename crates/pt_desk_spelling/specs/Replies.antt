-- How the reply to an accepted request is spelled in bytes.
use Rattle.std.specs.Prelude.{◌≡◌, ℕ, ◌^◌, ◌<◌, ◌≤◌, List, [], ◌∷◌, Option, None, Some}
use Rattle.pt_base_values.specs.Ranges.{last_minute}
use Rattle.pt_desk_requests.specs.declared.request.Answer.{Answer}
use Rattle.pt_desk_requests.specs.declared.request.Answer.TheVariants as answer
use Rattle.pt_desk_requests.specs.declared.request.Confirmation.{Confirmation}
use Rattle.pt_desk_spelling.specs.Fields.{number_bytes, numbers_bytes}
use Rattle.pt_desk_spelling.specs.declared.replies.KeptReply.{KeptReply}
use Rattle.pt_desk_spelling.specs.declared.replies.KeptReply.TheVariants.{Done, Entered, Booked}

-- the numbers of the reply to a booking
abbrev pub confirmation_numbers : Confirmation → List ℕ
confirmation_numbers told = told.trip ∷ told.vehicle ∷ told.window_from ∷ told.window_to ∷ told.fare ∷ told.due ∷ []

-- a reply: the number of its kind, and its own numbers
abbrev pub reply_spelling : KeptReply → List ℕ
reply_spelling Done = 0 ∷ []
reply_spelling (Entered position) = 1 ∷ number_bytes position
reply_spelling (Booked told) = 2 ∷ numbers_bytes (confirmation_numbers told)

-- the reply that is stored for an answer; None for a denial and for the answer to a read
abbrev pub reply_of : Answer → Option KeptReply
reply_of answer.Done = Some Done
reply_of (answer.Entered position) = Some (Entered position)
reply_of (answer.Booked told) = Some (Booked told)
reply_of _ = None

-- the answer that a stored reply gives again
abbrev pub answer_of : KeptReply → Answer
answer_of Done = answer.Done
answer_of (Entered position) = answer.Entered position
answer_of (Booked told) = answer.Booked told

-- the number of a record, in 32 bits
abbrev pub IsId : ℕ → Type 0
IsId id = (1 ≤ id) × (id < 2 ^ 32)

-- The trip and the vehicle have record numbers, and the window lies within a day. `Confirmation` itself has the ranges
-- of the fares.
abbrev pub IsTold : Confirmation → Type 0
IsTold told = IsId told.trip × IsId told.vehicle × (told.window_from ≤ last_minute) × (told.window_to ≤ last_minute)

-- the numbers of a reply are in their ranges
abbrev pub IsReply : KeptReply → Type 0
IsReply Done = Unit {0}
IsReply (Entered position) = position < 2 ^ 32
IsReply (Booked told) = IsTold told

-- the bytes spell this reply
abbrev pub SpellsReply : List ℕ → KeptReply → Type 0
SpellsReply bytes reply = IsReply reply × (bytes ≡ reply_spelling reply)
