-- The letters that riders get (49 CFR 37.125(d), (e), (g), (h)).
use Rattle.std.specs.Prelude.{◌≡◌, ℕ, List, Option, Some, None, slice_get}
use Rattle.std.specs.Option.{option_and_then, option_map}
use Rattle.pt_base_values.specs.declared.rider.Rider.{Rider}
use Rattle.pt_desk_requests.specs.Letters.{decision_of}
use Rattle.pt_desk_requests.specs.declared.letters.Letter.{Letter}
use Rattle.pt_desk_requests.specs.declared.request.Answer.{Answer}
use Rattle.pt_desk_requests.specs.declared.request.Answer.TheVariants as answer
use Rattle.pt_rights_files.specs.declared.entry.Entered.{Entered}

-- the letter of an entry, if its kind has one
abbrev pub letter_of : Rider → Entered → Option Letter
letter_of rider entered =
    option_map (λ decision. record { rider = rider; day = entered.day; decision = decision })
    (decision_of entered.entry)

-- the letter of the entry at this position of a rider's case file; None without rider, entry or letter
abbrev pub letter_at : Option Rider → List Entered → ℕ → Option Letter
letter_at None file position = None
letter_at (Some rider) file position = option_and_then (letter_of rider) (slice_get file position)

-- the answer is the letter; it must exist
abbrev pub IsToldLetter : Option Letter → Answer → Type 0
IsToldLetter None told = ⊥
IsToldLetter (Some letter) told = told ≡ answer.Letter letter
