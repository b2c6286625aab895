-- The line before each message of a rehearsal, which gives the message's moment.
use Rattle.std.specs.Prelude.{◌≡◌, ◌≢◌, ℕ, List, ◌∷◌, ◌++◌, codes, All}
use Rattle.std.specs.Str.Lines.{strip_carriage_return}
use Rattle.pt_base_values.specs.Ranges.{last_minute}
use Rattle.pt_base_values.specs.SpelledDay.{SpellsDay}
use Rattle.pt_base_values.specs.SpelledNumber.{SpellsNumber}

-- the text is `@`, a date and digits, with one space between them and none in the date
pub record AreParts (text date digits : List ℕ) : Type 0 where
  pub spelled : text ≡ codes "@ " ++ date ++ 32 ∷ digits
  pub one_word : All (λ byte. byte ≢ 32) date

-- the text is `@`, a date and a minute of the day in one to four digits, with one space between them
pub record IsMoment (text : List ℕ) (day minute : ℕ) : Type 0 where
  pub date : List ℕ
  pub digits : List ℕ
  pub spelled : text ≡ codes "@ " ++ date ++ 32 ∷ digits
  pub day_of_date : SpellsDay date day
  pub minute_of_digits : SpellsNumber 4 last_minute digits minute

-- the bytes begin with this line and a newline, and the rest follows
pub record BeginsWithLine (bytes line rest : List ℕ) : Type 0 where
  pub begins : bytes ≡ line ++ 10 ∷ rest
  pub one_line : All (λ byte. byte ≢ 10) line

-- the bytes begin with a line with this moment; one carriage return before its newline is ignored
pub record BeginsWithMoment (bytes : List ℕ) (day minute : ℕ) (rest : List ℕ) : Type 0 where
  pub line : List ℕ
  pub first : BeginsWithLine bytes line rest
  pub moment : IsMoment (strip_carriage_return line) day minute
