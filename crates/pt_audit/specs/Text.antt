-- Logs as texts of ASCII: a line `AUDIT 1`, the lines of the log and a line `DONE`, each ended by a newline (byte 10).
use Rattle.std.specs.Prelude.{◌≡◌, ◌≢◌, ℕ, ◌+◌, ◌-◌, ◌^◌, ◌≤◌, ◌⊎◌, List, [], ◌∷◌, ◌++◌}
use Rattle.std.specs.Prelude.{length, min, All, codes, decimal}
use Rattle.std.specs.List.{flat_map}
use Rattle.pt_audit.specs.declared.line.Line.{Line}
use Rattle.pt_audit.specs.declared.line.Line.TheVariants as line
use Rattle.pt_audit.specs.declared.line.Raise.TheVariants as raise
use Rattle.pt_audit.specs.declared.line.End.TheVariants as end

-- the word that a line begins with
abbrev pub keyword_of : Line → List ℕ
keyword_of line.NoDirect = codes "NODIRECT"
keyword_of (line.Case v i j) = codes "CASE"
keyword_of (line.Raise (raise.Window k n)) = codes "F"
keyword_of (line.Raise (raise.Drive k n)) = codes "A"
keyword_of (line.Raise (raise.Ride k n)) = codes "P"
keyword_of (line.Raise (raise.Duration n)) = codes "T"
keyword_of (line.End (end.Late k)) = codes "W"
keyword_of (line.End (end.Overloaded k)) = codes "L"
keyword_of (line.End (end.NoWay k)) = codes "M"
keyword_of (line.End end.TooLong) = codes "S"

-- the numbers of a line
abbrev pub numbers_of : Line → List ℕ
numbers_of line.NoDirect = []
numbers_of (line.Case v i j) = v ∷ i ∷ j ∷ []
numbers_of (line.Raise (raise.Window k n)) = k ∷ n ∷ []
numbers_of (line.Raise (raise.Drive k n)) = k ∷ n ∷ []
numbers_of (line.Raise (raise.Ride k n)) = k ∷ n ∷ []
numbers_of (line.Raise (raise.Duration n)) = 0 ∷ n ∷ []
numbers_of (line.End (end.Late k)) = k ∷ []
numbers_of (line.End (end.Overloaded k)) = k ∷ []
numbers_of (line.End (end.NoWay k)) = k ∷ []
numbers_of (line.End end.TooLong) = []

-- the number is in the range of a log
abbrev pub IsNumber : ℕ → Type 0
IsNumber number = number ≤ 4_294_967_295

-- each number of the line is in the range of a log
abbrev pub IsInForm : Line → Type 0
IsInForm line = All IsNumber (numbers_of line)

-- a number in decimal digits after a space
abbrev pub number_text : ℕ → List ℕ
number_text number = 32 ∷ decimal number

-- the line without its newline
abbrev pub words_of : Line → List ℕ
words_of line = keyword_of line ++ flat_map number_text (numbers_of line)

-- the line with its newline
abbrev pub line_text : Line → List ℕ
line_text line = words_of line ++ 10 ∷ []

-- the first line of a log, and the last
abbrev pub opening : List ℕ
opening = codes "AUDIT 1\n"

abbrev pub closing : List ℕ
closing = codes "DONE\n"

-- the text is that of a log of these lines
abbrev pub IsLogText : List ℕ → List Line → Type 0
IsLogText text lines = All IsInForm lines × (text ≡ opening ++ flat_map line_text lines ++ closing)

-- rows have numbers up to 2^32 - 1
abbrev pub row_number : ℕ → ℕ
row_number row = min row (2 ^ 32 - 1)

-- all lines before the row are in form, and the row is neither another line in form nor the end of the log
pub record IsOutOfForm (text : List ℕ) (row : ℕ) : Type 0 where
  pub before : List Line
  pub rest : List ℕ
  pub begins : text ≡ opening ++ flat_map line_text before ++ rest
  pub in_form : All IsInForm before
  pub counted : row ≡ row_number (length before + 2)
  pub no_end : rest ≢ closing
  pub no_line : (line : Line) (more : List ℕ) → IsInForm line → rest ≢ line_text line ++ more

-- the first row of the text that is not in form
abbrev pub FailsAt : List ℕ → ℕ → Type 0
FailsAt text row = ((row ≡ 1) × ((rest : List ℕ) → text ≢ opening ++ rest)) ⊎ IsOutOfForm text row

-- the text is no log
abbrev pub IsNoLog : List ℕ → Type 0
IsNoLog text = (lines : List Line) → ¬ IsLogText text lines
