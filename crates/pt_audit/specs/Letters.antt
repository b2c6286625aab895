-- A line of a log by its first letter, which gives the line's kind and how many numbers follow.
use Rattle.std.specs.Prelude.{ℕ, ◌==◌, ◌||◌, ◌&&◌, if◌then◌else◌, Option, None, Some}
use Rattle.pt_audit.specs.declared.line.Line.{Line}
use Rattle.pt_audit.specs.declared.line.Line.TheVariants as line
use Rattle.pt_audit.specs.declared.line.Raise.TheVariants as raise
use Rattle.pt_audit.specs.declared.line.End.TheVariants as end

-- how many numbers a line of this first letter has
abbrev pub count_after : ℕ → ℕ
count_after letter =
    if (letter == 78) || (letter == 83) then 0
    else if (letter == 87) || (letter == 76) || (letter == 77) then 1
    else if letter == 67 then 3 else 2

-- the line of this first letter with one number
abbrev pub line_with_one : ℕ → ℕ → Option Line
line_with_one letter k =
    if letter == 87 then Some (line.End (end.Late k))
    else if letter == 76 then Some (line.End (end.Overloaded k))
    else if letter == 77 then Some (line.End (end.NoWay k)) else None

-- the line of this first letter with two numbers; a duration's first number is 0
abbrev pub line_with_two : ℕ → ℕ → ℕ → Option Line
line_with_two letter k n =
    if letter == 70 then Some (line.Raise (raise.Window k n))
    else if letter == 65 then Some (line.Raise (raise.Drive k n))
    else if letter == 80 then Some (line.Raise (raise.Ride k n))
    else if (letter == 84) && (k == 0) then Some (line.Raise (raise.Duration n)) else None
