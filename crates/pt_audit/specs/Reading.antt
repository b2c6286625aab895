-- Where the lines of cases end in a list of lines.
use Rattle.std.specs.Prelude.{◌≡◌, ℕ, ◌↔◌, List, Option, IsSomeAnd, drop}
use Rattle.pt_audit.specs.declared.line.Line.{Line}
use Rattle.pt_audit.specs.Cases.{Case}
use Rattle.pt_audit.specs.RightLog.{BeginsWithCases}

-- the lines from `start` on begin with right lines of these cases exactly if the result is where the rest begins
abbrev pub EndsCases : (ℕ → ℕ → Option ℕ) → List Case → List Line → ℕ → Option ℕ → Type 0
EndsCases minutes cases lines start result = (rest : List Line) →
    BeginsWithCases minutes cases (drop start lines) rest ↔ IsSomeAnd result (λ end. drop end lines ≡ rest)
