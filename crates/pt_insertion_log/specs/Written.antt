-- What has been written of a log.
use Rattle.std.specs.Prelude.{ℕ, List, ◌++◌, All, Option}
use Rattle.std.specs.List.{flat_map}
use Rattle.std.specs.Io.KnownBytes.{Appends}
use Rattle.pt_audit.specs.declared.line.Line.{Line}
use Rattle.pt_audit.specs.Cases.{Case}
use Rattle.pt_audit.specs.RightLog.{BeginsWithCases, IsRightLog}
use Rattle.pt_audit.specs.Text.{line_text, IsInForm, IsLogText}
use Rattle.pt_insertion_search.specs.declared.asked.Asked.{Asked}
use Rattle.pt_insertion_search.specs.declared.duty.Duty.{Duty}

-- the lines of these cases were written, each right
pub record WritesCases (minutes : ℕ → ℕ → Option ℕ) (cases : List Case) (old new : Option (List ℕ)) : Type 0 where
  pub lines : List Line
  pub in_form : All IsInForm lines
  pub appended : Appends old new (flat_map line_text lines)
  pub right : (rest : List Line) → BeginsWithCases minutes cases (lines ++ rest) rest

-- the lines of a right log were written
pub record WritesLines (minutes : ℕ → ℕ → Option ℕ) (duties : List Duty) (asked : Asked)
    (old new : Option (List ℕ)) : Type 0 where
  pub lines : List Line
  pub in_form : All IsInForm lines
  pub appended : Appends old new (flat_map line_text lines)
  pub right : IsRightLog minutes duties asked lines

-- a right log was written
pub record WritesRightLog (minutes : ℕ → ℕ → Option ℕ) (duties : List Duty) (asked : Asked)
    (old new : Option (List ℕ)) : Type 0 where
  pub lines : List Line
  pub text : List ℕ
  pub right : IsRightLog minutes duties asked lines
  pub is_text : IsLogText text lines
  pub appended : Appends old new text
