-- Letters that give riders decisions (49 CFR 37.125(d), (e), (g), (h)). Every line ends with a newline.
use Rattle.std.specs.Prelude.{ℕ, List, [], ◌++◌, Bool, true, false, codes, decimal}
use Rattle.std.specs.List.{join_by}
use Rattle.pt_rights_conditions.specs.Texts.{condition_text}
use Rattle.pt_rights_files.specs.declared.conditions.Condition.{Condition}
use Rattle.pt_rights_files.specs.declared.entry.Grant.{Grant}
use Rattle.pt_desk_requests.specs.declared.letters.Determination.{Determination}
use Rattle.pt_desk_requests.specs.declared.letters.Determination.TheVariants as decision
use Rattle.pt_desk_requests.specs.declared.letters.Letter.{Letter}
use Rattle.pt_manifest.specs.Days.{day_text}

-- the words for a decision
abbrev pub words_of : Determination → List ℕ
words_of (decision.Granted grant) = codes "granted"
words_of (decision.Refused reasons) = codes "refused"
words_of (decision.AppealGranted grant) = codes "appeal granted"
words_of (decision.AppealDenied reasons) = codes "appeal denied"
words_of decision.Overturned = codes "suspension overturned"
words_of (decision.Notice basis) = codes "notice"
words_of (decision.Suspended starts ends reasons) = codes "suspended"

-- whether an attendant may come along
abbrev pub yes_or_no : Bool → List ℕ
yes_or_no true = codes "yes"
yes_or_no false = codes "no"

-- the conditions of a grant in their order
abbrev pub conditions_text : List Condition → List ℕ
conditions_text conditions = join_by condition_text (codes "; ") conditions

-- what a grant allows
abbrev pub grant_lines : Grant → Bool → List ℕ
grant_lines grant attendant =
    codes "UNTIL " ++ day_text grant.until
    ++ codes "\nCONDITIONS " ++ conditions_text grant.conditions
    ++ codes "\nATTENDANT " ++ yes_or_no attendant ++ codes "\n"

-- the reasons for a decision
abbrev pub reasons_line : List ℕ → List ℕ
reasons_line reasons = codes "REASONS " ++ reasons ++ codes "\n"

-- the lines that depend on the decision, and on whether the rider's record has an attendant
abbrev pub particulars : Determination → Bool → List ℕ
particulars (decision.Granted grant) attendant = grant_lines grant attendant
particulars (decision.Refused reasons) attendant = reasons_line reasons
particulars (decision.AppealGranted grant) attendant = grant_lines grant attendant
particulars (decision.AppealDenied reasons) attendant = reasons_line reasons
particulars decision.Overturned attendant = []
particulars (decision.Notice basis) attendant = reasons_line basis
particulars (decision.Suspended starts ends reasons) attendant =
    codes "FROM " ++ day_text starts ++ codes "\nTO " ++ day_text ends ++ codes "\n" ++ reasons_line reasons

-- the letter
abbrev pub letter_text : Letter → List ℕ
letter_text letter =
    codes "RIDER " ++ decimal letter.rider.id
    ++ codes "\nDATE " ++ day_text letter.day
    ++ codes "\nDECISION " ++ words_of letter.decision ++ codes "\n"
    ++ particulars letter.decision letter.rider.attendant
