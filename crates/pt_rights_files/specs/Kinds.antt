-- The kinds of entries of a case file.
use Rattle.std.specs.Prelude.{ℕ, Bool, true, false, ◌&&◌, Option, Some, None, nat_le}
use Rattle.pt_rights_files.specs.declared.entry.Grant.{Grant}
use Rattle.pt_rights_files.specs.declared.entry.Entry.{Entry}
use Rattle.pt_rights_files.specs.declared.entry.Entry.TheVariants as kind

-- the entry completes an application
abbrev pub is_complete : Entry → Bool
is_complete kind.Complete = true
is_complete _ = false

-- the entry decides an application
abbrev pub is_decision : Entry → Bool
is_decision (kind.Grant grant) = true
is_decision (kind.Refuse reasons) = true
is_decision _ = false

-- what the entry grants, if it is a grant or grants an appeal
abbrev pub grant_of : Entry → Option Grant
grant_of (kind.Grant grant) = Some grant
grant_of (kind.AppealGranted grant) = Some grant
grant_of _ = None

-- the entry refuses an application
abbrev pub is_refusal : Entry → Bool
is_refusal (kind.Refuse reasons) = true
is_refusal _ = false

-- the position of the entry that is appealed against, if the entry is an appeal
abbrev pub against_of : Entry → Option ℕ
against_of (kind.Appeal against) = Some against
against_of _ = None

-- the entry is an appeal
abbrev pub is_appeal : Entry → Bool
is_appeal (kind.Appeal against) = true
is_appeal _ = false

-- the entry says that an appeal was heard
abbrev pub is_hearing : Entry → Bool
is_hearing kind.Heard = true
is_hearing _ = false

-- the entry overturns what is appealed against
abbrev pub is_overturn : Entry → Bool
is_overturn kind.Overturn = true
is_overturn _ = false

-- the entry decides an appeal
abbrev pub decides_appeal : Entry → Bool
decides_appeal (kind.AppealGranted grant) = true
decides_appeal (kind.AppealDenied reasons) = true
decides_appeal kind.Overturn = true
decides_appeal _ = false

-- the entry gives notice of a suspension that is proposed
abbrev pub is_notice : Entry → Bool
is_notice (kind.Notice basis) = true
is_notice _ = false

-- the entry says that the rider was heard on a notice
abbrev pub is_notice_hearing : Entry → Bool
is_notice_hearing kind.NoticeHeard = true
is_notice_hearing _ = false

-- the entry suspends the rider
abbrev pub is_suspension : Entry → Bool
is_suspension (kind.Suspend starts ends reasons) = true
is_suspension _ = false

-- the entry suspends the rider on this day: it is from the first to the last day of the suspension
abbrev pub suspends : ℕ → Entry → Bool
suspends day (kind.Suspend starts ends reasons) = nat_le starts day && nat_le day ends
suspends day _ = false
