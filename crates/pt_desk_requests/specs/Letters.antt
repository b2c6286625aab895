-- The decisions that riders get by letter (49 CFR 37.125(d), (e), (g), (h)).
use Rattle.std.specs.Prelude.{Option, None, Some}
use Rattle.pt_rights_files.specs.declared.entry.Entry.{Entry}
use Rattle.pt_rights_files.specs.declared.entry.Entry.TheVariants as entry
use Rattle.pt_desk_requests.specs.declared.letters.Determination.{Determination}
use Rattle.pt_desk_requests.specs.declared.letters.Determination.TheVariants as decision

-- the decision that an entry of a case file makes; None for the kinds that have no letter
abbrev pub decision_of : Entry → Option Determination
decision_of entry.Complete = None
decision_of (entry.Grant grant) = Some (decision.Granted grant)
decision_of (entry.Refuse reasons) = Some (decision.Refused reasons)
decision_of (entry.Appeal against) = None
decision_of entry.Heard = None
decision_of (entry.AppealGranted grant) = Some (decision.AppealGranted grant)
decision_of (entry.AppealDenied reasons) = Some (decision.AppealDenied reasons)
decision_of entry.Overturn = Some decision.Overturned
decision_of (entry.Notice basis) = Some (decision.Notice basis)
decision_of entry.NoticeHeard = None
decision_of (entry.Suspend starts ends reasons) = Some (decision.Suspended starts ends reasons)
