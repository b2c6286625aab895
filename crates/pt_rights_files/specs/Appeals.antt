-- Appeals against refusals (49 CFR 37.125(g)) and against suspensions (37.125(h)), by the entries of the case file.
use Rattle.std.specs.Prelude.{ℕ, ◌+◌, Bool, false, ◌&&◌, ◌||◌, not, List, ◌==◌, nat_le, slice_get, Option, None}
use Rattle.std.specs.List.{list_any, find}
use Rattle.std.specs.Option.{option_map_or}
use Rattle.pt_rights_files.specs.declared.entry.Entry.{Entry}
use Rattle.pt_rights_files.specs.declared.entry.Entry.TheVariants as kind
use Rattle.pt_rights_files.specs.declared.entry.Entered.{Entered}
use Rattle.pt_rights_files.specs.Kinds.{is_refusal, is_suspension, against_of, is_appeal, is_hearing, is_overturn}
use Rattle.pt_rights_files.specs.Kinds.{decides_appeal}
use Rattle.pt_rights_files.specs.Positions.{some_position, is_open, is_followed}
use Rattle.pt_rights_files.specs.Limits.{days_to_appeal, days_to_decide}

-- the entry is an appeal against the entry at the position
abbrev pub appeals_against : ℕ → Entry → Bool
appeals_against position entry = option_map_or (λ against. against == position) (against_of entry) false

-- what is disputed: the entry of the file against which the entry is an appeal
abbrev pub disputed : List Entered → Entry → Option Entered
disputed file (kind.Appeal against) = slice_get file against
disputed file _ = None

-- the entry is an appeal against an entry of the file that passes the test
abbrev pub disputes : (Entered → Bool) → List Entered → Entry → Bool
disputes test file entry = option_map_or test (disputed file entry) false

-- some appeal that passes the test is pending: no later entry decides an appeal
abbrev pub some_pending : (Entry → Bool) → List Entered → Bool
some_pending appeals file = some_position (is_open (λ e. appeals e.entry) (λ e. decides_appeal e.entry)) file

-- some such appeal is pending, and a later entry passes the second test
abbrev pub some_pending_with : (Entry → Bool) → (Entered → Bool) → List Entered → Bool
some_pending_with appeals follows file =
    some_position (is_followed (λ e. appeals e.entry) (λ e. decides_appeal e.entry) follows) file

-- an entry may be appealed against if it is a refusal or a suspension, within 60 days, the 60th included
abbrev pub is_appealable : ℕ → Entered → Bool
is_appealable today entered = (is_refusal entered.entry || is_suspension entered.entry)
    && nat_le today (entered.day + days_to_appeal)

-- the file has an appeal against the entry at the position
abbrev pub is_appealed : List Entered → ℕ → Bool
is_appealed file position = list_any (λ e. appeals_against position e.entry) file

-- An appeal against the entry at the position may be entered. The entry exists and may be appealed against, nobody has
-- done so, and no other appeal is pending.
abbrev pub may_appeal : List Entered → ℕ → ℕ → Bool
may_appeal file today position =
    option_map_or (is_appealable today) (slice_get file position) false
    && (not (is_appealed file position) && not (some_pending is_appeal file))

-- an appeal is pending and was not heard
abbrev pub awaits_hearing : List Entered → Bool
awaits_hearing file =
    some_position (is_open (λ e. is_appeal e.entry) (λ e. decides_appeal e.entry || is_hearing e.entry)) file

-- The decision fits the entry that is appealed against. An appeal against a refusal is granted or denied; one against a
-- suspension overturns it or is denied.
abbrev pub may_answer : Entry → Entry → Bool
may_answer (kind.AppealGranted grant) against = is_refusal against
may_answer (kind.AppealDenied reasons) against = is_refusal against || is_suspension against
may_answer kind.Overturn against = is_suspension against
may_answer _ against = false

-- an appeal that was heard is pending; the decision fits the disputed entry, whose author is somebody else
abbrev pub may_decide : List Entered → Entry → ℕ → Bool
may_decide file decision author =
    some_pending_with
    (disputes (λ e. may_answer decision e.entry && not (e.author == author)) file)
    (λ e. is_hearing e.entry) file

-- the entry says that an appeal was heard, 30 days before today or earlier
abbrev pub is_heard_by : ℕ → Entered → Bool
is_heard_by today entered = is_hearing entered.entry && nat_le (entered.day + days_to_decide) today

-- a pending appeal against a refusal was heard on day h, and today is h + 30 or later (37.125(g))
abbrev pub is_overdue : List Entered → ℕ → Bool
is_overdue file today = some_pending_with (disputes (λ e. is_refusal e.entry) file) (is_heard_by today) file

-- the first decision of an appeal among the entries overturns; false if there is none
abbrev pub is_first_overturned : List Entered → Bool
is_first_overturned file = option_map_or (λ e. is_overturn e.entry) (find (λ e. decides_appeal e.entry) file) false

-- the entry at the position is overturned: the first decision after an appeal against it overturns
abbrev pub is_overturned : List Entered → ℕ → Bool
is_overturned file position =
    some_position (λ entered later. appeals_against position entered.entry && is_first_overturned later) file
