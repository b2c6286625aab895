-- A rider's standing and suspension by the numbered positions of the case file, counted from 0.
use Rattle.std.specs.Prelude.{◌≡◌, ℕ, ◌+◌, ◌<◌, ◌≤◌, true, false, List, Some, None, slice_get}
use Rattle.pt_rights_files.specs.declared.entry.Grant.{Grant}
use Rattle.pt_rights_files.specs.declared.entry.Entered.{Entered}
use Rattle.pt_rights_files.specs.Kinds.{is_complete, is_decision, grant_of, is_refusal, against_of, is_hearing}
use Rattle.pt_rights_files.specs.Kinds.{is_overturn, decides_appeal, suspends}
use Rattle.pt_rights_files.specs.Limits.{days_to_decide, days_to_presumption}

-- the entry at the position completes an application, and no later entry decides one
pub record IsUnansweredAt (file : List Entered) (position : ℕ) (application : Entered) : Type 0 where
  pub here : slice_get file position ≡ Some application
  pub completes : is_complete application.entry ≡ true
  pub undecided : (later : ℕ) (entered : Entered) → position < later → slice_get file later ≡ Some entered
      → is_decision entered.entry ≡ false

-- some application is unanswered
abbrev pub IsWaiting : List Entered → Type 0
IsWaiting file = (position : ℕ) × (application : Entered) × IsUnansweredAt file position application

-- some unanswered application was completed 21 days ago or earlier (49 CFR 37.125(c))
abbrev pub IsPresumed : List Entered → ℕ → Type 0
IsPresumed file today =
    (position : ℕ) × (application : Entered) × IsUnansweredAt file position application
    × (application.day + days_to_presumption ≤ today)

-- the entry at the position grants this, and no later entry grants anything
pub record IsLastGrantAt (file : List Entered) (position : ℕ) (granting : Entered) (grant : Grant) : Type 0 where
  pub here : slice_get file position ≡ Some granting
  pub grants : grant_of granting.entry ≡ Some grant
  pub unreplaced : (later : ℕ) (entered : Entered) → position < later → slice_get file later ≡ Some entered
      → grant_of entered.entry ≡ None

-- the last grant is this one, and has not run out on the day (37.125(e))
abbrev pub IsGrantedFor : List Entered → ℕ → Grant → Type 0
IsGrantedFor file day grant =
    (position : ℕ) × (granting : Entered) × IsLastGrantAt file position granting grant × (day ≤ grant.until)

-- the entry at `position` is an appeal against the entry at `against`, and no later entry decides an appeal
pub record IsPendingAt (file : List Entered) (position against : ℕ) (appeal : Entered) : Type 0 where
  pub here : slice_get file position ≡ Some appeal
  pub appeals : against_of appeal.entry ≡ Some against
  pub undecided : (later : ℕ) (entered : Entered) → position < later → slice_get file later ≡ Some entered
      → decides_appeal entered.entry ≡ false

-- some appeal against the entry at the position is pending
abbrev pub IsPendingAgainst : List Entered → ℕ → Type 0
IsPendingAgainst file against = (position : ℕ) × (appeal : Entered) × IsPendingAt file position against appeal

-- there is a refusal at the position
abbrev pub IsRefusedAt : List Entered → ℕ → Type 0
IsRefusedAt file position = (refusal : Entered) × (slice_get file position ≡ Some refusal)
    × (is_refusal refusal.entry ≡ true)

-- a later entry says that an appeal was heard, on a day that is 30 days before today or earlier
abbrev pub IsHeardAfter : List Entered → ℕ → ℕ → Type 0
IsHeardAfter file position today =
    (later : ℕ) × (hearing : Entered) × (position < later) × (slice_get file later ≡ Some hearing)
    × (is_hearing hearing.entry ≡ true) × (hearing.day + days_to_decide ≤ today)

-- some pending appeal against a refusal was heard 30 days ago or earlier (37.125(g))
abbrev pub IsOverdue : List Entered → ℕ → Type 0
IsOverdue file today =
    (position : ℕ) × (against : ℕ) × (appeal : Entered)
    × IsPendingAt file position against appeal × IsRefusedAt file against × IsHeardAfter file position today

-- the entry at `position` is an appeal against the entry at `against`, and the first decision of an appeal after it,
-- at `decided`, overturns
pub record IsOverturnedAt (file : List Entered) (position against : ℕ) (appeal : Entered) (decided : ℕ)
    (decision : Entered) : Type 0 where
  pub here : slice_get file position ≡ Some appeal
  pub appeals : against_of appeal.entry ≡ Some against
  pub after : position < decided
  pub there : slice_get file decided ≡ Some decision
  pub overturns : is_overturn decision.entry ≡ true
  pub first : (between : ℕ) (entered : Entered) → position < between → between < decided
      → slice_get file between ≡ Some entered → decides_appeal entered.entry ≡ false

-- the entry at the position is overturned
abbrev pub IsOverturned : List Entered → ℕ → Type 0
IsOverturned file against =
    (position : ℕ) × (appeal : Entered) × (decided : ℕ) × (decision : Entered)
    × IsOverturnedAt file position against appeal decided decision

-- some suspension holds on the day, no appeal against it is pending, and it is not overturned (37.125(h))
abbrev pub IsSuspended : List Entered → ℕ → Type 0
IsSuspended file day =
    (position : ℕ) × (suspension : Entered) × (slice_get file position ≡ Some suspension)
    × (suspends day suspension.entry ≡ true) × (¬ IsPendingAgainst file position) × (¬ IsOverturned file position)
