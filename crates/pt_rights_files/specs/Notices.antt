-- Patterns of missed trips, notices of suspension and their hearings (49 CFR 37.125(h)).
use Rattle.std.specs.Prelude.{ℕ, ◌+◌, ◌*◌, Bool, true, false, ◌&&◌, ◌||◌, List, nat_le}
use Rattle.std.specs.List.{count_by}
use Rattle.pt_base_values.specs.declared.policy.Policy.{Policy}
use Rattle.pt_rights_files.specs.declared.tally.Outcome.{Outcome}
use Rattle.pt_rights_files.specs.declared.tally.Outcome.TheVariants as outcome
use Rattle.pt_rights_files.specs.declared.tally.Tally.{Tally}
use Rattle.pt_rights_files.specs.declared.entry.Entered.{Entered}
use Rattle.pt_rights_files.specs.Kinds.{is_notice, is_notice_hearing, is_suspension}
use Rattle.pt_rights_files.specs.Positions.{some_position, is_open, is_followed}
use Rattle.pt_rights_files.specs.Limits.{days_after_first}

-- the rider missed the trip; what the operator missed, or was beyond the rider's control, never counts
abbrev pub is_missed : Outcome → Bool
is_missed outcome.MissedRider = true
is_missed _ = false

-- the day is one of the `span` days before today
abbrev pub is_recent : ℕ → ℕ → ℕ → Bool
is_recent span today day = nat_le today (day + span) && nat_le (day + 1) today

-- how many trips ended on the policy's days before today
abbrev pub recent : List Tally → Policy → ℕ → ℕ
recent tallies policy today = count_by (λ tally. is_recent policy.span_days today tally.day) tallies

-- how many of them the rider missed
abbrev pub missed : List Tally → Policy → ℕ → ℕ
missed tallies policy today =
    count_by (λ tally. is_recent policy.span_days today tally.day && is_missed tally.outcome) tallies

-- the trips that the rider missed make a pattern, by their number and by their share
abbrev pub is_pattern : List Tally → Policy → ℕ → Bool
is_pattern tallies policy today =
    nat_le policy.min_missed (missed tallies policy today)
    && nat_le (policy.percent * recent tallies policy today) (100 * missed tallies policy today)

-- some notice is followed by no hearing, no suspension and no notice
abbrev pub awaits_notice_hearing : List Entered → Bool
awaits_notice_hearing file =
    some_position
    (is_open (λ e. is_notice e.entry)
    (λ e. is_notice_hearing e.entry || (is_suspension e.entry || is_notice e.entry))) file

-- some notice is followed by a hearing, and by no suspension and no notice
abbrev pub may_suspend : List Entered → Bool
may_suspend file =
    some_position
    (is_followed (λ e. is_notice e.entry) (λ e. is_suspension e.entry || is_notice e.entry)
    (λ e. is_notice_hearing e.entry)) file

-- a suspension starts after its day, and lasts 1 to 30 days
abbrev pub is_term : ℕ → ℕ → ℕ → Bool
is_term today starts ends = nat_le (today + 1) starts && (nat_le starts ends && nat_le ends (starts + days_after_first))
