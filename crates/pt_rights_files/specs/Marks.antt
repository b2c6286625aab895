-- What a case file stores together with its entries.
use Rattle.std.specs.Prelude.{◌≡◌, ℕ, Bool, ◌+◌, ◌≤◌, false, List, length, Option, Some, None, is_some, nat_le, min}
use Rattle.std.specs.Option.{option_map_or}
use Rattle.pt_rights_files.specs.declared.entry.Grant.{Grant}
use Rattle.pt_rights_files.specs.declared.entry.Entry.{Entry}
use Rattle.pt_rights_files.specs.declared.entry.Entry.TheVariants as kind
use Rattle.pt_rights_files.specs.declared.entry.Entered.{Entered}
use Rattle.pt_rights_files.specs.Appeals.{is_overdue}
use Rattle.pt_rights_files.specs.Standing.{is_waiting, is_presumed, last_grant}
use Rattle.pt_rights_files.specs.Limits.{days_to_decide, days_to_presumption, most_entries}

-- today is `days` days after the day of the mark, or later; false if there is no mark
abbrev pub has_come : ℕ → Option ℕ → ℕ → Bool
has_come days since today = option_map_or (λ day. nat_le (day + days) today) since false

-- the marks hold what standing and admission need of the entries
pub record AreMarks (file : List Entered) (waiting : Option ℕ) (granted : Option Grant) (heard : Option ℕ)
    : Type 0 where
  pub within : length file ≤ most_entries
  pub waits : is_waiting file ≡ is_some waiting
  pub presumes : (today : ℕ) → is_presumed file today ≡ has_come days_to_presumption waiting today
  pub grants : last_grant file ≡ granted
  pub overdue : (today : ℕ) → is_overdue file today ≡ has_come days_to_decide heard today

-- the earlier of two days, or the second if there is no first
abbrev pub earlier : Option ℕ → ℕ → Option ℕ
earlier None day = Some day
earlier (Some before) day = Some (min before day)

-- the least day of an unanswered application, with one more entry of this day
abbrev pub waiting_with : Option ℕ → Entry → ℕ → Option ℕ
waiting_with waiting kind.Complete day = earlier waiting day
waiting_with waiting (kind.Grant grant) day = None
waiting_with waiting (kind.Refuse reasons) day = None
waiting_with waiting _ day = waiting
