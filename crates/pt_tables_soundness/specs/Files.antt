-- The entries of all case files, one after another.
use Rattle.std.specs.Prelude.{◌≡◌, ℕ, ◌<◌, ◌==◌, if◌then◌else◌}
use Rattle.pt_desk_rules.specs.State.{most_entries}
use Rattle.pt_desk_rules.specs.declared.change.FiledEntry.{FiledEntry}

-- the position of the next entry of this rider, if the last entry was of rider `last` and `next` is the position after
-- it
abbrev pub next_position : ℕ → ℕ → ℕ → ℕ
next_position last next rider = if rider == last then next else 0

-- the entry has this position, and a file may have it
abbrev pub IsAt : ℕ → FiledEntry → Type 0
IsAt position filed = (filed.position ≡ position) × (position < most_entries)
