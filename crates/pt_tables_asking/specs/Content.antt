-- What is read of the content that the tables have.
use Rattle.std.specs.Prelude.{◌≡◌, Result, IfErr, IfOk}
use Rattle.sqlite.specs.State.{State as Connected, HasCleanDisk}
use Rattle.pt_desk_rules.specs.State.{State}
use Rattle.pt_tables_asking.specs.Asking.{HasCause}
use Rattle.pt_tables_asking.specs.declared.asking.Unread.{Unread}
use Rattle.pt_tables_asking.specs.declared.asking.Unread.TheVariants.{Memory, Row as BadRow, Store as failed}
use Rattle.pt_tables_rows.specs.Tables.{IsKept, IsWellFormed}

-- the read returns this value of the content that the tables have
abbrev pub Tells : {X : Type 0} → Connected → Connected → (State → X) → Result X Unread → Type 0
Tells old new value result =
    HasCleanDisk new → (content : State) → IsWellFormed content → IsKept content old
    → IfOk result (λ found. found ≡ value content)

-- a store that failed has a cause, and no row is reported as bad
abbrev pub IsExcused : Connected → Connected → Unread → Type 0
IsExcused old new Memory = Unit {0}
IsExcused old new failed = HasCause old new
IsExcused old new BadRow = ⊥

-- if the tables have the rows of a content, a read of them fails only so
abbrev pub Excuses : {X : Type 0} → Connected → Connected → Result X Unread → Type 0
Excuses old new result =
    HasCleanDisk new → (content : State) → IsWellFormed content → IsKept content old
    → IfErr result (IsExcused old new)
