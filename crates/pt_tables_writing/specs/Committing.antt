-- What a transaction makes of the tables, and what an opening after a crash may find.
use Rattle.std.specs.Prelude.{◌≡◌, IsTrue, Option, None, Some}
use Rattle.sqlite.specs.State.{State as Connected, HasCleanDisk}
use Rattle.sqlite.specs.Tree.{Trees}
use Rattle.pt_desk_rules.specs.State.{State}
use Rattle.pt_tables_rows.specs.Opens.{Opens}
use Rattle.pt_tables_rows.specs.Tables.{HasRows, Stands}
use Rattle.pt_tables_writing.specs.Least.{IsDeskDatabase}

-- a transaction has led from the rows of `before` to those of `after`, and all is committed
pub record IsMade (before after : State) (old new : Connected) : Type 0 where
  pub was_open : IsTrue old.is_open
  pub is_open : IsTrue new.is_open
  pub committed : new.committed ≡ new.now
  pub stands : Stands before old.now → Stands after new.now

-- the trees are a desk's database with the rows that the transaction leads to
pub record LeadsTo (before after : State) (old : Connected) (trees : Trees) : Type 0 where
  pub was_open : IsTrue old.is_open
  pub rows : Stands before old.now → HasRows after trees
  pub tables : Stands before old.now → IsDeskDatabase trees

-- a desk's database with the rows of the content
pub record IsDeskOf (content : State) (trees : Trees) : Type 0 where
  pub tables : IsDeskDatabase trees
  pub rows : Opens trees (Some content)

-- what an opening of the database finds: the content that it is a desk's database of, or None if there is none
abbrev pub OpensDesk : Trees → Option State → Type 0
OpensDesk trees (Some content) = IsDeskOf content trees
OpensDesk trees None = (content : State) → IsDeskOf content trees → ⊥

-- what an opening after a crash may find
abbrev pub MayFind : Connected → Option State → Type 0
MayFind s o = HasCleanDisk s × (trees : Trees) × s.may_leave trees × OpensDesk trees o

-- if the disk is clean, whatever a crash leaves is a desk's database of some content
abbrev pub LeavesDesk : Connected → Type 0
LeavesDesk s = HasCleanDisk s → (trees : Trees) → s.may_leave trees → (content : State) × IsDeskOf content trees
