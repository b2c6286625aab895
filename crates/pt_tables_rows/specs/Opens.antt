-- What the rows of a database say of its content.
use Rattle.std.specs.Prelude.{◌≡◌, Option, None, Some}
use Rattle.sqlite.specs.Tree.{Trees}
use Rattle.pt_desk_rules.specs.State.{State}
use Rattle.pt_tables_rows.specs.Tables.{HasRows, IsWellFormed}

-- what an opening finds in these trees: the content with their rows, or None if no content has them
abbrev pub Opens : Trees → Option State → Type 0
Opens trees (Some content) = IsWellFormed content × HasRows content trees
Opens trees None = (content : State) → IsWellFormed content → HasRows content trees → ⊥

-- no two contents have the same rows
abbrev pub SameRowsSameContent : Type 0
SameRowsSameContent = (one other : State) (trees : Trees) → IsWellFormed one → IsWellFormed other
    → HasRows one trees → HasRows other trees → one ≡ other

-- so the rows determine what an opening finds
abbrev pub OpensOnce : Type 0
OpensOnce = (trees : Trees) (one other : Option State) → Opens trees one → Opens trees other → one ≡ other
