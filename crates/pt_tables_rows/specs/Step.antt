-- What a function does by statements in a transaction.
use Rattle.std.specs.Prelude.{◌≡◌, IsTrue}
use Rattle.sqlite.specs.declared.transaction.Transaction.{Transaction}
use Rattle.sqlite.specs.Held.{state}
use Rattle.sqlite.specs.State.{State as Connected, HasCleanDisk, Survives}
use Rattle.sqlite.specs.Store.{Ghosts}

-- The function keeps its transaction's connection, and commits nothing. If the disk stayed clean and a transaction is
-- open, it leads from the one state of the connection to the other.
pub record Steps {S : Type 0} (store : Ghosts S) (old new : Transaction S) (Leads : Connected → Connected → Type 0)
    : Type 0 where
  pub same_reference : new.conn.ghost_name ≡ old.conn.ghost_name
  pub led : HasCleanDisk (state store new.conn.now) → IsTrue (state store old.conn.now).in_transaction
      → Leads (state store old.conn.now) (state store new.conn.now)
  pub survives : Survives (state store old.conn.now) (state store new.conn.now) (λ _. ⊥)
