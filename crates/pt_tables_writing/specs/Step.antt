-- What a function writes by statements in a transaction.
use Rattle.std.specs.Prelude.{◌≡◌, Result}
use Rattle.sqlite.specs.declared.error.Error.{Error}
use Rattle.sqlite.specs.declared.transaction.Transaction.{Transaction}
use Rattle.sqlite.specs.Effect.{Database}
use Rattle.sqlite.specs.Held.{state}
use Rattle.sqlite.specs.State.{Survives}
use Rattle.sqlite.specs.Store.{Ghosts}
use Rattle.pt_tables_rows.specs.Tables.{Makes}

-- The function makes these changes. It keeps its transaction's connection, and commits nothing.
pub record Writes {S X : Type 0} (store : Ghosts S) (old new : Transaction S) (Changes : Database → Database → Type 0)
    (result : Result X Error) : Type 0 where
  pub same_reference : new.conn.ghost_name ≡ old.conn.ghost_name
  pub written : Makes (state store old.conn.now) (state store new.conn.now) Changes result
  pub survives : Survives (state store old.conn.now) (state store new.conn.now) (λ _. ⊥)
