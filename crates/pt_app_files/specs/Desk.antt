-- What is done with the desk in a file.
use Rattle.std.specs.Prelude.{◌≡◌, ◌⊎◌, ℕ, List, Result}
use Rattle.std.specs.declared.io.Error.{Error as IoError}
use Rattle.sqlite.specs.Held.{Held, state}
use Rattle.sqlite.specs.State.{HasCleanDisk}
use Rattle.sqlite.specs.Store.{Ghosts}
use Rattle.sqlite.specs.Tree.{Trees}
use Rattle.sqlite.specs.View.{IsClean}
use Rattle.sqlite.specs.declared.error.Error.{Error as StoreError}
use Rattle.pt_base_values.specs.declared.fault.Fault.{Fault}
use Rattle.pt_desk_rules.specs.Sound.{IsSound}
use Rattle.pt_tables.specs.RefusedBy.{RefusedBy}
use Rattle.pt_tables_keeper.specs.Keeper.{KeptTables}
use Rattle.pt_tables_opening.specs.Faults.{IsRefusal}
use Rattle.pt_tables_opening.specs.declared.open_fault.OpenFault.{OpenFault}
use Rattle.pt_tables_rows.specs.Tables.{HasRows}
use Rattle.pt_app_files.specs.Faults.{told_as}
use Rattle.pt_app_files.specs.Known.{OverKnown}

-- The desk in the database of a connection: a sound state, with the rows that were committed. A crash leaves nothing
-- that it could not have left before.
pub record IsAdopted {S : Type 0} (g : Ghosts S) (conn : Held S) (keeper : KeptTables S) : Type 0 where
  pub sound : IsSound keeper.content
  pub rows : HasCleanDisk (state g keeper.conn) → HasRows keeper.content (state g conn).committed.trees
  pub serves : keeper.failures ≡ 0
  pub crash : HasCleanDisk (state g keeper.conn) → (trees : Trees) → (state g keeper.conn).may_leave trees
      → (state g conn).may_leave trees

-- The database of a connection is refused, for what it holds or because memory or the store failed. Nothing in it has
-- changed.
pub record IsRefused {S : Type 0} (g : Ghosts S) (conn : Held S) (refused : OpenFault) : Type 0 where
  pub told : IsRefusal refused
  pub store : S
  pub why : IsClean (g.view store) → RefusedBy (state g conn) (g.view store) (g.recovers store) refused

-- This is done once with a desk, and the connection is left as it is then. `leaves` says which calls leave a connection.
pub record DoesAndLeaves {F S : Type 0} (leaves : F → Held S → F → Type 0)
    (Does : KeptTables S → KeptTables S → Type 0) (keeper : KeptTables S) (old new : F) : Type 0 where
  pub last : KeptTables S
  pub does : Does keeper last
  pub left : leaves old last.conn new

-- The desk in the database of a connection is adopted, and this is done with it. A refusal ends it so, and nothing is
-- done.
abbrev pub WithDesk : {F S : Type 0} → Ghosts S → (F → Held S → F → Type 0) → (KeptTables S → KeptTables S → Type 0)
    → (Fault → Type 0) → Held S → F → F
    → Type 0
WithDesk {F} {S} g leaves Does Ends conn old new =
    ((keeper : KeptTables S) × IsAdopted g conn keeper × DoesAndLeaves leaves Does keeper old new)
    ⊎ ((refused : OpenFault) × IsRefused g conn refused × (new ≡ old) × Ends (told_as refused))

-- the same with the database in a file that must exist
abbrev pub OverDesk : {F S : Type 0} → Ghosts S → (F → List ℕ → Result (Unit {0}) IoError → F → Type 0)
    → (F → List ℕ → Result (Held S) StoreError → F → Type 0) → (F → Held S → F → Type 0) → List ℕ
    → (KeptTables S → KeptTables S → Type 0) → (Fault → Type 0) → F → F
    → Type 0
OverDesk g finds connects leaves file Does Ends old new =
    OverKnown finds connects file (WithDesk g leaves Does Ends) Ends old new
