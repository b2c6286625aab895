-- What a refusal to open a database says of the database, and of the store that it returns.
use Rattle.std.specs.Prelude.{◌≡◌, ◌≢◌, ◌⊎◌, ℕ, false, IsSome, IsTrue}
use Rattle.sqlite.specs.Disk.{MoreFaults}
use Rattle.sqlite.specs.State.{State as Connected}
use Rattle.sqlite.specs.Tree.{Trees}
use Rattle.sqlite.specs.View.{View}
use Rattle.pt_tables_keeper.specs.State.{State}
use Rattle.pt_base_values.specs.Fault.{code_of}
use Rattle.pt_base_values.specs.declared.fault.Cause.TheVariants as cause
use Rattle.pt_tables_opening.specs.Refused.{AreUnsound, HasOtherTables, SparesOtherVersion}
use Rattle.pt_tables_opening.specs.Standing.{IsFirstAtFault}
use Rattle.pt_tables_opening.specs.declared.open_fault.OpenFault.{OpenFault}
use Rattle.pt_tables_writing.specs.Committing.{IsDeskOf}

-- `old` is the connection before the call. `store` is what the returned store shows. `Recovers` says what a crash may
-- leave of it.
pub record RefusedBy (old : Connected) (store : View) (Recovers : Trees → Type 0) (refused : OpenFault) : Type 0 where
  -- an open store shows what was committed
  pub kept : IsTrue store.is_open → store.trees ≡ old.committed.trees
  -- a crash leaves nothing that it could not have left before
  pub crash : (trees : Trees) → Recovers trees → old.may_leave trees
  pub other_tables : refused.code ≡ code_of cause.OtherTables → HasOtherTables old.committed.trees
  -- a desk's database is never refused for its tables
  pub desk : (content : State) → IsDeskOf content old.committed.trees → refused.code ≢ code_of cause.OtherTables
  pub unsound : refused.code ≡ code_of cause.UnsoundRows → AreUnsound old.committed.trees
  pub first : refused.code ≡ code_of cause.UnsoundRows → IsFirstAtFault old.committed.trees refused.table
  pub version : SparesOtherVersion old.committed.trees refused

-- a connection was shut before calls, or its disk failed in them, as its count of failures after them shows
abbrev pub IsFailed : Connected → ℕ → Type 0
IsFailed old faults = (old.is_open ≡ false) ⊎ MoreFaults old.faults faults

-- Why an opening blames the store: a transaction is open, the connection was shut, its disk failed, or a limit is set
-- on the steps of queries.
abbrev pub IsBlamed : Connected → ℕ → Type 0
IsBlamed old faults = IsTrue old.in_transaction ⊎ (IsFailed old faults ⊎ IsSome old.step_limit)
