-- A desk whose content was read from the tables, and one whose tables are refused.
use Rattle.std.proofs.Common.{◌≡◌, ◌≢◌, ◌⊎◌, ◌≤◌, inl, inr, ℕ, Bool, true, false, not, IsTrue, refl, sym, subst, ◌∙◌, ap, arith}
use Rattle.sqlite.specs.Disk.{MoreFaults}
use Rattle.sqlite.specs.Effect.{Database, IsDatabase}
use Rattle.sqlite.specs.Schema.{Schema}
use Rattle.sqlite.specs.State.{State as Connected, HasCleanDisk, IsLive, Survives}
use Rattle.sqlite.specs.Steps.{FailsToOpen}
use Rattle.sqlite.specs.Tree.{Trees}
use Rattle.sqlite.specs.View.{View, IsClean, doubt}
use Rattle.sqlite.specs.declared.error.Error.{Error}
use Rattle.sqlite.specs.declared.error.Error.TheVariants.{SqliteFailure}
use Rattle.sqlite.specs.declared.error.ErrorCode.TheVariants as code
use Rattle.sqlite_catalog.proofs.ReadLemmas.{lists_once}
use Rattle.sqlite_catalog.specs.Listing.{IsSound, Lists}
use Rattle.sqlite_trees.specs.Objects.{catalog_tree}
use Rattle.sqlite_trees.specs.declared.error.StoreError.TheVariants.{OutOfMemory, Io, Corrupt, Full, Broken, Unstorable}
use Rattle.pt_tables_keeper.specs.State.{State}
use Rattle.pt_tables_keeper.specs.TableName.TheVariants as name
use Rattle.pt_base_values.specs.Fault.{code_of}
use Rattle.pt_base_values.specs.declared.fault.Cause.TheVariants as cause
use Rattle.pt_base_values.proofs.FaultLemmas.{other_code}
use Rattle.pt_tables.specs.RefusedBy.{IsBlamed, IsFailed, RefusedBy}
use Rattle.pt_tables_opening.proofs.BlameLemmas.{not_for_memory}
use Rattle.pt_tables_opening.specs.Asking.{HasCause}
use Rattle.pt_tables_opening.specs.Faults.{IsRefusal, fault, unsound}
use Rattle.pt_tables_opening.specs.Opening.{IsReopened, Stays}
use Rattle.pt_tables_rows.specs.Schema.{desk_schema}
use Rattle.pt_tables_rows.specs.Tables.{HasRows, IsKept, IsWellFormed, Stands}
use Rattle.pt_tables_writing.specs.Committing.{IsDeskOf}
use Rattle.pt_tables_writing.specs.Least.{IsDeskDatabase}
use Rattle.pt_tables_opening.proofs.AgencyLemmas.{spares_none}
use Rattle.pt_tables_opening.specs.Refused.{AreUnsound, HasOtherTables, ListsOthers, SparesOtherVersion, TellsOf}
use Rattle.pt_tables_opening.specs.Standing.{IsFirstAtFault}
use Rattle.pt_tables_opening.specs.Agency.{HasOtherVersion}
use Rattle.pt_tables_opening.specs.declared.open_fault.OpenFault.{OpenFault}

-- if nothing is committed, a crash leaves what it could leave before
pub left_before : (old new : Connected) → Survives old new (λ _. ⊥) → HasCleanDisk new → (db : Trees) → new.may_leave db → old.may_leave db
left_before old new survives clean db left = elim (survives.crash clean db left) [
  | inl before ↦ before
  | inr nothing ↦ absurd nothing
]

-- a desk's database of a content has no other tables, nor those of another version
no_other_tables : (content : State) (trees : Trees) → IsDeskOf content trees → HasOtherTables trees → ⊥
no_other_tables content trees desk (inl other) = other.2 (lists_once (trees catalog_tree) other.0 desk_schema other.1 desk.tables.lists)
no_other_tables content trees desk (inr version) = spares_none trees content.policy content.last_trip (desk.rows.1 name.Desk) (unsound 1) version refl

-- a refusal of the store, or for memory, has neither of these causes
cause_elsewhere : (refused : OpenFault) → (refused ≡ fault cause.Memory) ⊎ (refused ≡ fault cause.StoreFailed)
    → (refused.code ≢ code_of cause.OtherTables) × (refused.code ≢ code_of cause.UnsoundRows)
cause_elsewhere refused (inl is) =
    let memory : refused.code ≡ code_of cause.Memory = ap (λ (f : OpenFault). f.code) is in (
      λ same. other_code refused.code cause.Memory cause.OtherTables (omega arith) memory same,
      λ same. other_code refused.code cause.Memory cause.UnsoundRows (omega arith) memory same,
    )
cause_elsewhere refused (inr is) =
    let failed : refused.code ≡ code_of cause.StoreFailed = ap (λ (f : OpenFault). f.code) is in (
      λ same. other_code refused.code cause.StoreFailed cause.OtherTables (omega arith) failed same,
      λ same. other_code refused.code cause.StoreFailed cause.UnsoundRows (omega arith) failed same,
    )

-- such a refusal says nothing of the tables
pub refused_otherwise : (old : Connected) (store : View) (Recovers : Trees → Type 0) (refused : OpenFault)
    → (refused ≡ fault cause.Memory) ⊎ (refused ≡ fault cause.StoreFailed)
    → (IsTrue store.is_open → store.trees ≡ old.committed.trees) → ((trees : Trees) → Recovers trees → old.may_leave trees)
    → RefusedBy old store Recovers refused
refused_otherwise old store Recovers refused is kept crash =
    let (not_tables, not_rows) = cause_elsewhere refused is in
    record {
      kept = kept;
      crash = crash;
      other_tables = λ code. absurd (not_tables code);
      desk = λ content desk. not_tables;
      unsound = λ code. absurd (not_rows code);
      first = λ code. absurd (not_rows code);
      version = λ other. not_rows;
    }

-- what reads show of an open connection leaves what was committed
pub still_committed : (old new : Connected) (trees : Trees) → Stays old new → IsTrue new.is_open → trees ≡ new.committed.trees → trees ≡ old.committed.trees
still_committed old new trees stays here is = is ∙ ap (λ (d : Database). d.trees) (stays.committed here)

-- Reads of a connection with no open transaction, which is still open after them.
module _ (old new : Connected) (settled : IsTrue old.is_open → old.now ≡ old.committed) (live : IsLive old) (stay : Stays old new) (open_then : IsTrue new.is_open) where
  open_first : IsTrue old.is_open
  open_first = stay.was_open open_then

  shown : old.now.trees ≡ old.committed.trees
  shown = ap (λ (d : Database). d.trees) (settled open_first)

  lists : Lists (old.now.trees catalog_tree) old.now.schema
  lists = (live open_first).0.lists

  -- ---- why a database is not adopted

  version_committed : (refused : OpenFault) → SparesOtherVersion old.now.trees refused → SparesOtherVersion old.committed.trees refused
  version_committed refused spares = subst (λ trees. SparesOtherVersion trees refused) shown spares

  module _ (refused : OpenFault) (why : TellsOf old.now refused) where
    unsound_committed : refused.code ≡ code_of cause.UnsoundRows → AreUnsound old.committed.trees
    unsound_committed code = subst AreUnsound shown (why.rows code)

    first_committed : refused.code ≡ code_of cause.UnsoundRows → IsFirstAtFault old.committed.trees refused.table
    first_committed code = subst (λ trees. IsFirstAtFault trees refused.table) shown (why.first code)

    others_committed : refused.code ≡ code_of cause.OtherTables → HasOtherTables old.committed.trees
    others_committed code = elim (why.tables code) [
      | inl other ↦ inl (subst ListsOthers shown (old.now.schema, lists, other))
      | inr version ↦ inr (subst HasOtherVersion shown version)
    ]

    -- the refusal of what was read
    pub refused_for : (store : View) (Recovers : Trees → Type 0) → (IsTrue store.is_open → store.trees ≡ new.committed.trees)
        → ((trees : Trees) → Recovers trees → old.may_leave trees) → SparesOtherVersion old.now.trees refused
        → RefusedBy old store Recovers refused
    refused_for store Recovers shows crash spares = record {
      kept = λ here. still_committed old new store.trees stay open_then (shows here);
      crash = crash;
      other_tables = others_committed;
      desk = λ content desk code. no_other_tables content old.committed.trees desk (others_committed code);
      unsound = unsound_committed;
      first = first_committed;
      version = version_committed refused spares;
    }

-- Reads of a connection with no open transaction, and then a new connection to what it had committed.
module _ (old new last : Connected) (settled : IsTrue old.is_open → old.now ≡ old.committed) (live : IsLive old) (stays : HasCleanDisk new → Stays old new)
    (falls : doubt new.is_clean ≤ doubt last.is_clean) (was_open : HasCleanDisk last → IsTrue new.is_open) (opened : HasCleanDisk last → IsReopened new last)
    (clean : HasCleanDisk last) where
  early : HasCleanDisk new
  early = omega (arith, clean, falls)

  stay : Stays old new
  stay = stays early

  open_then : IsTrue new.is_open
  open_then = was_open clean

  here_first : IsTrue old.is_open
  here_first = stay.was_open open_then

  anew : IsReopened new last
  anew = opened clean

  as_shown : old.now.trees ≡ old.committed.trees
  as_shown = shown old new settled live stay open_then

  same_rows : last.now.trees ≡ old.now.trees
  same_rows = still_committed old new last.now.trees stay open_then anew.rows ∙ sym as_shown

  as_listed : Lists (old.now.trees catalog_tree) old.now.schema
  as_listed = lists old new settled live stay open_then

  same_schema : last.now.schema ≡ old.now.schema
  same_schema = lists_once (old.now.trees catalog_tree) last.now.schema old.now.schema (subst (λ (trees : Trees). Lists (trees catalog_tree) last.now.schema) same_rows anew.lists) as_listed

  -- what was read is what was committed
  pub read_committed : (P : Trees → Type 0) → P old.now.trees → P old.committed.trees
  read_committed P read = subst P as_shown read

  -- the new connection has the content that was read
  pub adopted : (content : State) → old.now.schema ≡ desk_schema → HasRows content old.now.trees → IsKept content last
  adopted content has rows =
      let is = same_schema ∙ has in
      let stands : Stands content last.now = record { schema = is; rows = subst (HasRows content) (sym same_rows) rows; rowids = anew.rowids is } in
      record { stands = λ _. stands; committed = λ _. anew.committed }

  -- what is committed to the new connection is a desk's database of that content
  pub desk_adopted : (content : State) → IsWellFormed content → old.now.schema ≡ desk_schema → HasRows content old.now.trees → (trees : Trees) → trees ≡ last.committed.trees
      → IsDeskOf content trees
  desk_adopted content readable has rows trees is =
      let same : trees ≡ old.now.trees = is ∙ ap (λ (d : Database). d.trees) anew.committed ∙ same_rows in
      let whole : IsDeskDatabase old.now.trees = subst (λ (s : Schema). IsDatabase (record { schema = s; trees = old.now.trees })) has (live here_first).0 in
      record { tables = subst IsDeskDatabase (sym same) whole; rows = (readable, subst (HasRows content) (sym same) rows) }

-- ---- why the store is blamed

-- a store that is broken when it is returned
pub broken_failed : (old : Connected) (v : View) (faults : ℕ) → (IsTrue v.is_open → v.is_broken ≡ false)
    → (IsTrue old.is_open → IsTrue v.is_open ⊎ MoreFaults old.faults faults) → IsTrue v.is_broken → (was : Bool) → old.is_open ≡ was → IsFailed old faults
broken_failed old v faults undone closes broken false is = inl is
broken_failed old v faults undone closes broken true is = elim (closes is) [
  | inl here ↦ absurd (let sound = undone here in let no = sym broken ∙ sound in cc)
  | inr more ↦ inr more
]

-- an opening that fails
pub open_failed : (old : Connected) (counted faults : ℕ) (trees : Trees) (e : Error) (it : OpenFault) → old.faults ≤ counted → (schema : Schema) × IsSound schema trees
    → (e ≡ SqliteFailure code.OutOfMemory → it ≡ fault cause.Memory) → FailsToOpen trees (MoreFaults counted faults) e → it ≡ fault cause.StoreFailed → IsFailed old faults
open_failed old counted faults trees e it low sound memory (inl none) store = absurd (none.1 sound.0 sound.1)
open_failed old counted faults trees e it low sound memory (inr (OutOfMemory, is, h)) store = absurd (not_for_memory it (memory is) store)
open_failed old counted faults trees e it low sound memory (inr (Io, is, h)) store = inr (omega (arith, h, low))
open_failed old counted faults trees e it low sound memory (inr (Corrupt, is, h)) store = inr (omega (arith, h, low))
open_failed old counted faults trees e it low sound memory (inr (Full, is, h)) store = inr (omega (arith, h, low))
open_failed old counted faults trees e it low sound memory (inr (Broken, is, h)) store = absurd h
open_failed old counted faults trees e it low sound memory (inr (Unstorable, is, h)) store = absurd h

-- reads, and then a call that failed
pub failed_then : (old new : Connected) (faults : ℕ) (P : Trees → Type 0) → Survives old new P → HasCleanDisk new → new.faults ≤ faults → IsFailed new faults
    → (was : Bool) → old.is_open ≡ was → IsFailed old faults
failed_then old new faults P survives clean low failed false is = inl is
failed_then old new faults P survives clean low (inr more) true is = inr (omega (arith, more, survives.counts))
failed_then old new faults P survives clean low (inl shut) true is = elim (survives.closes clean is) [
  | inl here ↦ absurd (let no = sym here ∙ shut in cc)
  | inr more ↦ inr (omega (arith, more, low))
]

-- reads that failed
pub blamed_by : (old new : Connected) (faults : ℕ) → new.faults ≤ faults → HasCause old new → IsBlamed old faults
blamed_by old new faults low (inl shut) = inr (inl (inl shut))
blamed_by old new faults low (inr (inl more)) = inr (inl (inr (omega (arith, more, low))))
blamed_by old new faults low (inr (inr limited)) = inr (inr limited)

-- the tables that are refused, or the store if it has failed since
abbrev pub IsGivenBack : Connected → View → ℕ → OpenFault → OpenFault → Type 0
IsGivenBack new v faults refused told =
    ((told ≡ refused) × (IsClean v → IsTrue new.is_open)) ⊎ ((told ≡ fault cause.StoreFailed) × (IsClean v → IsFailed new faults))

pub given_refusal : (new : Connected) (v : View) (faults : ℕ) (refused told : OpenFault) → IsRefusal refused → IsGivenBack new v faults refused told → IsRefusal told
given_refusal new v faults refused told is (inl same) = subst IsRefusal (sym same.0) is
given_refusal new v faults refused told is (inr store) = inr (inl store.0)

pub given_caused : (old new : Connected) (v : View) (faults : ℕ) (refused told : OpenFault) → Survives old new (λ _. ⊥) → HasCleanDisk new → new.faults ≤ faults
    → (refused ≡ fault cause.StoreFailed → HasCause old new) → IsGivenBack new v faults refused told → told ≡ fault cause.StoreFailed → IsClean v → IsBlamed old faults
given_caused old new v faults refused told survives soon low caused (inl same) store clean = blamed_by old new faults low (caused (sym same.0 ∙ store))
given_caused old new v faults refused told survives soon low caused (inr failed) store clean =
    inr (inl (failed_then old new faults (λ _. ⊥) survives soon low (failed.1 clean) old.is_open refl))

pub given_why : (old new : Connected) (settled : IsTrue old.is_open → old.now ≡ old.committed) (live : IsLive old) (stay : Stays old new) (v : View) (faults : ℕ) (refused told : OpenFault)
    → (IsTrue v.is_open → IsTrue new.is_open) → (IsTrue v.is_open → v.trees ≡ new.committed.trees) → (Recovers : Trees → Type 0) → ((trees : Trees) → Recovers trees → old.may_leave trees)
    → TellsOf old.now refused → SparesOtherVersion old.now.trees refused → IsClean v → IsGivenBack new v faults refused told → RefusedBy old v Recovers told
given_why old new settled live stay v faults refused told was_open shows Recovers crash why spares clean (inl same) =
    subst (RefusedBy old v Recovers) (sym same.0) (refused_for old new settled live stay (same.1 clean) refused why v Recovers shows crash spares)
given_why old new settled live stay v faults refused told was_open shows Recovers crash why spares clean (inr store) =
    refused_otherwise old v Recovers told (inr store.0) (λ here. still_committed old new v.trees stay (was_open here) (shows here)) crash

pub is_in_transaction : (inside free : Bool) → free ≡ not inside → free ≡ false → IsTrue inside
is_in_transaction true free is closed = refl
is_in_transaction false free is closed = absurd (let lie = sym is ∙ closed in cc)
