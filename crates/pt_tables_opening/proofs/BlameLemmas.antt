-- Why reads of the tables blame the store.
use Rattle.std.proofs.Common.{◌≡◌, ◌⊎◌, inl, inr, ℕ, List, [], Result, Ok, Err, IfErr, Vec, ap, arith}
use Rattle.std.specs.declared.alloc.Global.{Global}
use Rattle.sqlite.specs.Order.{Row}
use Rattle.sqlite.specs.Schema.{Schema}
use Rattle.sqlite.specs.State.{State as Connected, FailsToQuery, HasCleanDisk, Survives}
use Rattle.sqlite.specs.Tree.{Trees}
use Rattle.sqlite.specs.declared.error.Error.{Error}
use Rattle.sqlite.specs.declared.error.Error.TheVariants.{SqliteFailure}
use Rattle.sqlite.specs.declared.error.ErrorCode.TheVariants as code
use Rattle.pt_base_values.specs.declared.fault.Cause.TheVariants as cause
use Rattle.pt_tables_asking.specs.Asking.{HasCause}
use Rattle.pt_tables_asking.specs.declared.asking.Unread.TheVariants.{Store as failed}
use Rattle.pt_tables_asking.proofs.CauseLemmas.{excused_after, query_caused}
use Rattle.pt_tables_opening.specs.Faults.{fault, unsound}
use Rattle.pt_tables_opening.specs.Opening.{IsBlamed, IsCaused, IsCausedOn, IsServedQuery}
use Rattle.pt_tables_opening.specs.declared.open_fault.OpenFault.{OpenFault}

-- ---- one query

pub queried_blamed : (schema : Schema) (text : List ℕ) → IsServedQuery schema text → (old new : Connected) → old.now.schema ≡ schema
    → (r : Result (Vec Row Global) Error) → IfErr r (FailsToQuery text [] old new) → IfErr r (IsBlamed old new)
queried_blamed schema text query old new has (Ok rows) h = tt
queried_blamed schema text query old new has (Err e) h = query_caused schema text [] query.plain query.unlisted query.served old new has e h

-- ---- faults

abbrev code_in : OpenFault → ℕ
code_in it = it.code

-- a fault with another code does not blame the store
pub not_for_memory : (it : OpenFault) → it ≡ fault cause.Memory → it ≡ fault cause.StoreFailed → ⊥
not_for_memory it is store = let one : it.code ≡ 0 = ap code_in is in let two : it.code ≡ 32 = ap code_in store in omega arith

pub not_for_tables : (it : OpenFault) → it ≡ fault cause.OtherTables → it ≡ fault cause.StoreFailed → ⊥
not_for_tables it is store = let one : it.code ≡ 30 = ap code_in is in let two : it.code ≡ 32 = ap code_in store in omega arith

pub not_for_rows : (it : OpenFault) (number : ℕ) → it ≡ unsound number → it ≡ fault cause.StoreFailed → ⊥
not_for_rows it number is store = let one : it.code ≡ 31 = ap code_in is in let two : it.code ≡ 32 = ap code_in store in omega arith

-- the fault of an error that has a cause
pub error_caused : (old new : Connected) (e : Error) (it : OpenFault) → (e ≡ SqliteFailure code.OutOfMemory → it ≡ fault cause.Memory) → IsBlamed old new e
    → it ≡ fault cause.StoreFailed → HasCause old new
error_caused old new e it memory (inl out) store = absurd (not_for_memory it (memory out) store)
error_caused old new e it memory (inr has) store = has

-- ---- results

-- rows that were read are not blamed on the store
pub rows_caused : {X : Type 0} (P : Type 0) (old new : Connected) (number : ℕ) (r : Result X OpenFault) → IfErr r (λ refused. (refused ≡ fault cause.Memory) ⊎ ((refused ≡ unsound number) × P))
    → IfErr r (IsCaused old new)
rows_caused P old new number (Ok x) h = tt
rows_caused P old new number (Err it) (inl memory) = λ clean has store. absurd (not_for_memory it memory store)
rows_caused P old new number (Err it) (inr rows) = λ clean has store. absurd (not_for_rows it number rows.0 store)

pub agency_caused : {X : Type 0} (P Q : Type 0) (old new : Connected) (r : Result X OpenFault)
    → IfErr r (λ refused. ((refused ≡ fault cause.OtherTables) × P) ⊎ ((refused ≡ unsound 1) × Q)) → IfErr r (IsCaused old new)
agency_caused P Q old new (Ok x) h = tt
agency_caused P Q old new (Err it) (inl tables) = λ clean has store. absurd (not_for_tables it tables.0 store)
agency_caused P Q old new (Err it) (inr rows) = λ clean has store. absurd (not_for_rows it 1 rows.0 store)

pub memory_caused : {X : Type 0} (old new : Connected) (r : Result X OpenFault) → IfErr r (λ refused. refused ≡ fault cause.Memory) → IfErr r (IsCaused old new)
memory_caused old new (Ok x) h = tt
memory_caused old new (Err it) h = λ clean has store. absurd (not_for_memory it h store)

-- ---- one after the other

-- what failed in later reads is the cause of all
pub caused_after : (old mid new : Connected) (P Q : Trees → Type 0) → Survives old mid P → HasCleanDisk mid → Survives mid new Q → HasCause mid new → HasCause old new
caused_after old mid new P Q first clean next h = excused_after old mid new P Q failed first clean next h

pub caused_so : {X : Type 0} (schema : Schema) (old new : Connected) (r : Result X OpenFault) → IfErr r (IsCausedOn schema old new) → HasCleanDisk new → old.now.schema ≡ schema
    → IfErr r (λ refused. refused ≡ fault cause.StoreFailed → HasCause old new)
caused_so schema old new (Ok x) h clean has = tt
caused_so schema old new (Err it) h clean has = λ store. h clean has store
