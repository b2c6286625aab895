-- The state of a keeper over tables, its invariant, and the results of its reads.
use Rattle.std.specs.Prelude.{◌≡◌, ◌≤◌, ◌&&◌, ℕ, Result, Ok, Err, false, length, refl}
use Rattle.std.specs.Coded.{Coded, code_by, coded×, coded_ℕ}
use Rattle.pt_desk_store.specs.Store.{Store}
use Rattle.pt_desk_store.specs.declared.keeper.StoreFault.{StoreFault}
use Rattle.pt_desk_store.specs.declared.keeper.StoreFault.TheVariants as fault
use Rattle.pt_desk_rules.specs.State.{State}
use Rattle.sqlite.specs.Held.{Held, held_code, state}
use Rattle.sqlite.specs.State.{State as Connected, HasCleanDisk}
use Rattle.sqlite.specs.Store.{Ghosts}
use Rattle.sqlite.specs.View.{doubt}
use Rattle.pt_base_records.specs.Records.{Each}
use Rattle.pt_tables_asking.specs.Asking.{HasCause}
use Rattle.pt_tables_asking.specs.Plans.{HasVersionAmong}
use Rattle.pt_tables_rows.specs.Tables.{IsWellFormed, IsKept}
use Rattle.pt_tables_asking.specs.declared.asking.Unread.{Unread}
use Rattle.pt_tables_asking.specs.declared.asking.Unread.TheVariants.{Memory, Store as failed, Row}
use Rattle.pt_tables_keeper.specs.Coding.{state_code}
use Rattle.pt_tables_writing.specs.Committing.{LeavesDesk, MayFind}

-- a connection, whether the store has failed, whether it was given a change that cannot be written, and the content of
-- its tables
pub record KeptTables (S : Type 0) : Type 0 where
  pub conn : Held S
  pub failures : ℕ
  pub unfit : ℕ
  pub content : State

abbrev pub kept_tables_code : {S : Type 0} → Coded S → Coded (KeptTables S)
kept_tables_code {S} store =
    code_by (Held S × (ℕ × (ℕ × State))) (coded× (held_code store) (coded× coded_ℕ (coded× coded_ℕ state_code)))
    (λ k. (k.conn, (k.failures, (k.unfit, k.content))))
    (λ p. record { conn = p.0; failures = p.1.0; unfit = p.1.1.0; content = p.1.1.1 }) (λ _. refl)

-- The content can be read back from its rows, the vehicle of each plan is there, and no transaction is open. A crash
-- leaves a desk's database. Until the store fails, the tables have the content, and `riders` is the number of its
-- riders.
pub record AreInStep (content : State) (riders failures : ℕ) (s : Connected) : Type 0 where
  pub most : failures ≤ 1
  pub settled : s.in_transaction ≡ false
  pub readable : IsWellFormed content
  pub carried : Each (HasVersionAmong content.vehicles) content.planned
  pub leaves : LeavesDesk s
  pub kept : failures ≡ 0 → HasCleanDisk s → IsKept content s
  pub counted : failures ≡ 0 → HasCleanDisk s → riders ≡ length content.riders

-- 0 while the disk is clean and the connection is open
abbrev pub shut : Connected → ℕ
shut s = doubt (s.is_clean && s.is_open)

-- all that contracts say of a store with this content in the tables of this connection
abbrev pub kept_store : Connected → State → ℕ → ℕ → Store
kept_store s content failures unfit = record {
  content = content;
  doubt = doubt s.is_clean;
  shut = shut s;
  failures = failures;
  unfit = unfit;
  found = MayFind s;
}

abbrev pub store_of : {S : Type 0} → Ghosts S → KeptTables S → Store
store_of g k = kept_store (state g k.conn) k.content k.failures k.unfit

-- a read of a store that had not failed says that it fails only with a cause, if the disk stayed clean
abbrev pub IsCaused : {S X : Type 0} → Ghosts S → KeptTables S → KeptTables S → Result X StoreFault → Type 0
IsCaused g old new result =
    old.failures ≡ 0 → HasCleanDisk (state g new.conn) → result ≡ Err fault.Store
    → HasCause (state g old.conn) (state g new.conn)

-- the reply to a read with this result, and the count of failures after it
abbrev pub Counts : {X : Type 0} → ℕ → Result X Unread → Result X StoreFault → Type 0
Counts failures (Ok x) result = (result ≡ Ok x) × (failures ≡ 0)
Counts failures (Err Memory) result = (result ≡ Err fault.Memory) × (failures ≡ 0)
Counts failures (Err failed) result = (result ≡ Err fault.Store) × (failures ≡ 1)
Counts failures (Err Row) result = (result ≡ Err fault.Store) × (failures ≡ 1)
