-- The tables of a new desk, what a crash during their creation leaves, and what an opening after it finds.
use Rattle.std.proofs.Common.{◌≡◌, inl, inr, ℕ, List, IsTrue, false, refl, sym, ap, subst, ◌∙◌, true, arith}
use Rattle.sqlite.specs.Effect.{Database, IsDatabase}
use Rattle.sqlite.specs.Tree.{Trees}
use Rattle.sqlite.specs.State.{State as Connected, Survives, KeepsCommit, HasCleanDisk, Shows}
use Rattle.sqlite.proofs.StateLemmas.{survives_weaker, survives_then}
use Rattle.sqlite.specs.Store.{Ghosts}
use Rattle.sqlite.specs.Held.{Held, state}
use Rattle.sqlite.specs.Schema.{Schema}
use Rattle.sqlite.proofs.Callers.{survives_begin}
use Rattle.pt_desk_requests.specs.Sha256.{sha256}
use Rattle.pt_base_values.specs.declared.policy.Policy.{Policy}
use Rattle.pt_desk_store.specs.LeastState.{IsLeastPolicy, IsLeastState}
use Rattle.pt_tables_keeper.specs.State.{State}
use Rattle.pt_tables_writing.specs.Least.{IsNew, IsAsBefore, IsDeskDatabase, IsInUse, IsUndone, IsNewDesk, IsLeastDesk, first_admin}
use Rattle.pt_tables_rows.specs.Rows.{desk_row, caller_row}
use Rattle.pt_tables_rows.specs.Schema.{no_schema, desk_schema, desk_table, callers_table}
use Rattle.pt_tables_rows.specs.Tables.{HasRows, IsKept, IsBlank, IsWellFormed, Fills, Stands}
use Rattle.pt_tables_writing.specs.Committing.{IsDeskOf}
use Rattle.pt_tables_rows.proofs.CreateLemmas.{stands_new}

-- ---- the least state is new

same_row : (p q : Policy) → IsLeastPolicy p → IsLeastPolicy q → desk_row p 0 ≡ desk_row q 0
same_row p q a b = rw (
  a.base,
  a.transfer,
  a.fare,
  a.service,
  a.extra_ride,
  a.min_missed,
  a.percent,
  a.span_days,
  b.base,
  b.transfer,
  b.fare,
  b.service,
  b.extra_ride,
  b.min_missed,
  b.percent,
  b.span_days,
) refl

pub least_is_new : (key : List ℕ) (s content : State) → IsLeastState key s → IsLeastState key content → IsNew s.policy (sha256 key) content
least_is_new key s content least is = record {
  desk = same_row content.policy s.policy is.policy least.policy;
  whole = is.content;
}

pub survives_least : (key : List ℕ) (s : State) (old new : Connected) → IsLeastState key s → Survives old new (IsNewDesk s.policy (sha256 key)) → Survives old new (IsLeastDesk key)
survives_least key s old new least =
    survives_weaker old new (IsNewDesk s.policy (sha256 key)) (IsLeastDesk key)
    (λ _ db desk. record { tables = desk.tables; rows = λ content is. desk.rows content (least_is_new key s content least is) })

pub as_before : (old new : Connected) → (IsTrue old.is_open → old.now ≡ old.committed) → IsUndone old new → IsAsBefore old new
as_before old new settled undone = record {
  now = λ here. undone.now here ∙ sym (settled (undone.was_open here));
  committed = undone.committed;
}

pub untouched : (s : Connected) → IsAsBefore s s
untouched s = record { now = λ _. refl; committed = λ _. refl }

-- what is committed has the rows of the least state
pub committed_least : (key : List ℕ) (s : State) (new : Connected) (db : Trees) → IsLeastState key s → IsTrue new.is_open → IsDeskDatabase new.committed.trees
    → ((any : State) → IsNew s.policy (sha256 key) any → IsKept any new) → db ≡ new.committed.trees → IsLeastDesk key db
committed_least key s new db least here tables made same = record {
  tables = subst IsDeskDatabase (sym same) tables;
  rows = λ content is.
      let kept = made content (least_is_new key s content least is) in
      subst (HasRows content) (sym (same ∙ ap (λ (d : Database). d.trees) (kept.committed here))) (kept.stands here).rows;
}

-- a desk's database of the least state
pub least_left : (key : List ℕ) (s : State) (new : Connected) (db : Trees) → IsLeastState key s → IsWellFormed s → IsTrue new.is_open → IsDeskDatabase new.committed.trees
    → ((any : State) → IsNew s.policy (sha256 key) any → IsKept any new) → db ≡ new.committed.trees → (content : State) × IsDeskOf content db
least_left key s new db least readable here tables made same =
    let desk = committed_least key s new db least here tables made same in
    (s, record { tables = desk.tables; rows = (readable, desk.rows s least) })

pub least_kept : (key : List ℕ) (s : State) (new : Connected) → IsLeastState key s → ((any : State) → IsNew s.policy (sha256 key) any → IsKept any new) → IsKept s new
least_kept key s new least made = made s (least_is_new key s s least least)

pub never_in_use : (s : Connected) → s.in_transaction ≡ false → s.now.schema ≡ no_schema → IsInUse s → ⊥
never_in_use s alone blank (inl inside) = absurd (let none = subst IsTrue alone inside in cc)
never_in_use s alone blank (inr used) = used blank

-- ---- the tables of a new desk

module _ {S : Type 0} (g : Ghosts S) (old begun one two three : Held S) (policy : Policy) (digest : List ℕ) (is : begun ≡ record old { in_transaction = true }) (blank : old.schema ≡ no_schema)
    (made_survives : Survives (state g begun) (state g one) (λ _. ⊥)) (desk_survives : Survives (state g one) (state g two) (λ _. ⊥)) (admin_survives : Survives (state g two) (state g three) (λ _. ⊥))
    (made : HasCleanDisk (state g one) → IsTrue begun.in_transaction
    → KeepsCommit (state g begun) (state g one) × IsTrue one.in_transaction × ((state g begun).now.schema ≡ no_schema → IsBlank (state g one).now))
    (desk : HasCleanDisk (state g two) → IsTrue one.in_transaction
    → KeepsCommit (state g one) (state g two) × IsTrue two.in_transaction × ((state g one).now.schema ≡ desk_schema → Fills desk_table (desk_row policy 0) (state g one).now (state g two).now))
    (admin : HasCleanDisk (state g three) → IsTrue two.in_transaction
    → KeepsCommit (state g two) (state g three) × IsTrue three.in_transaction
    × ((state g two).now.schema ≡ desk_schema → Fills callers_table (caller_row (first_admin digest)) (state g two).now (state g three).now))
    (sound : HasCleanDisk (state g three) → IsTrue two.in_transaction → (state g two).now.schema ≡ desk_schema → IsDatabase (state g three).now) where
  record Filled : Type 0 where
    empty : IsBlank (state g one).now
    desked : Fills desk_table (desk_row policy 0) (state g one).now (state g two).now
    done : Fills callers_table (caller_row (first_admin digest)) (state g two).now (state g three).now
    is_database : IsDatabase (state g three).now

  filled : HasCleanDisk (state g three) → Filled
  filled clean =
      let clean_two : HasCleanDisk (state g two) = omega (arith, clean, admin_survives.clean) in
      let clean_one : HasCleanDisk (state g one) = omega (arith, clean_two, desk_survives.clean) in
      let inside : IsTrue begun.in_transaction = subst (λ (h : Held S). IsTrue h.in_transaction) (sym is) refl in
      let first = made clean_one inside in
      let second = desk clean_two first.1 in
      let third = admin clean second.1 in
      let none : (state g begun).now.schema ≡ no_schema = ap (λ (h : Held S). h.schema) is ∙ blank in
      let empty = first.2 none in
      let desked = second.2 empty.schema in
      record { empty = empty; desked = desked; done = third.2 desked.schema; is_database = sound clean second.1 desked.schema }

  stand : HasCleanDisk (state g three) → (content : State) → IsNew policy digest content → Stands content (state g three).now
  stand clean content new =
      let it = filled clean in
      stands_new policy (first_admin digest) (state g one).now (state g two).now (state g three).now it.empty it.desked it.done content new.desk new.whole

  desk_there : HasCleanDisk (state g three) → IsDeskDatabase (state g three).now.trees
  desk_there clean =
      let it = filled clean in
      subst (λ (s : Schema). IsDatabase (record { schema = s; trees = (state g three).now.trees })) it.done.schema it.is_database

  -- once it is committed
  pub kept : (end : Connected) → HasCleanDisk (state g three)
      → Shows (state g three) end (state g three).now (state g three).now false → (content : State)
      → IsNew policy digest content → IsKept content end
  kept end clean shows content new = record {
    stands = λ here. subst (Stands content) (sym shows.now_is) (stand clean content new);
    committed = λ here. shows.committed_is ∙ sym shows.now_is;
  }

  pub tables_kept : (end : Connected) → HasCleanDisk (state g three) → Shows (state g three) end (state g three).now (state g three).now false → IsDeskDatabase end.committed.trees
  tables_kept end clean shows = subst (λ (d : Database). IsDeskDatabase d.trees) (sym shows.committed_is) (desk_there clean)

  -- a crash leaves what was there before, or these rows
  pub survive : (end : Connected) → Survives (state g three) end (λ db. db ≡ (state g three).now.trees) → Survives (state g old) end (IsNewDesk policy digest)
  survive end last =
      let inside = survives_then (state g begun) (state g one) (state g two) (λ _. ⊥) (λ _. ⊥) (λ _. ⊥) (λ _ db nothing. nothing) (λ _ db nothing. nothing) made_survives desk_survives in
      let all = survives_then (state g begun) (state g two) (state g three) (λ _. ⊥) (λ _. ⊥) (λ _. ⊥) (λ _ db nothing. nothing) (λ _ db nothing. nothing) inside admin_survives in
      let from = survives_begin g old (state g three) (λ _. ⊥) (subst (λ h. Survives (state g h) (state g three) (λ _. ⊥)) is all) in
      survives_then (state g old) (state g three) end (λ _. ⊥) (λ db. db ≡ (state g three).now.trees) (IsNewDesk policy digest) (λ _ db nothing. absurd nothing)
      (λ clean db same.
      let early : HasCleanDisk (state g three) = omega (arith, clean, last.clean) in
      record {
        tables = subst IsDeskDatabase (sym same) (desk_there early);
        rows = λ content new. subst (HasRows content) (sym same) (stand early content new).rows;
      }) from last
