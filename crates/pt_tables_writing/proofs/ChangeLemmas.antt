-- What functions of a transaction write, alone or one after the other.
use Rattle.std.proofs.Common.{◌≡◌, ◌∙◌, ℕ, true, IsTrue, OnOk, Result, Ok, Err, List, [], ◌++◌, refl, sym, subst, arith}
use Rattle.sqlite.specs.declared.error.Error.{Error}
use Rattle.sqlite.specs.declared.transaction.Transaction.{Transaction}
use Rattle.sqlite.specs.Effect.{Database}
use Rattle.sqlite.specs.Held.{state}
use Rattle.sqlite.specs.Order.{Row}
use Rattle.sqlite.specs.State.{State as Connected, HasCleanDisk, Shows, Survives}
use Rattle.sqlite.specs.Store.{Ghosts}
use Rattle.sqlite.specs.Table.{Table}
use Rattle.sqlite.proofs.StateLemmas.{survives_then}
use Rattle.pt_tables_rows.specs.Schema.{desk_schema}
use Rattle.pt_tables_rows.specs.Tables.{ChangesIfOk}
use Rattle.pt_tables_writing.specs.Grouped.{Adds}
use Rattle.pt_tables_writing.specs.Groups.{Then}
use Rattle.pt_tables_writing.specs.Step.{Writes}
use Rattle.pt_tables_writing.specs.Writes.{Puts, Takes}
use Rattle.pt_tables_rows.proofs.PartLemmas.{on_ok}
use Rattle.pt_tables_rows.proofs.StateLemmas.{keeps_self, keeps_shown, keeps_then, survives_self}
use Rattle.pt_tables_writing.proofs.RecordRows.{adds-then, puts-after}

both_do : {X Y : Type 0} (a b c : Connected) (F G H : Database → Database → Type 0) (x : X) (r : Result Y Error)
    → (a.now.schema ≡ desk_schema → F a.now b.now → (b.now.schema ≡ desk_schema → G b.now c.now) → H a.now c.now)
    → ChangesIfOk a b F (Ok x) → ChangesIfOk b c G r → ChangesIfOk a c H r
both_do a b c F G H x (Ok y) join first next =
    (keeps_then a b c first.0 next.0, next.1, λ has. join has (first.2 has) next.2)
both_do a b c F G H x (Err e) join first next = keeps_then a b c first.0 next

as_ok : {X : Type 0} (a b : Connected) (F G : Database → Database → Type 0) (r : Result X Error)
    → (F a.now b.now → G a.now b.now) → ChangesIfOk a b F r → ChangesIfOk a b G r
as_ok a b F G (Ok x) is done = (done.0, done.1, λ has. is (done.2 has))
as_ok a b F G (Err e) is done = done

-- once the rows that are left are added, all these rows are
abbrev pub AddsBut : Table → List Row → List Row → Database → Database → Type 0
AddsBut table left all old new =
    (new.schema ≡ desk_schema) × ((last : Database) → Adds table left new last → Adds table all old last)

module _ {S : Type 0} {g : Ghosts S} where
  -- a statement that runs writes what follows from its run
  pub did_run : {Run Rest : Type 0} {old new : Transaction S} {Made : Database → Database → Type 0}
      → new.conn.ghost_name ≡ old.conn.ghost_name
      → (HasCleanDisk (state g new.conn.now) → IsTrue (state g old.conn.now).in_transaction → Run
      × Shows (state g old.conn.now) (state g new.conn.now) (state g new.conn.now).now (state g old.conn.now).committed
      true × Rest)
      → Survives (state g old.conn.now) (state g new.conn.now) (λ _. ⊥)
      → (Run → (state g old.conn.now).now.schema ≡ desk_schema
      → Made (state g old.conn.now).now (state g new.conn.now).now)
      → Writes {X = Unit {0}} g old new Made (Ok tt)
  did_run {old} {new} same ran survives makes = record {
    same_reference = same;
    written = λ clean inside.
        let all = ran clean inside in
        (keeps_shown (state g old.conn.now) (state g new.conn.now) all.1, all.1.mode, makes all.0);
    survives = survives;
  }

  -- nothing is done
  pub did_nothing : {tx : Transaction S} {F : Database → Database → Type 0}
      → ((state g tx.conn.now).now.schema ≡ desk_schema → F (state g tx.conn.now).now (state g tx.conn.now).now)
      → Writes {X = Unit {0}} g tx tx F (Ok tt)
  did_nothing {tx} made = record {
    same_reference = refl;
    written = λ clean inside. (keeps_self (state g tx.conn.now), inside, made);
    survives = survives_self (state g tx.conn.now);
  }

  -- if a change implies another description, that is written too
  pub did_as : {X : Type 0} {a b : Transaction S} {F G : Database → Database → Type 0} {r : Result X Error}
      → Writes g a b F r
      → (F (state g a.conn.now).now (state g b.conn.now).now → G (state g a.conn.now).now (state g b.conn.now).now)
      → Writes g a b G r
  did_as {a} {b} {F} {G} {r} step is = record {
    same_reference = step.same_reference;
    written = λ clean inside. as_ok (state g a.conn.now) (state g b.conn.now) F G r is (step.written clean inside);
    survives = step.survives;
  }

  -- the same of an equal value
  pub did_at : {X A : Type 0} {a b : Transaction S} {r : Result X Error} (F : A → Database → Database → Type 0)
      {x y : A} → x ≡ y → Writes g a b (F x) r → Writes g a b (F y) r
  did_at {a} {b} {r} F is step = subst (λ x. Writes g a b (F x) r) is step

  -- the one function, and then the other
  pub did_then : {X Y : Type 0} {a b c : Transaction S} {F G H : Database → Database → Type 0} {x : X}
      {r : Result Y Error} → Writes g a b F (Ok x) → Writes g b c G r
      → ((state g a.conn.now).now.schema ≡ desk_schema → F (state g a.conn.now).now (state g b.conn.now).now
      → ((state g b.conn.now).now.schema ≡ desk_schema → G (state g b.conn.now).now (state g c.conn.now).now)
      → H (state g a.conn.now).now (state g c.conn.now).now)
      → Writes g a c H r
  did_then {a} {b} {c} {F} {G} {H} {x} {r} first next join =
      let s1 = state g a.conn.now in
      let s2 = state g b.conn.now in
      let s3 = state g c.conn.now in
      record {
        same_reference = next.same_reference ∙ first.same_reference;
        written = λ clean inside.
            let early : HasCleanDisk s2 = omega (arith, next.survives.clean) in
            let before = first.written early inside in
            both_do s1 s2 s3 F G H x r join before (next.written clean before.1);
        survives = survives_then s1 s2 s3 (λ _. ⊥) (λ _. ⊥) (λ _. ⊥) (λ _ db none. none) (λ _ db none. none)
            first.survives next.survives;
      }

  -- the same with `Then` as the result, so for any number of functions
  pub did_next : {X Y : Type 0} {a b c : Transaction S} {F G : Database → Database → Type 0} {x : X}
      {r : Result Y Error} → Writes g a b F (Ok x) → Writes g b c G r → Writes g a c (Then F G) r
  did_next {b} first next = did_then first next (λ has one more. ((state g b.conn.now).now, one, more))

  -- the connection was open, if the second of two functions found it open
  pub open_then : {X Y : Type 0} {a b c : Transaction S} {F G : Database → Database → Type 0} {x : X}
      {r : Result Y Error} → Writes g a b F (Ok x) → Writes g b c G r
      → (HasCleanDisk (state g c.conn.now) → IsTrue (state g b.conn.now).in_transaction
      → OnOk r (IsTrue (state g b.conn.now).is_open))
      → HasCleanDisk (state g c.conn.now) → IsTrue (state g a.conn.now).in_transaction
      → OnOk r (IsTrue (state g a.conn.now).is_open)
  open_then {a} {b} {c} {r} first next opened clean inside =
      let s1 = state g a.conn.now in
      let s2 = state g b.conn.now in
      let early : HasCleanDisk s2 = omega (arith, next.survives.clean) in
      let before = first.written early inside in
      on_ok r (IsTrue s2.is_open) (IsTrue s1.is_open) (λ here. before.0.was_open here) (opened clean before.1)

  -- a record is removed, and its rows are added
  pub did_put : {A X Y : Type 0} {a b c : Transaction S} {x : X} {r : Result Y Error} (table : Table) (key : A → ℕ)
      (Fits : A → Type 0) (rows : A → List Row) (new : A)
      → Writes g a b (Takes table key Fits rows new) (Ok x) → Writes g b c (Adds table (rows new)) r
      → Writes g a c (Puts table key Fits rows new) r
  did_put {a} {b} {c} table key Fits rows new first next =
      did_then first next (λ has took add. puts-after key rows table Fits new (state g a.conn.now).now
      (state g b.conn.now).now (state g c.conn.now).now took (add (took [] tt tt).schema))

  -- rows are added after others
  pub did_added : {X Y : Type 0} {a b c : Transaction S} {x : X} {r : Result Y Error} (table : Table)
      (first second : List Row) → Writes g a b (Adds table first) (Ok x) → Writes g b c (Adds table second) r
      → Writes g a c (Adds table (first ++ second)) r
  did_added {a} {b} {c} table first second one next =
      did_then one next (λ has added more. adds-then table first second (state g a.conn.now).now
      (state g b.conn.now).now (state g c.conn.now).now added (more (added []).schema))

  -- some of the rows that are left are added
  pub did_fewer : {X Y : Type 0} {a b c : Transaction S} {x : X} {r : Result Y Error} (table : Table)
      (left some later all : List Row)
      → left ≡ some ++ later → Writes g a b (AddsBut table left all) (Ok x) → Writes g b c (Adds table some) r
      → Writes g a c (AddsBut table later all) r
  did_fewer {b} {c} table left some later all is one next =
      did_then one next (λ has but more.
      let now = (state g b.conn.now).now in
      let end = (state g c.conn.now).now in
      let added = more but.0 in (
        (added []).schema,
        λ last rest. but.1 last
            (subst (λ rows. Adds table rows now last) (sym is) (adds-then table some later now end last added rest)),
      ))

  -- all the rows that are left are added
  pub did_rest : {X Y : Type 0} {a b c : Transaction S} {x : X} {r : Result Y Error} (table : Table)
      (left all : List Row) → Writes g a b (AddsBut table left all) (Ok x) → Writes g b c (Adds table left) r
      → Writes g a c (Adds table all) r
  did_rest {c} table left all one next =
      did_then one next (λ has but more. but.1 (state g c.conn.now).now (more but.0))
