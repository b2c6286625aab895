-- Reads of the tables one after the other, each checked before the next.
use Rattle.std.proofs.Common.{◌≡◌, ◌-◌, ◌<◌, ◌⊎◌, ◌∙◌, inl, inr, ℕ, zero, suc, List, take, Result, Ok, Err, IfOk, IfErr, IsErr, IsErrAnd, sym, ap, subst, arith}
use Rattle.sqlite.specs.Effect.{Database}
use Rattle.sqlite.specs.State.{State as Connected, HasCleanDisk}
use Rattle.sqlite.specs.Tree.{Trees}
use Rattle.pt_base_values.specs.Fault.{code_of}
use Rattle.pt_base_values.specs.declared.fault.Cause.TheVariants as cause
use Rattle.pt_desk_store.specs.Listed.{Listed}
use Rattle.pt_desk_rules.specs.Sound.{IsSound}
use Rattle.pt_desk_rules.specs.State.{State, applied}
use Rattle.pt_desk_rules.specs.declared.change.Change.{Change}
use Rattle.pt_base_records.specs.Records.{Each}
use Rattle.pt_base_records.proofs.OrderLemmas.{Each-both}
use Rattle.pt_desk_rules.specs.TableNames.{all_tables, number_of, table_count}
use Rattle.pt_tables_soundness.specs.Tables.{IsSoundIn}
use Rattle.pt_desk_rules.specs.declared.table_name.TableName.{TableName}
use Rattle.pt_desk_rules.specs.declared.table_name.TableName.TheVariants as table
use Rattle.pt_tables_soundness.proofs.TableLemmas.{each_table, sound_in, sound_of}
use Rattle.pt_tables_opening.specs.Faults.{IsRefusal, fault, unsound}
use Rattle.pt_tables_opening.specs.Opening.{IsCaused, Rests}
use Rattle.pt_tables_opening.specs.Refused.{AreUnsound, SparesOtherVersion, TellsWhy}
use Rattle.pt_tables_opening.specs.Standing.{IsFirstAtFault, NoneStandsTo, StandsIn}
use Rattle.pt_tables_opening.specs.Steps.{HasRowsTo, IsFaultOf, IsReadTo, OpensTable, OpensTo, ReadsTable}
use Rattle.pt_tables_opening.specs.Tables.{IsLaidIn}
use Rattle.pt_tables_rows.specs.Tables.{HasRowsIn}
use Rattle.pt_tables_opening.specs.Agency.{HasOtherVersion}
use Rattle.pt_tables_opening.specs.declared.open_fault.OpenFault.{OpenFault}
use Rattle.pt_tables_opening.proofs.AgencyLemmas.{spares_none}
use Rattle.pt_tables_opening.proofs.BlameLemmas.{caused_after, rows_caused}
use Rattle.pt_tables_opening.proofs.RestLemmas.{refused, rests_so, rests_then}
use Rattle.pt_tables_opening.proofs.TableCases.{and_in, each_laid, last_table, no_answer, passed_on, sound_there}
use Rattle.pt_tables_rows.specs.Schema.{desk_schema}

-- ---- the tables in their order

-- the agency's table is the first
agency_first : (P : TableName → Type 0) (n : ℕ) → 0 < n → Each P (take n all_tables) → P table.Desk
agency_first P zero some each = absurd (omega arith)
agency_first P (suc n) some each = each.0

all_stand : (s : State) (trees : Trees) (ts : List TableName) → Each (IsSoundIn s) ts → Each (HasRowsIn s trees) ts → Each (StandsIn s trees) ts
all_stand s trees = Each-both (IsSoundIn s) (HasRowsIn s trees) (StandsIn s trees) (λ t sound rows. record { rows = rows; sound = sound })

-- if no content has the rows, no sound state has them
none_sound : (n : ℕ) (trees : Trees) → NoneStandsTo n trees → AreUnsound trees
none_sound n trees none = λ s sound has. none s (each_table (StandsIn s trees) (λ t. record { rows = has t; sound = sound_in s sound t }) (take n all_tables))

-- ---- what a refusal says

abbrev code_in : OpenFault → ℕ
code_in it = it.code

-- a refusal because memory ran out or the store failed
pub tells_nothing : (trees : Trees) (it : OpenFault) → (it ≡ fault cause.Memory) ⊎ (it ≡ fault cause.StoreFailed) → TellsWhy trees it
tells_nothing trees it (inl memory) =
    let code : it.code ≡ 0 = ap code_in memory in
    record {
      version = λ same. let n : it.code ≡ 30 = same in absurd (omega arith);
      rows = λ same. let n : it.code ≡ 31 = same in absurd (omega arith);
      first = λ same. let n : it.code ≡ 31 = same in absurd (omega arith);
    }
tells_nothing trees it (inr store) =
    let code : it.code ≡ 32 = ap code_in store in
    record {
      version = λ same. let n : it.code ≡ 30 = same in absurd (omega arith);
      rows = λ same. let n : it.code ≡ 31 = same in absurd (omega arith);
      first = λ same. let n : it.code ≡ 31 = same in absurd (omega arith);
    }

tells_rows : (trees : Trees) (number : ℕ) (it : OpenFault) → it ≡ unsound number → IsFirstAtFault trees number → TellsWhy trees it
tells_rows trees number it is first =
    let code : it.code ≡ 31 = ap code_in is in
    record {
      version = λ same. let n : it.code ≡ 30 = same in absurd (omega arith);
      rows = λ same. none_sound number trees first.none;
      first = λ same. subst (IsFirstAtFault trees) (sym (ap (λ (f : OpenFault). f.table) is)) first;
    }

tells_version : (trees : Trees) (it : OpenFault) → it ≡ fault cause.OtherTables → HasOtherVersion trees → TellsWhy trees it
tells_version trees it is version =
    let code : it.code ≡ 30 = ap code_in is in
    record {
      version = λ same. version;
      rows = λ same. let n : it.code ≡ 31 = same in absurd (omega arith);
      first = λ same. let n : it.code ≡ 31 = same in absurd (omega arith);
    }

-- ---- one table that was read is checked

pub judged_so : (t : TableName) (old new : Connected) (s : State) (read_as : Result Change OpenFault) (change : Change) → read_as ≡ Ok change → ReadsTable t old new s read_as
    → (r : Result Listed OpenFault) → IfOk r (λ judged. judged.content ≡ applied change s) → IfOk r (λ judged. IsSoundIn (applied change s) t)
    → IfErr r (λ it. (it ≡ fault cause.Memory) ⊎ ((it ≡ unsound (number_of t)) × (IsSoundIn (applied change s) t → ⊥)))
    → OpensTable t old new s r
judged_so t old new s read_as change is h r content sound faults =
    let it = subst (ReadsTable t old new s) is h in
    go it r content sound faults (rests_so old new change it.rests r)
  where
    go : ReadsTable t old new s (Ok change) → (r : Result Listed OpenFault) → IfOk r (λ judged. judged.content ≡ applied change s) → IfOk r (λ judged. IsSoundIn (applied change s) t)
        → IfErr r (λ it. (it ≡ fault cause.Memory) ⊎ ((it ≡ unsound (number_of t)) × (IsSoundIn (applied change s) t → ⊥))) → Rests old new r → OpensTable t old new s r
    go it (Ok keeper) content sound faults rests = record {
      rests = rests;
      read = subst (IsReadTo (number_of t)) (sym content)
          (record { sound = and_in (IsSoundIn (applied change s)) t it.read.sound sound; later = it.read.later });
      rows = λ clean has before. subst (λ (c : State). HasRowsTo (number_of t) c old.now.trees) (sym content) (it.rows clean has before);
      faults = tt;
      caused = tt;
    }
    go it (Err f) content sound faults rests = record {
      rests = rests;
      read = tt;
      rows = λ clean has before. tt;
      faults = elim faults [
        | inl memory ↦ inl memory
        | inr told ↦ inr (inr (
          told.0,
          λ clean has before other others.
              let all = and_in (IsLaidIn (applied change s)) t (each_laid (applied change s) (take (number_of t - 1) all_tables) it.read.sound) it.read.laid in
              told.1 (sound_there t other (applied change s) old.now.trees others all it.read.laid (it.rows clean has before)),
        ))
      ];
      caused = rows_caused {X = Listed} _ old new (number_of t) (Err f) faults;
    }

-- ---- one after the other

module _ (t : TableName) (old mid new : Connected) (keeper : Listed) (later : 1 < number_of t) (h : OpensTo (number_of t - 1) old mid (Ok keeper)) where
  same_then : HasCleanDisk new → (r : Result Listed OpenFault) → OpensTable t mid new keeper.content r → old.now.schema ≡ desk_schema → mid.now ≡ old.now
  same_then clean r k has = (h.rests.same (omega (arith, clean, k.rests.survives.clean)) has).0.now_is

  before_then : HasCleanDisk new → (r : Result Listed OpenFault) → OpensTable t mid new keeper.content r → old.now.schema ≡ desk_schema → HasRowsTo (number_of t - 1) keeper.content old.now.trees
  before_then clean r k has = h.rows (omega (arith, clean, k.rests.survives.clean)) has

  -- no content has the rows up to the table at fault, and some content has those of the tables before
  first_then : (r : Result Listed OpenFault) (k : OpensTable t mid new keeper.content r) (clean : HasCleanDisk new) (has : old.now.schema ≡ desk_schema)
      → (HasCleanDisk new → mid.now.schema ≡ desk_schema → HasRowsTo (number_of t - 1) keeper.content mid.now.trees → NoneStandsTo (number_of t) mid.now.trees)
      → IsFirstAtFault old.now.trees (number_of t)
  first_then r k clean has none =
      let same = same_then clean r k has in
      let before = before_then clean r k has in
      let s = keeper.content in
      record {
        none = subst (λ (db : Database). db.schema ≡ desk_schema → HasRowsTo (number_of t - 1) s db.trees → NoneStandsTo (number_of t) db.trees) same (none clean) has before;
        before = λ _. (s, all_stand s old.now.trees (take (number_of t - 1) all_tables) h.read.sound before);
      }

  pub opens_then : (r : Result Listed OpenFault) → OpensTable t mid new keeper.content r → OpensTo (number_of t) old new r
  opens_then r k = record {
    rests = rests_then old mid keeper new h.rests r k.rests;
    read = k.read;
    rows = λ clean has.
        subst (λ (db : Database). db.schema ≡ desk_schema → HasRowsTo (number_of t - 1) keeper.content db.trees → IfOk r (λ next. HasRowsTo (number_of t) next.content db.trees))
        (same_then clean r k has) (k.rows clean) has (before_then clean r k has);
    faults = refusals r k.faults;
    caused = causes r k;
    why = λ clean has. whys r k clean has;
    version = λ clean has. spared clean has r (agency_first (HasRowsIn keeper.content old.now.trees) (number_of t - 1) (omega arith) (before_then clean r k has));
  }
    where
      refusals : (r : Result Listed OpenFault) → IfErr r (IsFaultOf t (HasCleanDisk new → mid.now.schema ≡ desk_schema
          → HasRowsTo (number_of t - 1) keeper.content mid.now.trees → NoneStandsTo (number_of t) mid.now.trees)) → IfErr r IsRefusal
      refusals (Ok next) faults = tt
      refusals (Err f) (inl memory) = inl memory
      refusals (Err f) (inr (inl store)) = inr (inl store)
      refusals (Err f) (inr (inr rows)) = inr (inr (inr (number_of t, omega arith, last_table t, rows.0)))

      causes : (r : Result Listed OpenFault) → OpensTable t mid new keeper.content r → IfErr r (IsCaused old new)
      causes (Ok next) k = tt
      causes (Err f) k = λ clean has store.
          let same : mid.now.schema ≡ desk_schema = ap (λ (db : Database). db.schema) (same_then clean (Err f) k has) ∙ has in
          caused_after old mid new _ _ h.rests.survives (omega (arith, clean, k.rests.survives.clean)) k.rests.survives (k.caused clean same store)

      whys : (r : Result Listed OpenFault) (k : OpensTable t mid new keeper.content r) → HasCleanDisk new → old.now.schema ≡ desk_schema → IfErr r (TellsWhy old.now.trees)
      whys (Ok next) k clean has = tt
      whys (Err f) k clean has = elim k.faults [
        | inl memory ↦ tells_nothing old.now.trees f (inl memory)
        | inr other ↦ elim other [
          | inl store ↦ tells_nothing old.now.trees f (inr store)
          | inr rows ↦ tells_rows old.now.trees (number_of t) f rows.0 (first_then (Err f) k clean has rows.1)
        ]
      ]

      spared : HasCleanDisk new → old.now.schema ≡ desk_schema → (r : Result Listed OpenFault) → HasRowsIn keeper.content old.now.trees table.Desk → IfErr r (SparesOtherVersion old.now.trees)
      spared clean has (Ok next) are = tt
      spared clean has (Err f) are = spares_none old.now.trees keeper.content.policy keeper.content.last_trip are f

-- a refusal ends the reading
pub ends_so : (n m : ℕ) (old new : Connected) (e : OpenFault) (out : Result Listed OpenFault) → IsErr out → IsErrAnd out (λ f. f ≡ e) → OpensTo n old new (Err e) → OpensTo m old new out
ends_so n m old new e out bad same h = record {
  rests = refused {X = Listed} old new (Err e) out bad h.rests;
  read = no_answer (λ keeper. IsReadTo m keeper.content) out bad;
  rows = λ clean has. no_answer (λ keeper. HasRowsTo m keeper.content old.now.trees) out bad;
  faults = passed_on _ e h.faults out same;
  caused = passed_on (IsCaused old new) e h.caused out same;
  why = λ clean has. passed_on _ e (h.why clean has) out same;
  version = λ clean has. passed_on _ e (h.version clean has) out same;
}

-- ---- the first table

abbrev pub IsAgencyFault : Connected → Connected → OpenFault → Type 0
IsAgencyFault old new it =
    (it ≡ fault cause.Memory) ⊎ ((it ≡ fault cause.StoreFailed)
    ⊎ (((it ≡ fault cause.OtherTables) × (HasCleanDisk new → old.now.schema ≡ desk_schema → HasOtherVersion old.now.trees))
    ⊎ ((it ≡ unsound 1) × (HasCleanDisk new → old.now.schema ≡ desk_schema → NoneStandsTo 1 old.now.trees))))

agency_refusal : (old new : Connected) (it : OpenFault) → IsAgencyFault old new it → IsRefusal it
agency_refusal old new it (inl memory) = inl memory
agency_refusal old new it (inr (inl store)) = inr (inl store)
agency_refusal old new it (inr (inr (inl version))) = inr (inr (inl version.0))
agency_refusal old new it (inr (inr (inr rows))) = inr (inr (inr (1, omega arith, omega arith, rows.0)))

agency_tells : (old new : Connected) (it : OpenFault) → IsAgencyFault old new it → HasCleanDisk new → old.now.schema ≡ desk_schema → TellsWhy old.now.trees it
agency_tells old new it (inl memory) clean has = tells_nothing old.now.trees it (inl memory)
agency_tells old new it (inr (inl store)) clean has = tells_nothing old.now.trees it (inr store)
agency_tells old new it (inr (inr (inl version))) clean has = tells_version old.now.trees it version.0 (version.1 clean has)
agency_tells old new it (inr (inr (inr rows))) clean has =
    tells_rows old.now.trees 1 it rows.0 (record { none = rows.1 clean has; before = λ no. absurd (omega arith) })

pub agency_fails : {X : Type 0} (old new : Connected) (r : Result X OpenFault) (e : OpenFault) → Rests old new r → IsAgencyFault old new e → IsCaused old new e
    → (HasCleanDisk new → old.now.schema ≡ desk_schema → SparesOtherVersion old.now.trees e) → (out : Result Listed OpenFault) → IsErr out → IsErrAnd out (λ f. f ≡ e)
    → OpensTo 1 old new out
agency_fails old new r e rests faults caused version out bad same = record {
  rests = refused old new r out bad rests;
  read = no_answer (λ keeper. IsReadTo 1 keeper.content) out bad;
  rows = λ clean has. no_answer (λ keeper. HasRowsTo 1 keeper.content old.now.trees) out bad;
  faults = passed_on _ e (agency_refusal old new e faults) out same;
  caused = passed_on (IsCaused old new) e caused out same;
  why = λ clean has. passed_on _ e (agency_tells old new e faults clean has) out same;
  version = λ clean has. passed_on _ e (version clean has) out same;
}

-- ---- all tables

pub all_sound : (s : State) → IsReadTo table_count s → IsSound s
all_sound s read = sound_of s read.sound
