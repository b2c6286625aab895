-- What the statements that create the tables do, one after the other, and which rows a new desk then has.
use Rattle.std.proofs.Common.{◌≡◌, ◌≢◌, ◌<◌, ◌≤◌, ◌+◌, ℕ, zero, suc, List, [], ◌∷◌, ◌++◌, IsPermutation, false, None}
use Rattle.std.proofs.Common.{Some, Result, Ok, Err, refl, sym, ap, subst, ◌∙◌, arith, slice_get, slice_index_or, fold, map, flat_map, drop}
use Rattle.std.proofs.Common.{take, length}
use Rattle.std.proofs.lemmas.List.{append-nil, append_assoc, append_cancel_left, map-append, take-append-drop, take-take, take_all}
use Rattle.std.proofs.lemmas.List.Concat.{flat_map-append}
use Rattle.std.proofs.lemmas.List.Sums.{sum_by-append}
use Rattle.std.specs.List.{AllByRecursion, sum_by}
use Rattle.sqlite.specs.Command.TheVariants.{CreateTable, CreateIndex}
use Rattle.sqlite.specs.Table.{Table}
use Rattle.sqlite.specs.declared.error.Error.{Error}
use Rattle.sqlite.specs.Schema.{Schema}
use Rattle.sqlite.specs.Order.{Row}
use Rattle.sqlite.specs.Tree.{Trees}
use Rattle.sqlite.specs.Change.{created, indexed, next_tree, KeepsRows}
use Rattle.sqlite.specs.Compile.{table_defined_by, index_defined_by}
use Rattle.sqlite.specs.Does.{Tally, lacks_sequence, AtPlace, Defines, MakesIndex}
use Rattle.sqlite.specs.Effect.{Database}
use Rattle.sqlite.specs.Listing.{understood}
use Rattle.sqlite.specs.State.{State as Connected, Writes, Executes, mode_of}
use Rattle.sqlite.proofs.Callers.{IsPlain, command_of, statement_of, runs_as}
use Rattle.sqlite_keyed.proofs.ListLemmas.{IsPermutation-same, all-append}
use Rattle.sqlite_schema.specs.declared.schema.Index.{Index}
use Rattle.sqlite_tied.specs.Compute.{everything}
use Rattle.pt_base_values.specs.declared.policy.Policy.{Policy}
use Rattle.pt_desk_requests.specs.declared.caller.Caller.{Caller}
use Rattle.pt_desk_rules.specs.State.{State, new_state}
use Rattle.pt_desk_rules.specs.TableNames.{all_tables}
use Rattle.pt_desk_rules.specs.declared.table_name.TableName.{TableName}
use Rattle.pt_desk_rules.specs.declared.table_name.TableName.TheVariants as name
use Rattle.pt_tables_rows.specs.Rows.{desk_row, caller_row}
use Rattle.pt_tables_rows.specs.Schema.{Version, versions, table_version, table_in, names_of, names_between, tables_of, tables_between, statement_count, schema_of}
use Rattle.pt_tables_rows.specs.Schema.{desk_schema, no_schema, first_tables, chairs_tables}
use Rattle.pt_tables_rows.specs.Schema.{desk_table, callers_table, kept_table, places_table, fixed_table}
use Rattle.pt_tables_rows.specs.Schema.{vehicles_table, riders_table}
use Rattle.pt_tables_rows.specs.Schema.{entries_table, trips_table, stops_table, travel_table, rider_chairs_table, vehicle_chairs_table, trip_chairs_table, trip_indexes, trips_rider, trips_day}
use Rattle.pt_tables_rows.specs.declared.schema.TheConstants.{STATEMENTS}
use Rattle.pt_tables_rows.specs.Tables.{AddsIfOk, AddsVersions, AreRows, Fills, HasRows, HaveRowids, IsBlank, LeadsIfOk, Stands, columns_of}
use Rattle.pt_tables_rows.proofs.NameLemmas.{all_from, at_table, other_at}
use Rattle.pt_tables_rows.proofs.PartLemmas.{went, same_value}
use Rattle.pt_tables_rows.proofs.SameRowsLists.{all_back, all_front}

-- ---- the statements

-- their texts
abbrev pub texts : List (List ℕ)
texts = map (λ statement. statement.now) STATEMENTS

abbrev pub text_at : ℕ → List ℕ
text_at n = slice_index_or texts n []

-- what a statement makes: a table, or an index of a table
pub data Made : Type 0 where
  a_table : Table → Made
  an_index : Table → Index → Made

abbrev as_read : Table → Table
as_read table = record table { tree = 0 }

-- an index as its text alone defines it
abbrev as_defined : Index → Index
as_defined index = record index { tree = 0 }

abbrev made_in : Schema → Made → Schema
made_in schema (a_table table) = created schema (as_read table)
made_in schema (an_index table index) = indexed schema table (as_defined index)

-- what each of them makes
abbrev made_by : List Made
made_by = map (λ t. a_table (table_in t)) (first_tables ++ chairs_tables) ++ map (an_index trips_table) trip_indexes

-- the schema after this many of the statements
abbrev pub schema_after : ℕ → Schema
schema_after n = fold made_in no_schema (take n made_by)

-- the text makes this table in a database with this schema
record TableStep (schema : Schema) (text : List ℕ) (table : Table) : Type 0 where
  is : command_of (understood schema text) ≡ CreateTable
  whole : statement_of text (understood schema text) ≡ text
  plain : IsPlain (understood schema text)
  defined : table_defined_by text ≡ Ok (as_read table)
  counts : lacks_sequence (created schema (as_read table)) ≡ false

-- the text makes this index of the table at this place
record IndexStep (schema : Schema) (text : List ℕ) (place : ℕ) (table : Table) (index : Index) : Type 0 where
  is : command_of (understood schema text) ≡ CreateIndex place
  whole : statement_of text (understood schema text) ≡ text
  plain : IsPlain (understood schema text)
  on : slice_get schema.tables place ≡ Some table
  defined : index_defined_by table text ≡ Ok (as_defined index)

-- what the statement at this place makes
data Step (n : ℕ) : Type 0 where
  makes_table : (table : Table) → TableStep (schema_after n) (text_at n) table → schema_after (n + 1) ≡ created (schema_after n) (as_read table) → Step n
  makes_index : (place : ℕ) (table : Table) (index : Index) → IndexStep (schema_after n) (text_at n) place table index
      → schema_after (n + 1) ≡ indexed (schema_after n) table (as_defined index) → Step n

step_0 : Step 0
unfolding understood everything
step_0 = makes_table desk_table (record { is = refl; whole = refl; plain = (refl, refl); defined = refl; counts = refl }) refl

step_1 : Step 1
unfolding understood everything
step_1 = makes_table callers_table (record { is = refl; whole = refl; plain = (refl, refl); defined = refl; counts = refl }) refl

step_2 : Step 2
unfolding understood everything
step_2 = makes_table kept_table (record { is = refl; whole = refl; plain = (refl, refl); defined = refl; counts = refl }) refl

step_3 : Step 3
unfolding understood everything
step_3 = makes_table places_table (record { is = refl; whole = refl; plain = (refl, refl); defined = refl; counts = refl }) refl

step_4 : Step 4
unfolding understood everything
step_4 = makes_table fixed_table (record { is = refl; whole = refl; plain = (refl, refl); defined = refl; counts = refl }) refl

step_5 : Step 5
unfolding understood everything
step_5 = makes_table vehicles_table (record { is = refl; whole = refl; plain = (refl, refl); defined = refl; counts = refl }) refl

step_6 : Step 6
unfolding understood everything
step_6 = makes_table riders_table (record { is = refl; whole = refl; plain = (refl, refl); defined = refl; counts = refl }) refl

step_7 : Step 7
unfolding understood everything
step_7 = makes_table entries_table (record { is = refl; whole = refl; plain = (refl, refl); defined = refl; counts = refl }) refl

step_8 : Step 8
unfolding understood everything
step_8 = makes_table trips_table (record { is = refl; whole = refl; plain = (refl, refl); defined = refl; counts = refl }) refl

step_9 : Step 9
unfolding understood everything
step_9 = makes_table stops_table (record { is = refl; whole = refl; plain = (refl, refl); defined = refl; counts = refl }) refl

step_10 : Step 10
unfolding understood everything
step_10 = makes_table travel_table (record { is = refl; whole = refl; plain = (refl, refl); defined = refl; counts = refl }) refl

step_11 : Step 11
unfolding understood everything
step_11 = makes_table rider_chairs_table (record { is = refl; whole = refl; plain = (refl, refl); defined = refl; counts = refl }) refl

step_12 : Step 12
unfolding understood everything
step_12 = makes_table vehicle_chairs_table (record { is = refl; whole = refl; plain = (refl, refl); defined = refl; counts = refl }) refl

step_13 : Step 13
unfolding understood everything
step_13 = makes_table trip_chairs_table (record { is = refl; whole = refl; plain = (refl, refl); defined = refl; counts = refl }) refl

-- the place of trips among the tables
abbrev trips_place : ℕ
trips_place = 8

step_14 : Step 14
unfolding understood everything
step_14 = makes_index trips_place trips_table trips_rider (record { is = refl; whole = refl; plain = (refl, refl); on = refl; defined = refl }) refl

step_15 : Step 15
unfolding understood everything
step_15 = makes_index trips_place trips_table trips_day (record { is = refl; whole = refl; plain = (refl, refl); on = refl; defined = refl }) refl

step_at : (n : ℕ) → n < length texts → Step n
step_at zero low = step_0
step_at (suc zero) low = step_1
step_at (suc (suc zero)) low = step_2
step_at (suc (suc (suc zero))) low = step_3
step_at (suc (suc (suc (suc zero)))) low = step_4
step_at (suc (suc (suc (suc (suc zero))))) low = step_5
step_at (suc (suc (suc (suc (suc (suc zero)))))) low = step_6
step_at (suc (suc (suc (suc (suc (suc (suc zero))))))) low = step_7
step_at (suc (suc (suc (suc (suc (suc (suc (suc zero)))))))) low = step_8
step_at (suc (suc (suc (suc (suc (suc (suc (suc (suc zero))))))))) low = step_9
step_at (suc (suc (suc (suc (suc (suc (suc (suc (suc (suc zero)))))))))) low = step_10
step_at (suc (suc (suc (suc (suc (suc (suc (suc (suc (suc (suc zero))))))))))) low = step_11
step_at (suc (suc (suc (suc (suc (suc (suc (suc (suc (suc (suc (suc zero)))))))))))) low = step_12
step_at (suc (suc (suc (suc (suc (suc (suc (suc (suc (suc (suc (suc (suc zero))))))))))))) low = step_13
step_at (suc (suc (suc (suc (suc (suc (suc (suc (suc (suc (suc (suc (suc (suc zero)))))))))))))) low = step_14
step_at (suc (suc (suc (suc (suc (suc (suc (suc (suc (suc (suc (suc (suc (suc (suc zero))))))))))))))) low = step_15
step_at (suc (suc (suc (suc (suc (suc (suc (suc (suc (suc (suc (suc (suc (suc (suc (suc n)))))))))))))))) low = absurd (omega arith)

-- ---- versions

-- a later version has all statements
all_statements : (version : ℕ) → table_version ≤ version → statement_count version ≡ length texts
all_statements version late = ap (sum_by (λ (v : Version). v.statements)) (take_all version versions late)

pub counts : (version : ℕ) → statement_count version ≤ length texts
counts zero = omega arith
counts (suc zero) = omega arith
counts (suc (suc version)) = subst (λ n. n ≤ length texts) (sym (all_statements (suc (suc version)) (omega arith))) (omega arith)

-- the statements of a version make its schema
version_made : (version : ℕ) → version ≤ table_version → schema_after (statement_count version) ≡ schema_of version
unfolding schema_of everything
version_made zero low = refl
version_made (suc zero) low = refl
version_made (suc (suc zero)) low = refl
version_made (suc (suc (suc version))) low = absurd (omega arith)

tables_made : (version : ℕ) → version ≤ table_version → (schema_after (statement_count version)).tables ≡ tables_of version
unfolding schema_of
tables_made version low = ap (λ (s : Schema). s.tables) (version_made version low)

pub counts_rise : (from to : ℕ) → from ≤ to → statement_count from ≤ statement_count to
counts_rise from to order =
    let count = λ (v : Version). v.statements in
    let vs = take to versions in
    let split : statement_count to ≡ sum_by count (take from vs) + sum_by count (drop from vs) =
    ap (sum_by count) (sym (take-append-drop from vs)) ∙ sum_by-append count (take from vs) (drop from vs) in
    let front : sum_by count (take from vs) ≡ statement_count from = ap (sum_by count) (take-take from to versions order) in
    omega (arith, split, front)

pub names_split : (from to : ℕ) → from ≤ to → names_of to ≡ names_of from ++ names_between from to
names_split from to order =
    let adds = λ (v : Version). v.tables in
    let vs = take to versions in
    ap (flat_map adds) (sym (take-append-drop from vs)) ∙ flat_map-append adds (take from vs) (drop from vs)
    ∙ ap (λ front. flat_map adds front ++ names_between from to) (take-take from to versions order)

tables_split : (from to : ℕ) → from ≤ to → tables_of to ≡ tables_of from ++ tables_between from to
tables_split from to order = ap (map table_in) (names_split from to order) ∙ map-append table_in (names_of from) (names_between from to)

-- what holds of the tables of a version, and of those that later versions add, holds of each table
pub of_all : (P : TableName → Type 0) (version : ℕ) → version ≤ table_version → AllByRecursion P (names_of version)
    → AllByRecursion P (names_between version table_version) → (t : TableName) → P t
of_all P version low first later =
    at_table P (subst (AllByRecursion P) (sym (names_split version table_version low)) (all-append P (names_of version) (names_between version table_version) first later))

-- ---- what a statement does

abbrev Same : Trees → Trees → Table → Type 0
Same old new t = new t.tree ≡ old t.tree

abbrev Empty : Trees → Table → Type 0
Empty trees t = trees t.tree ≡ []

still_empty : (ts : List Table) (old new : Trees) → KeepsRows ts old new → AllByRecursion (Empty old) ts → AllByRecursion (Empty new) ts
still_empty [] old new keeps empty = tt
still_empty (t ∷ ts) old new keeps empty = (keeps.0 ∙ empty.0, still_empty ts old new keeps.1 empty.1)

still_same : (ts : List Table) (old mid new : Trees) → AllByRecursion (Same mid new) ts → AllByRecursion (Same old mid) ts → AllByRecursion (Same old new) ts
still_same [] old mid new later early = tt
still_same (t ∷ ts) old mid new later early = (later.0 ∙ early.0, still_same ts old mid new later.1 early.1)

all_same : (ts : List Table) (old : Trees) → AllByRecursion (Same old old) ts
all_same [] old = tt
all_same (t ∷ ts) old = (refl, all_same ts old)

module _ (schema : Schema) (text : List ℕ) (old new : Connected) (count : ℕ) (has : old.now.schema ≡ schema) (h : Executes text [] old new (Ok count)) where
  -- what a CREATE TABLE makes: a table with no row, and the other tables keep theirs
  creates : (table : Table) → TableStep schema text table
      → (new.now.schema ≡ created schema (as_read table)) × KeepsRows schema.tables old.now.trees new.now.trees × (new.now.trees (next_tree schema) ≡ [])
  creates table step =
      let w = subst (λ t. Writes old new None CreateTable t [] count) step.whole (runs_as text [] old new schema has CreateTable step.is step.plain count h) in
      let all = went w.changed in
      let first = went all.1 in
      let made = first.1 in
      let same : made.table ≡ as_read table = same_value (sym made.defined ∙ step.defined) in
      let after : first.0.schema ≡ created schema (as_read table) = made.is ∙ ap (λ s. created s made.table) has ∙ ap (created schema) same in
      let none : lacks_sequence first.0.schema ≡ false = ap lacks_sequence after ∙ step.counts in
      let now : new.now ≡ first.0 = ap (λ (p : Tally × Database). p.1) (same_value all.2) ∙ same_value (rw none at first.2) in
      let keeps : KeepsRows schema.tables old.now.trees first.0.trees = subst (λ s. KeepsRows s.tables old.now.trees first.0.trees) has made.others in
      let none_new : first.0.trees (next_tree schema) ≡ [] = subst (λ s. first.0.trees (next_tree s) ≡ []) has made.empty in (
        ap (λ (d : Database). d.schema) now ∙ after,
        subst (λ (d : Database). KeepsRows schema.tables old.now.trees d.trees) (sym now) keeps,
        subst (λ (d : Database). d.trees (next_tree schema) ≡ []) (sym now) none_new,
      )

  -- what a CREATE INDEX makes: the index, and each table keeps its rows
  indexes : (place : ℕ) (table : Table) (index : Index) → IndexStep schema text place table index
      → (new.now.schema ≡ indexed schema table (as_defined index)) × KeepsRows schema.tables old.now.trees new.now.trees
  indexes place table index step =
      let w = subst (λ t. Writes old new None (CreateIndex place) t [] count) step.whole (runs_as text [] old new schema has (CreateIndex place) step.is step.plain count h) in
      let found : slice_get old.now.schema.tables place ≡ Some table = ap (λ s. slice_get s.tables place) has ∙ step.on in
      let first = went (subst (λ o. AtPlace (λ t. Defines (mode_of old) (MakesIndex text old.now t)) o (Ok (w.tally, new.now))) found w.changed) in
      let made = first.1 in
      let same : made.index ≡ as_defined index = same_value (sym made.defined ∙ step.defined) in
      let after : first.0.schema ≡ indexed schema table (as_defined index) = made.is ∙ ap (λ s. indexed s table made.index) has ∙ ap (indexed schema table) same in
      let now : new.now ≡ first.0 = ap (λ (p : Tally × Database). p.1) (same_value first.2) in
      let keeps : KeepsRows schema.tables old.now.trees first.0.trees = subst (λ s. KeepsRows s.tables old.now.trees first.0.trees) has made.rows in (
        ap (λ (d : Database). d.schema) now ∙ after,
        subst (λ (d : Database). KeepsRows schema.tables old.now.trees d.trees) (sym now) keeps,
      )

-- what a statement leaves: the next schema, the rows that the tables had, and no row in the table that it adds
record Leaves (n : ℕ) (old new : Database) : Type 0 where
  schema : new.schema ≡ schema_after (n + 1)
  kept : KeepsRows (schema_after n).tables old.trees new.trees
  added : List Table
  more : (schema_after (n + 1)).tables ≡ (schema_after n).tables ++ added
  empty : AllByRecursion (Empty new.trees) added

leaves : (n : ℕ) → Step n → (old new : Connected) (count : ℕ) → old.now.schema ≡ schema_after n → Executes (text_at n) [] old new (Ok count) → Leaves n old.now new.now
leaves n (makes_table table step next) old new count has h =
    let it = creates (schema_after n) (text_at n) old new count has h table step in
    record {
      schema = it.0 ∙ sym next;
      kept = it.1;
      added = record table { tree = next_tree (schema_after n) } ∷ [];
      more = ap (λ (s : Schema). s.tables) next;
      empty = (it.2, tt);
    }
leaves n (makes_index place table index step next) old new count has h =
    let it = indexes (schema_after n) (text_at n) old new count has h place table index step in
    record {
      schema = it.0 ∙ sym next;
      kept = it.1;
      added = [];
      more = ap (λ (s : Schema). s.tables) next ∙ sym (append-nil (schema_after n).tables);
      empty = tt;
    }

-- after this many of the statements the tables of the first `from` keep their rows, and the later tables have none
pub record IsAdded (from n : ℕ) (old db : Database) : Type 0 where
  pub schema : db.schema ≡ schema_after n
  pub kept : AllByRecursion (Same old.trees db.trees) (schema_after from).tables
  pub later : List Table
  pub more : (schema_after n).tables ≡ (schema_after from).tables ++ later
  pub empty : AllByRecursion (Empty db.trees) later

pub adds_next : (from n : ℕ) → n < length texts → (base : Database) (old new : Connected) (count : ℕ) → IsAdded from n base old.now → Executes (text_at n) [] old new (Ok count)
    → IsAdded from (n + 1) base new.now
adds_next from n low base old new count added h =
    let it = leaves n (step_at n low) old new count added.schema h in
    let ts = (schema_after from).tables in
    let same = Same old.now.trees new.now.trees in
    let keeps : AllByRecursion same (ts ++ added.later) = subst (AllByRecursion same) added.more it.kept in
    record {
      schema = it.schema;
      kept = still_same ts base.trees old.now.trees new.now.trees (all_front same ts added.later keeps) added.kept;
      later = added.later ++ it.added;
      more = it.more ∙ ap (λ all. all ++ it.added) added.more ∙ append_assoc ts added.later it.added;
      empty = all-append (Empty new.now.trees) added.later it.added
          (still_empty added.later old.now.trees new.now.trees (all_back same ts added.later keeps) added.empty) it.empty;
    }

pub adding_begins : (from : ℕ) → from ≤ table_version → (db : Database) → db.schema ≡ schema_of from → IsAdded (statement_count from) (statement_count from) db db
adding_begins from low db has =
    let ts = (schema_after (statement_count from)).tables in
    record {
      schema = has ∙ sym (version_made from low);
      kept = all_same ts db.trees;
      later = [];
      more = sym (append-nil ts);
      empty = tt;
    }

pub adding_ends : (from to : ℕ) → from ≤ to → to ≤ table_version → (old db : Database) → IsAdded (statement_count from) (statement_count to) old db → AddsVersions from to old db
adding_ends from to order low old db added =
    let first = tables_made from (omega arith) in
    let all : tables_of from ++ tables_between from to ≡ tables_of from ++ added.later =
    sym (tables_split from to order) ∙ sym (tables_made to low) ∙ added.more ∙ ap (λ ts. ts ++ added.later) first in
    record {
      schema = added.schema ∙ version_made to low;
      kept = subst (AllByRecursion (Same old.trees db.trees)) first added.kept;
      added = subst (AllByRecursion (Empty db.trees)) (sym (append_cancel_left (tables_of from) (tables_between from to) added.later all)) added.empty;
    }

-- ---- all tables

nothing_made : (db : Database) → db.schema ≡ no_schema → db.schema ≡ schema_of 0
unfolding schema_of
nothing_made db is = is

desk_is : schema_of table_version ≡ desk_schema
unfolding desk_schema
desk_is = refl

blank_then : (old new : Database) → AddsVersions 0 table_version old new → IsBlank new
blank_then old new adds = record { schema = adds.schema ∙ desk_is; rows = adds.added }

pub leads_to_blank : {X : Type 0} (old new : Connected) (result : Result X Error) → AddsIfOk 0 table_version old new result
    → LeadsIfOk old new (λ db. db.schema ≡ no_schema) IsBlank result
leads_to_blank old new (Ok x) adds = (adds.0, adds.1, λ none. blank_then old.now new.now (adds.2 (omega arith) (omega arith) (nothing_made old.now none)))
leads_to_blank old new (Err e) keeps = keeps

-- ---- the rows of a new desk

-- a table with no row has no record
pub none_there : (table : Table) (trees : Trees) (rows : List Row) → trees table.tree ≡ [] → rows ≡ [] → AreRows table trees rows
none_there table trees rows empty none = IsPermutation-same _ rows (ap (map (columns_of table)) empty ∙ sym none)

module _ (policy : Policy) (caller : Caller) (blank desked done : Database) (first : IsBlank blank) (desk : Fills desk_table (desk_row policy 0) blank desked)
    (callers : Fills callers_table (caller_row caller) desked done) where
  -- the other tables have no row
  empty_in : (t : TableName) → (table_in t).tree ≢ desk_table.tree → (table_in t).tree ≢ callers_table.tree → done.trees (table_in t).tree ≡ []
  empty_in t not_desk not_callers =
      other_at callers_table desked.trees done.trees callers.others t not_callers
      ∙ other_at desk_table blank.trees desked.trees desk.others t not_desk ∙ at_table (λ u. blank.trees (table_in u).tree ≡ []) first.rows t

  no_callers : desked.trees callers_table.tree ≡ []
  no_callers = desk.others.1.0 (λ e. cc) ∙ first.rows.1.0

  same_desk : done.trees desk_table.tree ≡ desked.trees desk_table.tree
  same_desk = callers.others.0 (λ e. cc)

  rows_of_new : (shown : Policy) → desk_row shown 0 ≡ desk_row policy 0 → HasRows (new_state (caller ∷ []) shown) done.trees
  rows_of_new shown same name.Desk =
      subst (λ rows. IsPermutation (map (columns_of desk_table) rows) (desk_row shown 0 ∷ [])) (sym same_desk)
      (subst (λ row. AreRows desk_table desked.trees (row ∷ [])) (sym same) (desk.rows first.rows.0))
  rows_of_new shown same name.Callers = callers.rows no_callers
  rows_of_new shown same t = none_there (table_in t) done.trees [] (empty_in t (λ e. cc) (λ e. cc)) refl

  rowids_of_new : (t : TableName) → HaveRowids (done.trees (table_in t).tree)
  rowids_of_new name.Desk = subst HaveRowids (sym same_desk) (desk.rowids first.rows.0)
  rowids_of_new name.Callers = callers.rowids no_callers
  rowids_of_new t = subst HaveRowids (sym (empty_in t (λ e. cc) (λ e. cc))) (record { rising = tt; whole = tt })

  -- a content with this caller alone, and a policy with the same row as the one that was written
  pub stands_new : (content : State) → desk_row content.policy 0 ≡ desk_row policy 0 → content ≡ new_state (caller ∷ []) content.policy → Stands content done
  stands_new content same is = subst (λ (s : State). Stands s done) (sym is) (record {
    schema = callers.schema;
    rows = rows_of_new content.policy same;
    rowids = all_from (λ t. HaveRowids (done.trees (table_in t).tree)) rowids_of_new all_tables;
  })
