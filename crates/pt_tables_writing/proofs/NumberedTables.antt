-- What the statements mean that put and delete the records of numbered tables, table by table.
use Rattle.std.proofs.Common.{◌≡◌, ◌+◌, ◌/◌, ℕ, zero, suc, pos, true, false, List, [], ◌∷◌, ◌++◌, Some, Ok, length, drop, refl, ap₂}
use Rattle.std.specs.Prelude.{slice_get}
use Rattle.sqlite.specs.Cast.{cast_row}
use Rattle.sqlite.specs.Collation.TheVariants.{Binary}
use Rattle.sqlite.specs.Command.TheVariants.{InsertOr, Delete}
use Rattle.sqlite.specs.Effect.{value_rows, IsDatabase}
use Rattle.sqlite.specs.Listing.{understood}
use Rattle.sqlite.specs.Order.{Row, column}
use Rattle.sqlite.specs.Rows.{shown, stamped}
use Rattle.sqlite.specs.Source.TheVariants.{Values}
use Rattle.sqlite.specs.State.{State, Executes}
use Rattle.sqlite.specs.Table.{Table}
use Rattle.sqlite.specs.Term.{Term, eval_all, lit, col}
use Rattle.sqlite.specs.Tree.{rowid}
use Rattle.sqlite.specs.declared.types.Value.{Value}
use Rattle.sqlite.specs.declared.types.Value.TheVariants.{Null, Int}
use Rattle.sqlite.proofs.Callers.{IsPlain, command_of}
use Rattle.sqlite_rules.specs.Keys.{conflicts}
use Rattle.pt_tables_rows.specs.Rules.{equal}
use Rattle.pt_tables_rows.specs.Conflict.TheVariants.{Abort}
use Rattle.pt_tables_rows.specs.Compute.{everything}
use Rattle.sqlite_value.specs.Keys.{first_key}
use Rattle.pt_desk_rules.specs.Ranges.{FitsKept, FitsPlace, FitsRider, FitsTrip}
use Rattle.pt_desk_rules.specs.State.{caller_key, kept_key, place_key, rider_key, route_key, trip_key}
use Rattle.pt_desk_spelling.specs.Ranges.{IsCaller, IsRoute}
use Rattle.pt_tables_rows.specs.Rows.{number_value, caller_row, kept_row, place_row, rider_row, route_row, trip_row}
use Rattle.pt_tables_rows.specs.Schema.{desk_schema, tables, callers_table, kept_table, places_table, riders_table, fixed_table, trips_table}
use Rattle.pt_tables_rows.specs.Tables.{columns_of}
use Rattle.pt_tables_rows.proofs.NumberQueries.{number_program}
use Rattle.pt_tables_writing.specs.Writes.{Puts, Takes}
use Rattle.pt_tables_writing.specs.declared.numbered.TheConstants.{PUT_CALLER, TAKE_CALLER, PUT_KEPT, TAKE_KEPT}
use Rattle.pt_tables_writing.specs.declared.numbered.TheConstants.{PUT_PLACE, TAKE_PLACE, PUT_RIDER, TAKE_RIDER}
use Rattle.pt_tables_writing.specs.declared.numbered.TheConstants.{PUT_ROUTE, TAKE_ROUTE, PUT_TRIP, TAKE_TRIP}
use Rattle.pt_tables_writing.proofs.CastLemmas.{cast_null, cast_int, optional_cast}
use Rattle.pt_tables_writing.proofs.NumberedWrites.{IsNumbered, puts_record, takes_record}
use Rattle.pt_tables_writing.proofs.RemovalLemmas.{IsRemoval, removed}
use Rattle.pt_tables_writing.proofs.UpsertLemmas.{IsUpsert, by_number, only_first, upserted, upserted_sound}

-- ---- what the statements make of the records

module _ {A : Type 0} (table : Table) (key : A → ℕ) (Fits : A → Type 0) (row_of : A → Row) where
  -- with the row of a record as its parameters the text puts the record
  abbrev pub PutsBy : List ℕ → Type 1
  PutsBy text =
      (x : A) (old new : State) (count : ℕ) → old.now.schema ≡ desk_schema → Executes text (row_of x) old new (Ok count)
      → Puts table key Fits (λ x. row_of x ∷ []) x old.now new.now

  -- with its number as its parameter the text takes it away
  abbrev pub TakesBy : List ℕ → Type 1
  TakesBy text =
      (x : A) (old new : State) (count : ℕ) → old.now.schema ≡ desk_schema → Executes text (number_value (key x) ∷ []) old new (Ok count)
      → Takes table key Fits (λ x. row_of x ∷ []) x old.now new.now

  -- the one text puts the records, and the other takes them away
  pub record AreStored (put take : List ℕ) : Type 1 where
    pub puts : PutsBy put
    pub takes : TakesBy take
    pub sound : (x : A) (old new : State) (count : ℕ) → old.now.schema ≡ desk_schema → Executes put (row_of x) old new (Ok count) → IsDatabase new.now

-- ---- what is computed of the texts and the rows

-- this many parameters from this one on
abbrev parameters : ℕ → ℕ → List Term
parameters from zero = []
parameters from (suc count) = col 0 from ∷ parameters (from + 1) count

-- the row as it is stored, its number as its rowid
abbrev stored : Row → Row
stored [] = []
stored (number ∷ rest) = number ∷ Null ∷ rest

-- of a table at this place, whose rows have a number and this many columns
module _ (put take : List ℕ) (table : Table) (at count : ℕ) where
  abbrev terms : List Term
  terms = col 0 0 ∷ lit Null ∷ parameters 1 count

  abbrev fields : List Term
  fields = col 1 0 ∷ col 1 0 ∷ lit Null ∷ parameters 1 count

  -- the one statement inserts a row or updates the one with its number, the other deletes the row with a number
  abbrev AreStatements : Type 0
  AreStatements =
      (slice_get tables at ≡ Some table)
      × (command_of (understood desk_schema put) ≡ InsertOr at Abort (Values terms (count + 2)) (by_number table.tree (count + 1) fields ∷ []))
      × IsPlain (understood desk_schema put)
      × (command_of (understood desk_schema take) ≡ Delete at (number_program table.tree 0 (col 1 0 ∷ [])))
      × IsPlain (understood desk_schema take)
      × (table.is_counted ≡ false)

  -- the statements compute the row with this number, and no other row is in conflict with it
  module _ (id : ℕ) (rest : Row) where
    abbrev row : Row
    row = number_value id ∷ rest

    -- what the first one computes on, where there is a row with the number
    abbrev given : Row → List Row
    given there = (row ++ Int (pos id) ∷ shown table (stored row)) ∷ there ∷ []

    abbrev IsComputed : Type 0
    IsComputed =
        (value_rows (stamped table row) (count + 2) (length terms / (count + 2)) terms ≡ stored row ∷ [])
        × (columns_of table (stored row) ≡ row)
        × (column (row ++ Int (pos id) ∷ shown table (stored row)) (count + 1) ≡ Int (pos id))
        × ((r : Row) → eval_all (parameters 1 count) (given r) ≡ rest)
        × ((r : Row) → conflicts (Some (0 ∷ [])) (desk_schema).indexes table (stored row) r ≡ true → equal Binary (rowid r) (rowid (stored row)) ≡ true)

    upsert : AreStatements → IsComputed → cast_row table (stored row) ≡ stored row → IsUpsert put row table (pos id) (stored row)
    unfolding everything first_key
    upsert are is cast = record {
      at = at;
      terms = terms;
      width = count + 2;
      place = count + 1;
      fields = fields;
      there = are.0;
      is = are.1;
      plain = are.2;
      uncounted = are.5;
      values = is.0;
      cast = cast;
      keyed = refl;
      alone = is.4;
      asks = is.2;
      shows = λ r same. same;
      changes = λ r same. ap₂ (λ (v : Value) (vs : Row). v ∷ Null ∷ vs) same (is.3 r);
    }

  removal : AreStatements → IsRemoval take table
  unfolding everything
  removal are = record { at = at; fields = col 1 0 ∷ []; there = are.0; is = are.3; plain = are.4; shows = λ given r. refl }

  -- the statements store the records whose rows they compute
  module _ {A : Type 0} (key : A → ℕ) (Fits : A → Type 0) (row_of : A → Row) where
    -- the row of a record begins with its number
    abbrev row_by : A → Row
    row_by x = row (key x) (drop 1 (row_of x))

    stored_by : AreStatements → IsNumbered table → ((x : A) → IsComputed (key x) (drop 1 (row_of x))) → ((x : A) → cast_row table (stored (row_by x)) ≡ stored (row_by x))
        → AreStored table key Fits row_by put take
    stored_by are numbered is cast = record {
      puts = λ x old new n has run.
          puts_record table numbered key Fits row_by (λ y. refl) x (stored (row_by x)) (is x).1 old.now new.now
          (upserted put (row_by x) table (pos (key x)) (stored (row_by x)) (upsert (key x) (drop 1 (row_of x)) are (is x) (cast x)) old new n has run);
      takes = λ x old new n has run.
          takes_record table numbered key Fits row_by (λ y. refl) x old.now new.now (removed take table (removal are) (pos (key x)) old new n has run);
      sound = λ x old new n has run.
          upserted_sound put (row_by x) table (pos (key x)) (stored (row_by x)) (upsert (key x) (drop 1 (row_of x)) are (is x) (cast x)) old new n has run;
    }

-- ---- the tables

pub caller_stored : AreStored callers_table caller_key IsCaller caller_row PUT_CALLER.now TAKE_CALLER.now
unfolding understood everything desk_schema first_key
caller_stored = stored_by PUT_CALLER.now TAKE_CALLER.now callers_table 1 3 caller_key IsCaller caller_row (refl, refl, (refl, refl), refl, (refl, refl), refl) (λ r. refl)
    (λ x. (refl, refl, refl, λ r. refl, λ r h. only_first _ h)) (λ x. simp (cast_null, cast_int))

pub kept_stored : AreStored kept_table kept_key FitsKept kept_row PUT_KEPT.now TAKE_KEPT.now
unfolding understood everything desk_schema first_key
kept_stored = stored_by PUT_KEPT.now TAKE_KEPT.now kept_table 2 3 kept_key FitsKept kept_row (refl, refl, (refl, refl), refl, (refl, refl), refl) (λ r. refl)
    (λ x. (refl, refl, refl, λ r. refl, λ r h. only_first _ h)) (λ x. simp (cast_null, cast_int))

pub place_stored : AreStored places_table place_key FitsPlace place_row PUT_PLACE.now TAKE_PLACE.now
unfolding understood everything desk_schema first_key
place_stored = stored_by PUT_PLACE.now TAKE_PLACE.now places_table 3 3 place_key FitsPlace place_row (refl, refl, (refl, refl), refl, (refl, refl), refl) (λ r. refl)
    (λ x. (refl, refl, refl, λ r. refl, λ r h. only_first _ h)) (λ x. simp (cast_null, cast_int))

pub route_stored : AreStored fixed_table route_key IsRoute route_row PUT_ROUTE.now TAKE_ROUTE.now
unfolding understood everything desk_schema first_key
route_stored = stored_by PUT_ROUTE.now TAKE_ROUTE.now fixed_table 4 6 route_key IsRoute route_row (refl, refl, (refl, refl), refl, (refl, refl), refl) (λ r. refl)
    (λ x. (refl, refl, refl, λ r. refl, λ r h. only_first _ h)) (λ x. simp (cast_null, cast_int))

pub rider_stored : AreStored riders_table rider_key FitsRider rider_row PUT_RIDER.now TAKE_RIDER.now
unfolding understood everything desk_schema first_key
rider_stored = stored_by PUT_RIDER.now TAKE_RIDER.now riders_table 6 2 rider_key FitsRider rider_row (refl, refl, (refl, refl), refl, (refl, refl), refl) (λ r. refl)
    (λ x. (refl, refl, refl, λ r. refl, λ r h. only_first _ h)) (λ x. simp (cast_null, cast_int))

pub trip_stored : AreStored trips_table trip_key FitsTrip trip_row PUT_TRIP.now TAKE_TRIP.now
unfolding understood everything desk_schema first_key
trip_stored = stored_by PUT_TRIP.now TAKE_TRIP.now trips_table 8 15 trip_key FitsTrip trip_row (refl, refl, (refl, refl), refl, (refl, refl), refl) (λ r. refl)
    (λ x. (refl, refl, refl, λ r. refl, λ r h. only_first _ h)) (λ x. simp (cast_null, cast_int, optional_cast))
