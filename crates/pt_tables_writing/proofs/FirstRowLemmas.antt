-- What the statements mean that put the first rows.
use Rattle.std.proofs.Common.{◌≡◌, ℕ, List, [], ◌∷◌, map, IsTrue, Ok, refl, sym, ap, subst, ◌∙◌}
use Rattle.sqlite.specs.declared.types.Value.TheVariants.{Null, Blob}
use Rattle.sqlite.specs.Effect.{IsDatabase}
use Rattle.sqlite.specs.Order.{Row}
use Rattle.sqlite.specs.Table.{Table}
use Rattle.sqlite.specs.Tree.{put_row, rowid}
use Rattle.sqlite.specs.View.{is_int}
use Rattle.sqlite.specs.Term.{lit, col}
use Rattle.sqlite.specs.Cast.{cast_row}
use Rattle.sqlite.specs.Edit.{with_rowid}
use Rattle.sqlite.specs.Rowids.TheVariants.{Chosen}
use Rattle.sqlite.specs.Source.TheVariants.{Values}
use Rattle.sqlite.specs.Listing.{understood}
use Rattle.sqlite.specs.State.{State, Executes}
use Rattle.sqlite_keyed.proofs.ListLemmas.{IsPermutation-same}
use Rattle.pt_tables_rows.specs.Compute.{everything}
use Rattle.pt_base_values.specs.declared.policy.Policy.{Policy}
use Rattle.pt_tables_writing.specs.Least.{first_admin}
use Rattle.pt_tables_rows.specs.Rows.{number_value, desk_row, caller_row}
use Rattle.pt_tables_rows.specs.Schema.{table_version, desk_schema, desk_table, callers_table}
use Rattle.pt_tables_rows.specs.Tables.{columns_of, Fills, HaveRowids}
use Rattle.pt_tables_writing.specs.declared.first_rows.TheConstants.{INSERT_DESK, INSERT_CALLER}
use Rattle.pt_tables_writing.proofs.CastLemmas.{cast_null, cast_int}
use Rattle.pt_tables_writing.proofs.InsertLemmas.{IsInsert, inserts}
use Rattle.pt_tables_writing.proofs.WriteLemmas.{inserted_sound}

-- the row of the agency as it is stored, its number as its rowid
abbrev stored_desk : Policy → ℕ → Row
stored_desk policy last_trip =
    number_value 1 ∷ Null ∷ number_value table_version ∷ number_value policy.base ∷ number_value policy.transfer ∷ number_value policy.fare ∷ number_value policy.service
    ∷ number_value policy.extra_ride ∷ number_value policy.min_missed ∷ number_value policy.percent ∷ number_value policy.span_days ∷ number_value last_trip ∷ []

desk_cast : (policy : Policy) (last_trip : ℕ) → cast_row desk_table (stored_desk policy last_trip) ≡ stored_desk policy last_trip
desk_cast policy last_trip = simp (cast_null, cast_int)

pub desk_insert : (policy : Policy) (last_trip : ℕ) → IsInsert INSERT_DESK.now (desk_row policy last_trip) desk_table (λ _. stored_desk policy last_trip ∷ [])
unfolding understood everything desk_schema
desk_insert policy last_trip = record {
  at = 0;
  terms = col 0 0 ∷ lit Null ∷ col 0 1 ∷ col 0 2 ∷ col 0 3 ∷ col 0 4 ∷ col 0 5 ∷ col 0 6 ∷ col 0 7 ∷ col 0 8 ∷ col 0 9 ∷ col 0 10 ∷ [];
  width = 12;
  source = stored_desk policy last_trip ∷ [];
  there = refl;
  is = refl;
  plain = (refl, refl);
  uncounted = refl;
  values = refl;
  news = λ rows. ap (λ r. with_rowid Chosen rows r ∷ []) (desk_cast policy last_trip);
  quiet = λ rows. refl;
}

-- the one row of a table, as it is stored, is shown so
fills : (text : List ℕ) (params : Row) (table : Table) (stored row : Row) → IsInsert text params table (λ _. stored ∷ []) → columns_of table stored ≡ row
    → IsTrue (is_int (rowid stored)) → (old new : State) (count : ℕ)
    → old.now.schema ≡ desk_schema → Executes text params old new (Ok count) → Fills table row old.now new.now
fills text params table stored row insert shows whole old new count has h =
    let left = inserts text params table (λ _. stored ∷ []) insert old new count has h in
    let one : old.now.trees table.tree ≡ [] → new.now.trees table.tree ≡ stored ∷ [] = λ none. left.rows ∙ ap (put_row stored) none in
    record {
      schema = left.schema;
      rows = λ none. IsPermutation-same _ _ (ap (map (columns_of table)) (one none) ∙ ap (λ r. r ∷ []) shows);
      rowids = λ none. subst HaveRowids (sym (one none)) (record { rising = (tt, tt); whole = (whole, tt) });
      others = left.others;
    }

pub fills_desk : (policy : Policy) (last_trip : ℕ) (old new : State) (count : ℕ) → old.now.schema ≡ desk_schema → Executes INSERT_DESK.now (desk_row policy last_trip) old new (Ok count)
    → Fills desk_table (desk_row policy last_trip) old.now new.now
fills_desk policy last_trip = fills INSERT_DESK.now (desk_row policy last_trip) desk_table (stored_desk policy last_trip) (desk_row policy last_trip) (desk_insert policy last_trip) refl refl

-- the first caller as it is stored
stored_admin : List ℕ → Row
stored_admin digest = number_value 1 ∷ Null ∷ number_value 6 ∷ number_value 0 ∷ Blob digest ∷ []

admin_cast : (digest : List ℕ) → cast_row callers_table (stored_admin digest) ≡ stored_admin digest
unfolding stored_admin
admin_cast digest = simp (cast_null, cast_int)

admin_insert : (digest : List ℕ) → IsInsert INSERT_CALLER.now (caller_row (first_admin digest)) callers_table (λ _. stored_admin digest ∷ [])
unfolding understood everything desk_schema stored_admin
admin_insert digest = record {
  at = 1;
  terms = col 0 0 ∷ lit Null ∷ col 0 1 ∷ col 0 2 ∷ col 0 3 ∷ [];
  width = 5;
  source = stored_admin digest ∷ [];
  there = refl;
  is = refl;
  plain = (refl, refl);
  uncounted = refl;
  values = refl;
  news = λ rows. ap (λ r. with_rowid Chosen rows r ∷ []) (admin_cast digest);
  quiet = λ rows. refl;
}

admin_shown : (digest : List ℕ) → columns_of callers_table (stored_admin digest) ≡ caller_row (first_admin digest)
unfolding stored_admin
admin_shown digest = refl

admin_whole : (digest : List ℕ) → IsTrue (is_int (rowid (stored_admin digest)))
unfolding stored_admin
admin_whole digest = refl

pub fills_admin : (digest : List ℕ) (old new : State) (count : ℕ) → old.now.schema ≡ desk_schema → Executes INSERT_CALLER.now (caller_row (first_admin digest)) old new (Ok count)
    → Fills callers_table (caller_row (first_admin digest)) old.now new.now
fills_admin digest = fills INSERT_CALLER.now (caller_row (first_admin digest)) callers_table (stored_admin digest) (caller_row (first_admin digest)) (admin_insert digest) (admin_shown digest)
    (admin_whole digest)

pub sound_admin : (digest : List ℕ) (old new : State) (count : ℕ) → old.now.schema ≡ desk_schema → Executes INSERT_CALLER.now (caller_row (first_admin digest)) old new (Ok count)
    → IsDatabase new.now
sound_admin digest old new count has h =
    let it = admin_insert digest in
    inserted_sound INSERT_CALLER.now (caller_row (first_admin digest)) callers_table it.at it.there it.plain old new count has h (Values it.terms it.width) it.is
