-- What the statement means that overwrites the agency's row.
use Rattle.std.proofs.Common.{◌≡◌, ℕ, pos, [], ◌∷◌, not, cond, Ok, refl, ap}
use Rattle.std.specs.Ordering.{is_eq}
use Rattle.sqlite.specs.Cast.{cast_row}
use Rattle.sqlite.specs.Effect.{IsDatabase}
use Rattle.sqlite.specs.Listing.{understood}
use Rattle.sqlite.specs.Order.{Row}
use Rattle.sqlite.specs.State.{State, Executes}
use Rattle.sqlite.specs.Term.{lit, col}
use Rattle.sqlite.specs.Tree.{without_rowid}
use Rattle.sqlite.specs.declared.types.Value.TheVariants.{Null}
use Rattle.sqlite_keyed.proofs.ListLemmas.{IsPermutation-same}
use Rattle.pt_tables_rows.specs.Compute.{everything}
use Rattle.sqlite_value.specs.Keys.{first_key}
use Rattle.sqlite_value.proofs.OrderLemmas.{value_cmp-Int}
use Rattle.pt_base_values.specs.declared.policy.Policy.{Policy}
use Rattle.pt_tables_rows.specs.Rows.{number_value, desk_row}
use Rattle.pt_tables_rows.specs.Schema.{table_version, desk_schema, desk_table}
use Rattle.pt_tables_writing.specs.Writes.{Rewrites}
use Rattle.pt_tables_writing.specs.declared.numbered.desk.TheConstants.{WRITE_DESK}
use Rattle.pt_tables_writing.proofs.CastLemmas.{cast_null, cast_int}
use Rattle.pt_tables_writing.proofs.NumberedWrites.{put_rewrites}
use Rattle.pt_tables_writing.proofs.UpsertLemmas.{IsUpsert, upserted, upserted_sound, only_first}

-- the columns after the number
abbrev pub rest : Policy → ℕ → Row
rest policy last_trip =
    number_value table_version ∷ number_value policy.base ∷ number_value policy.transfer ∷ number_value policy.fare ∷ number_value policy.service ∷ number_value policy.extra_ride
    ∷ number_value policy.min_missed ∷ number_value policy.percent ∷ number_value policy.span_days ∷ number_value last_trip ∷ []

-- the row as it is stored, its number as its rowid
abbrev pub stored : Policy → ℕ → Row
stored policy last_trip = number_value 1 ∷ Null ∷ rest policy last_trip

pub stored_cast : (policy : Policy) (last_trip : ℕ) → cast_row desk_table (stored policy last_trip) ≡ stored policy last_trip
stored_cast policy last_trip = simp (cast_null, cast_int)

write_text : (policy : Policy) (last_trip : ℕ) → IsUpsert WRITE_DESK.now (desk_row policy last_trip) desk_table (pos 1) (stored policy last_trip)
unfolding understood everything desk_schema first_key
write_text policy last_trip = record {
  at = 0;
  terms = col 0 0 ∷ lit Null ∷ col 0 1 ∷ col 0 2 ∷ col 0 3 ∷ col 0 4 ∷ col 0 5 ∷ col 0 6 ∷ col 0 7 ∷ col 0 8 ∷ col 0 9 ∷ col 0 10 ∷ [];
  width = 12;
  place = 11;
  fields = col 1 0 ∷ col 1 0 ∷ lit Null ∷ col 0 1 ∷ col 0 2 ∷ col 0 3 ∷ col 0 4 ∷ col 0 5 ∷ col 0 6 ∷ col 0 7 ∷ col 0 8 ∷ col 0 9 ∷ col 0 10 ∷ [];
  there = refl;
  is = refl;
  plain = (refl, refl);
  uncounted = refl;
  values = refl;
  cast = stored_cast policy last_trip;
  keyed = refl;
  alone = λ r h. only_first _ h;
  asks = refl;
  shows = λ r is. is;
  changes = λ r is. ap (λ v. v ∷ Null ∷ rest policy last_trip) is;
}

-- the agency has the one row
one_row : (policy : Policy) (last_trip : ℕ) → without_rowid (pos 1) (desk_row policy last_trip ∷ []) ≡ []
one_row policy last_trip = ap (λ o. cond (not (is_eq o)) (desk_row policy last_trip ∷ []) []) (value_cmp-Int (pos 1) (pos 1))

pub writes_desk : (policy : Policy) (last_trip : ℕ) (old new : State) (count : ℕ) → old.now.schema ≡ desk_schema → Executes WRITE_DESK.now (desk_row policy last_trip) old new (Ok count)
    → (p : Policy) (n : ℕ) → Rewrites desk_table (desk_row p n ∷ []) (desk_row policy last_trip ∷ []) old.now new.now
writes_desk policy last_trip old new count has h p n =
    put_rewrites desk_table (λ r. refl) (pos 1) (stored policy last_trip) (desk_row policy last_trip) (desk_row p n ∷ []) (desk_row policy last_trip ∷ []) old.now new.now refl refl
    (IsPermutation-same _ _ (ap (λ rows. desk_row policy last_trip ∷ rows) (one_row p n)))
    (upserted WRITE_DESK.now (desk_row policy last_trip) desk_table (pos 1) (stored policy last_trip) (write_text policy last_trip) old new count has h)

pub desk_sound : (policy : Policy) (last_trip : ℕ) (old new : State) (count : ℕ) → old.now.schema ≡ desk_schema
    → Executes WRITE_DESK.now (desk_row policy last_trip) old new (Ok count) → IsDatabase new.now
desk_sound policy last_trip old new count has h =
    upserted_sound WRITE_DESK.now (desk_row policy last_trip) desk_table (pos 1) (stored policy last_trip) (write_text policy last_trip) old new count has h
