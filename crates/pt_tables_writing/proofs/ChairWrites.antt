-- What the statements mean that put rows of second tables, at most one for each record.
use Rattle.std.proofs.Common.{◌≡◌, ℕ, ◌<◌, ◌^◌, ◌==◌, pos, Bool, true, false, not, List, [], ◌∷◌, ◌++◌, flat_map, IsTrue, Ok, refl, sym, ap, subst}
use Rattle.std.specs.Prelude.{IsPermutation}
use Rattle.std.specs.List.{AllByRecursion}
use Rattle.sqlite.specs.Cast.{cast_row}
use Rattle.sqlite.specs.Collation.TheVariants.{Binary}
use Rattle.sqlite.specs.Edit.{with_rowid}
use Rattle.sqlite.specs.Effect.{Database}
use Rattle.sqlite.specs.Listing.{understood}
use Rattle.sqlite.specs.Order.{Row}
use Rattle.sqlite.specs.Rowids.TheVariants.{Chosen}
use Rattle.sqlite.specs.State.{State, Executes}
use Rattle.sqlite.specs.Table.{Table}
use Rattle.sqlite.specs.Term.{lit, col, op2}
use Rattle.sqlite.specs.declared.types.Value.TheVariants.{Null}
use Rattle.pt_tables_rows.specs.BinaryOp.TheVariants.{Compare}
use Rattle.pt_tables_rows.specs.CompareOp.TheVariants.{Eq}
use Rattle.pt_tables_rows.specs.Compute.{everything}
use Rattle.sqlite_value.specs.Keys.{first_key}
use Rattle.pt_base_values.specs.declared.rider.Rider.{Rider}
use Rattle.pt_base_values.specs.declared.trip.Trip.{Trip}
use Rattle.pt_base_values.specs.declared.vehicle.Vehicle.{Vehicle}
use Rattle.pt_desk_rules.specs.State.{rider_key, trip_key, vehicle_key}
use Rattle.pt_base_records.specs.Records.{put}
use Rattle.pt_tables_rows.specs.Rows.{number_value, row_if, rider_chair_rows, trip_chair_rows, vehicle_chair_rows}
use Rattle.pt_tables_rows.specs.Schema.{desk_schema, rider_chairs_table, trip_chairs_table, vehicle_chairs_table}
use Rattle.pt_desk_spelling.specs.Ranges.{IsVehicle}
use Rattle.pt_tables_writing.specs.Grouped.{Adds}
use Rattle.pt_tables_writing.specs.Writes.{Puts, Takes}
use Rattle.pt_tables_writing.specs.declared.chairs.TheConstants.{PUT_RIDER_CHAIR, TAKE_RIDER_CHAIR, PUT_TRIP_CHAIR, TAKE_TRIP_CHAIR, INSERT_VEHICLE_CHAIRS, DELETE_VEHICLE_CHAIRS}
use Rattle.pt_tables_writing.proofs.AppendLemmas.{adds, behind_all}
use Rattle.pt_tables_writing.proofs.CastLemmas.{cast_null, cast_int}
use Rattle.pt_tables_writing.proofs.DeleteLemmas.{IsDelete, has_columns, removes}
use Rattle.pt_tables_writing.proofs.InsertLemmas.{IsInsert}
use Rattle.pt_tables_writing.proofs.KeyLemmas.{pair-told}
use Rattle.pt_tables_writing.proofs.NumberedLemmas.{others}
use Rattle.pt_tables_writing.proofs.NumberedWrites.{puts_so, takes_so}
use Rattle.pt_tables_writing.proofs.RecordRows.{rewrites-permuted, rows-put, takes}
use Rattle.pt_tables_writing.proofs.RemovalLemmas.{IsRemoval, removed}
use Rattle.pt_tables_writing.proofs.UpsertLemmas.{IsUpsert, upserted, only_first}
use Rattle.pt_tables_rows.proofs.SameRows.{day-word}
use Rattle.pt_desk_rules.specs.Ranges.{FitsRider, FitsTrip}

-- to put a record with no row is to delete the row of the one with its key
pub puts_none : {A : Type 0} (table : Table) (key : A → ℕ) (Fits : A → Type 0) (rows_of : A → List Row) (new : A) → rows_of new ≡ [] → (old_db new_db : Database)
    → Takes table key Fits rows_of new old_db new_db → Puts table key Fits rows_of new old_db new_db
puts_none table key Fits rows_of new none old_db new_db took xs order fits =
    rewrites-permuted table (flat_map rows_of xs) (flat_map rows_of (others key new xs)) (flat_map rows_of (put key new xs)) old_db new_db
    (subst (λ rs. IsPermutation (rs ++ flat_map rows_of (others key new xs)) (flat_map rows_of (put key new xs))) none (rows-put key rows_of new xs order)) (took xs order fits)

-- ---- riders

abbrev rider_row_beside : Rider → Row
rider_row_beside rider = number_value rider.id ∷ []

abbrev rider_stored : Rider → Row
rider_stored rider = number_value rider.id ∷ Null ∷ []

rider_cast : (rider : Rider) → cast_row rider_chairs_table (rider_stored rider) ≡ rider_stored rider
rider_cast rider = simp (cast_null, cast_int)

put_rider_text : (rider : Rider) → IsUpsert PUT_RIDER_CHAIR.now (rider_row_beside rider) rider_chairs_table (pos rider.id) (rider_stored rider)
unfolding understood everything desk_schema first_key
put_rider_text rider = record {
  at = 11;
  terms = col 0 0 ∷ lit Null ∷ [];
  width = 2;
  place = 1;
  fields = col 1 0 ∷ col 0 0 ∷ lit Null ∷ [];
  there = refl;
  is = refl;
  plain = (refl, refl);
  uncounted = refl;
  values = refl;
  cast = rider_cast rider;
  keyed = refl;
  alone = λ r h. only_first _ h;
  asks = refl;
  shows = λ r is. is;
  changes = λ r is. refl;
}

take_rider_text : IsRemoval TAKE_RIDER_CHAIR.now rider_chairs_table
unfolding understood everything desk_schema
take_rider_text = record { at = 11; fields = col 1 0 ∷ []; there = refl; is = refl; plain = (refl, refl); shows = λ given r. refl }

module _ (rider : Rider) (old new : State) (count : ℕ) (has : old.now.schema ≡ desk_schema) where
  pub puts_rider_chair : IsTrue rider.wheelchair → Executes PUT_RIDER_CHAIR.now (rider_row_beside rider) old new
      (Ok count) → Puts rider_chairs_table rider_key FitsRider rider_chair_rows rider old.now new.now
  puts_rider_chair marked h =
      puts_so rider_chairs_table (λ r. refl) rider_key FitsRider (λ x. x.wheelchair) rider_row_beside (λ x. refl) rider (rider_stored rider) marked refl old.now new.now
      (upserted PUT_RIDER_CHAIR.now (rider_row_beside rider) rider_chairs_table (pos rider.id) (rider_stored rider) (put_rider_text rider) old new count has h)

  pub takes_rider_chair : Executes TAKE_RIDER_CHAIR.now (number_value rider.id ∷ []) old new (Ok count) → Takes rider_chairs_table rider_key FitsRider rider_chair_rows rider old.now new.now
  takes_rider_chair h =
      takes_so rider_chairs_table (λ r. refl) rider_key FitsRider (λ x. x.wheelchair) rider_row_beside (λ x. refl) rider old.now new.now
      (removed TAKE_RIDER_CHAIR.now rider_chairs_table take_rider_text (pos rider.id) old new count has h)

-- ---- trips

abbrev trip_row_beside : Trip → Row
trip_row_beside trip = number_value trip.id ∷ []

abbrev trip_stored : Trip → Row
trip_stored trip = number_value trip.id ∷ Null ∷ []

trip_cast : (trip : Trip) → cast_row trip_chairs_table (trip_stored trip) ≡ trip_stored trip
trip_cast trip = simp (cast_null, cast_int)

put_trip_text : (trip : Trip) → IsUpsert PUT_TRIP_CHAIR.now (trip_row_beside trip) trip_chairs_table (pos trip.id) (trip_stored trip)
unfolding understood everything desk_schema first_key
put_trip_text trip = record {
  at = 13;
  terms = col 0 0 ∷ lit Null ∷ [];
  width = 2;
  place = 1;
  fields = col 1 0 ∷ col 0 0 ∷ lit Null ∷ [];
  there = refl;
  is = refl;
  plain = (refl, refl);
  uncounted = refl;
  values = refl;
  cast = trip_cast trip;
  keyed = refl;
  alone = λ r h. only_first _ h;
  asks = refl;
  shows = λ r is. is;
  changes = λ r is. refl;
}

take_trip_text : IsRemoval TAKE_TRIP_CHAIR.now trip_chairs_table
unfolding understood everything desk_schema
take_trip_text = record { at = 13; fields = col 1 0 ∷ []; there = refl; is = refl; plain = (refl, refl); shows = λ given r. refl }

module _ (trip : Trip) (old new : State) (count : ℕ) (has : old.now.schema ≡ desk_schema) where
  pub puts_trip_chair : IsTrue trip.wheelchair → Executes PUT_TRIP_CHAIR.now (trip_row_beside trip) old new (Ok count) → Puts trip_chairs_table trip_key FitsTrip trip_chair_rows trip old.now new.now
  puts_trip_chair marked h =
      puts_so trip_chairs_table (λ r. refl) trip_key FitsTrip (λ x. x.wheelchair) trip_row_beside (λ x. refl) trip (trip_stored trip) marked refl old.now new.now
      (upserted PUT_TRIP_CHAIR.now (trip_row_beside trip) trip_chairs_table (pos trip.id) (trip_stored trip) (put_trip_text trip) old new count has h)

  pub takes_trip_chair : Executes TAKE_TRIP_CHAIR.now (number_value trip.id ∷ []) old new (Ok count) → Takes trip_chairs_table trip_key FitsTrip trip_chair_rows trip old.now new.now
  takes_trip_chair h =
      takes_so trip_chairs_table (λ r. refl) trip_key FitsTrip (λ x. x.wheelchair) trip_row_beside (λ x. refl) trip old.now new.now
      (removed TAKE_TRIP_CHAIR.now trip_chairs_table take_trip_text (pos trip.id) old new count has h)

-- ---- vehicles

abbrev vehicle_row_beside : Vehicle → Row
vehicle_row_beside version = number_value version.id ∷ number_value version.from_day ∷ number_value version.chairs ∷ []

vehicle_cast : (version : Vehicle) → cast_row vehicle_chairs_table (Null ∷ vehicle_row_beside version) ≡ Null ∷ vehicle_row_beside version
vehicle_cast version = simp (cast_null, cast_int)

vehicle_insert : (version : Vehicle) → IsInsert INSERT_VEHICLE_CHAIRS.now (vehicle_row_beside version) vehicle_chairs_table (behind_all (vehicle_row_beside version ∷ []))
unfolding understood everything desk_schema
vehicle_insert version = record {
  at = 12;
  terms = lit Null ∷ col 0 0 ∷ col 0 1 ∷ col 0 2 ∷ [];
  width = 4;
  source = (Null ∷ vehicle_row_beside version) ∷ [];
  there = refl;
  is = refl;
  plain = (refl, refl);
  uncounted = refl;
  values = refl;
  news = λ rows. ap (λ r. with_rowid Chosen rows r ∷ []) (vehicle_cast version);
  quiet = λ rows. refl;
}

vehicle_delete : (id day : ℕ) → IsDelete DELETE_VEHICLE_CHAIRS.now (number_value id ∷ number_value day ∷ []) vehicle_chairs_table (has_columns (number_value id ∷ number_value day ∷ []))
unfolding understood everything desk_schema
vehicle_delete id day = record {
  at = 12;
  test = op2 (Compare Eq Binary) (col 1 1) (col 0 0) ∷ op2 (Compare Eq Binary) (col 1 2) (col 0 1) ∷ [];
  there = refl;
  is = refl;
  plain = (refl, refl);
  says = λ r. refl;
}

so_all : (P : Row → Type 0) (so : Bool) (row : Row) → P row → AllByRecursion P (row_if so row)
so_all P true row holds = (holds, tt)
so_all P false row holds = tt

module _ (version : Vehicle) (old new : State) (count : ℕ) (has : old.now.schema ≡ desk_schema) where
  pub adds_vehicle_chairs : IsTrue (not (version.chairs == 0))
      → Executes INSERT_VEHICLE_CHAIRS.now (vehicle_row_beside version) old new (Ok count)
      → Adds vehicle_chairs_table (vehicle_chair_rows version) old.now new.now
  adds_vehicle_chairs marked h =
      let own : vehicle_chair_rows version ≡ vehicle_row_beside version ∷ [] = ap (λ s. row_if s (vehicle_row_beside version)) marked in
      subst (λ rs. Adds vehicle_chairs_table rs old.now new.now) (sym own)
      (adds vehicle_chairs_table (vehicle_row_beside version ∷ []) (λ id. refl, tt) INSERT_VEHICLE_CHAIRS.now (vehicle_row_beside version) (vehicle_insert version) old new count has h)

  pub takes_vehicle_chairs : version.from_day < 2 ^ 32 → Executes DELETE_VEHICLE_CHAIRS.now (number_value version.id ∷ number_value version.from_day ∷ []) old new (Ok count)
      → Takes vehicle_chairs_table vehicle_key IsVehicle vehicle_chair_rows version old.now new.now
  takes_vehicle_chairs low h =
      let params = number_value version.id ∷ number_value version.from_day ∷ [] in
      takes vehicle_key vehicle_chair_rows vehicle_chairs_table IsVehicle version (has_columns params)
      (λ x fits. so_all _ (not (x.chairs == 0)) (vehicle_row_beside x)
      (pair-told x.id x.from_day version.id version.from_day (number_value x.chairs ∷ [])
      (day-word x.from_day fits.from_day) low)) old.now new.now
      (removes DELETE_VEHICLE_CHAIRS.now params vehicle_chairs_table (has_columns params) (vehicle_delete version.id version.from_day) old new count has h)
