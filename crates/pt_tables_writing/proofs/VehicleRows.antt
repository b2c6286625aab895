-- What the statements on vehicles mean.
use Rattle.std.proofs.Common.{◌≡◌, ℕ, ◌<◌, ◌^◌, [], ◌∷◌, drop, Ok, refl, ap}
use Rattle.sqlite.specs.declared.types.Value.TheVariants.{Null}
use Rattle.sqlite.specs.Cast.{cast_row}
use Rattle.sqlite.specs.Collation.TheVariants.{Binary}
use Rattle.sqlite.specs.Edit.{with_rowid}
use Rattle.sqlite.specs.Listing.{understood}
use Rattle.sqlite.specs.Rowids.TheVariants.{Chosen}
use Rattle.sqlite.specs.State.{State, Executes}
use Rattle.sqlite.specs.Term.{lit, col, op2}
use Rattle.pt_tables_rows.specs.BinaryOp.TheVariants.{Compare}
use Rattle.pt_tables_rows.specs.CompareOp.TheVariants.{Eq}
use Rattle.pt_tables_rows.specs.Compute.{everything}
use Rattle.pt_base_values.specs.declared.vehicle.Vehicle.{Vehicle}
use Rattle.pt_desk_rules.specs.State.{vehicle_key}
use Rattle.pt_tables_writing.specs.Grouped.{Adds}
use Rattle.pt_tables_rows.specs.Rows.{number_value, vehicle_row}
use Rattle.pt_tables_rows.specs.Schema.{desk_schema, vehicles_table}
use Rattle.pt_desk_spelling.specs.Ranges.{IsVehicle}
use Rattle.pt_tables_writing.specs.Writes.{Takes}
use Rattle.pt_tables_writing.specs.declared.grouped.vehicles.TheConstants.{DELETE_VEHICLE, INSERT_VEHICLE}
use Rattle.pt_tables_writing.proofs.AppendLemmas.{adds, behind_all}
use Rattle.pt_tables_writing.proofs.CastLemmas.{cast_null, cast_int}
use Rattle.pt_tables_writing.proofs.DeleteLemmas.{IsDelete, has_columns, removes}
use Rattle.pt_tables_writing.proofs.InsertLemmas.{IsInsert}
use Rattle.pt_tables_writing.proofs.KeyLemmas.{pair-told}
use Rattle.pt_tables_writing.proofs.RecordRows.{takes}
use Rattle.pt_tables_rows.proofs.SameRows.{day-word}

vehicle_cast : (version : Vehicle) → cast_row vehicles_table (Null ∷ vehicle_row version) ≡ Null ∷ vehicle_row version
vehicle_cast version = simp (cast_null, cast_int)

vehicle_insert : (version : Vehicle) → IsInsert INSERT_VEHICLE.now (vehicle_row version) vehicles_table (behind_all (vehicle_row version ∷ []))
unfolding understood everything desk_schema
vehicle_insert version = record {
  at = 5;
  terms = lit Null ∷ col 0 0 ∷ col 0 1 ∷ col 0 2 ∷ col 0 3 ∷ col 0 4 ∷ col 0 5 ∷ col 0 6 ∷ col 0 7 ∷ [];
  width = 9;
  source = (Null ∷ vehicle_row version) ∷ [];
  there = refl;
  is = refl;
  plain = (refl, refl);
  uncounted = refl;
  values = refl;
  news = λ rows. ap (λ r. with_rowid Chosen rows r ∷ []) (vehicle_cast version);
  quiet = λ rows. refl;
}

pub vehicle-added : (version : Vehicle) (old new : State) (count : ℕ) → old.now.schema ≡ desk_schema → Executes INSERT_VEHICLE.now (vehicle_row version) old new (Ok count)
    → Adds vehicles_table (vehicle_row version ∷ []) old.now new.now
vehicle-added version = adds vehicles_table (vehicle_row version ∷ []) (λ id. refl, tt) INSERT_VEHICLE.now (vehicle_row version) (vehicle_insert version)

vehicle_delete : (id day : ℕ) → IsDelete DELETE_VEHICLE.now (number_value id ∷ number_value day ∷ []) vehicles_table (has_columns (number_value id ∷ number_value day ∷ []))
unfolding understood everything desk_schema
vehicle_delete id day = record {
  at = 5;
  test = op2 (Compare Eq Binary) (col 1 1) (col 0 0) ∷ op2 (Compare Eq Binary) (col 1 2) (col 0 1) ∷ [];
  there = refl;
  is = refl;
  plain = (refl, refl);
  says = λ r. refl;
}

pub vehicle-taken : (gone : Vehicle) → gone.from_day < 2 ^ 32 → (old new : State) (count : ℕ) → old.now.schema ≡ desk_schema
    → Executes DELETE_VEHICLE.now (number_value gone.id ∷ number_value gone.from_day ∷ []) old new (Ok count)
    → Takes vehicles_table vehicle_key IsVehicle (λ v. vehicle_row v ∷ []) gone old.now new.now
vehicle-taken gone low old new count has h =
    let params = number_value gone.id ∷ number_value gone.from_day ∷ [] in
    takes vehicle_key (λ v. vehicle_row v ∷ []) vehicles_table IsVehicle gone (has_columns params)
    (λ x fits. (pair-told x.id x.from_day gone.id gone.from_day (drop 2 (vehicle_row x)) (day-word x.from_day fits.from_day) low, tt)) old.now new.now
    (removes DELETE_VEHICLE.now params vehicles_table (has_columns params) (vehicle_delete gone.id gone.from_day) old new count has h)
