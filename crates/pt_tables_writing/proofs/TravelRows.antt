-- What the statements on travel tables mean.
use Rattle.std.proofs.Common.{◌≡◌, ℕ, ◌==◌, List, [], ◌∷◌, drop, ◌++◌, ◌+◌, ◌-◌, ◌<◌, ◌≤◌, length, map, get_or, take, Ok, refl, sym, ap, ◌∙◌, arith}
use Rattle.std.proofs.lemmas.List.{map-append, take_all, take_more}
use Rattle.sqlite.specs.declared.types.Value.TheVariants.{Null}
use Rattle.sqlite.specs.Cast.{cast_row}
use Rattle.sqlite.specs.Collation.TheVariants.{Binary}
use Rattle.sqlite.specs.Edit.{numbered, with_rowid}
use Rattle.sqlite.specs.Listing.{understood}
use Rattle.sqlite.specs.Order.{Row}
use Rattle.sqlite.specs.Rowids.TheVariants.{Chosen}
use Rattle.sqlite.specs.State.{State, Executes}
use Rattle.sqlite.specs.Term.{lit, col, op2}
use Rattle.sqlite_keyed.proofs.ListLemmas.{all-map}
use Rattle.pt_tables_rows.specs.BinaryOp.TheVariants.{Compare}
use Rattle.pt_tables_rows.specs.CompareOp.TheVariants.{Eq}
use Rattle.pt_tables_rows.specs.Compute.{everything}
use Rattle.pt_desk_rules.specs.State.{travel_key}
use Rattle.pt_desk_rules.specs.Travel.{TravelTable}
use Rattle.pt_travel.specs.Chain as travel
use Rattle.pt_tables_writing.specs.Grouped.{Adds}
use Rattle.pt_tables_rows.specs.Rows.{number_value, travel_row, travel_rows}
use Rattle.pt_tables_rows.specs.Schema.{desk_schema, travel_table}
use Rattle.pt_tables_writing.specs.Writes.{Takes}
use Rattle.pt_tables_writing.specs.declared.grouped.travel.TheConstants.{DELETE_TRAVEL, INSERT_FOUR_DRIVES, INSERT_TRAVEL}
use Rattle.pt_tables_writing.proofs.AppendLemmas.{adds, behind_all}
use Rattle.pt_tables_writing.proofs.CastLemmas.{cast_null, cast_int}
use Rattle.pt_tables_writing.proofs.DeleteLemmas.{IsDelete, has_columns, removes}
use Rattle.pt_tables_writing.proofs.InsertLemmas.{IsInsert}
use Rattle.pt_tables_writing.proofs.KeyLemmas.{one-told}
use Rattle.pt_tables_writing.proofs.RecordRows.{takes}
use Rattle.pt_desk_rules.specs.Ranges.{FitsTravel}

module _ (from_day : ℕ) (drive : travel.Row) where
  abbrev row : Row
  row = travel_row from_day drive

  drive_cast : cast_row travel_table (Null ∷ row) ≡ Null ∷ row
  drive_cast = simp (cast_null, cast_int)

  drive_insert : IsInsert INSERT_TRAVEL.now row travel_table (behind_all (row ∷ []))
  unfolding understood everything desk_schema
  drive_insert = record {
    at = 10;
    terms = lit Null ∷ col 0 0 ∷ col 0 1 ∷ col 0 2 ∷ col 0 3 ∷ [];
    width = 5;
    source = (Null ∷ row) ∷ [];
    there = refl;
    is = refl;
    plain = (refl, refl);
    uncounted = refl;
    values = refl;
    news = λ rows. ap (λ r. with_rowid Chosen rows r ∷ []) drive_cast;
    quiet = λ rows. refl;
  }

  pub drive-added : (old new : State) (count : ℕ) → old.now.schema ≡ desk_schema → Executes INSERT_TRAVEL.now row old new (Ok count) → Adds travel_table (row ∷ []) old.now new.now
  drive-added = adds travel_table (row ∷ []) (λ id. refl, tt) INSERT_TRAVEL.now row drive_insert

-- four rows
module _ (from_day : ℕ) (first second third fourth : travel.Row) where
  abbrev four_rows : List Row
  four_rows = map (travel_row from_day) (first ∷ second ∷ third ∷ fourth ∷ [])

  -- the day is a parameter once
  abbrev pub four_params : Row
  four_params = travel_row from_day first ++ (drop 1 (travel_row from_day second) ++ (drop 1 (travel_row from_day third) ++ drop 1 (travel_row from_day fourth)))

  four_insert : IsInsert INSERT_FOUR_DRIVES.now four_params travel_table (behind_all four_rows)
  unfolding understood everything desk_schema
  four_insert = record {
    at = 10;
    terms = lit Null ∷ col 0 0 ∷ col 0 1 ∷ col 0 2 ∷ col 0 3 ∷ lit Null ∷ col 0 0 ∷ col 0 4 ∷ col 0 5 ∷ col 0 6 ∷ lit Null ∷ col 0 0 ∷ col 0 7 ∷ col 0 8 ∷ col 0 9
        ∷ lit Null ∷ col 0 0 ∷ col 0 10 ∷ col 0 11 ∷ col 0 12 ∷ [];
    width = 5;
    source = map (λ r. Null ∷ r) four_rows;
    there = refl;
    is = refl;
    plain = (refl, refl);
    uncounted = refl;
    values = refl;
    news = λ rows i. numbered Chosen rows (drive_cast from_day first i ∷ drive_cast from_day second i ∷ drive_cast from_day third i ∷ drive_cast from_day fourth i ∷ []);
    quiet = λ rows. refl;
  }

  pub four-added : (old new : State) (count : ℕ) → old.now.schema ≡ desk_schema → Executes INSERT_FOUR_DRIVES.now four_params old new (Ok count) → Adds travel_table four_rows old.now new.now
  four-added = adds travel_table four_rows (λ id. refl, (λ id. refl, (λ id. refl, (λ id. refl, tt)))) INSERT_FOUR_DRIVES.now four_params four_insert

travel_delete : (from_day : ℕ) → IsDelete DELETE_TRAVEL.now (number_value from_day ∷ []) travel_table (has_columns (number_value from_day ∷ []))
unfolding understood everything desk_schema
travel_delete from_day = record {
  at = 10;
  test = op2 (Compare Eq Binary) (col 1 1) (col 0 0) ∷ [];
  there = refl;
  is = refl;
  plain = (refl, refl);
  says = λ r. refl;
}

pub travel-taken : (gone : TravelTable) (old new : State) (count : ℕ) → old.now.schema ≡ desk_schema
    → Executes DELETE_TRAVEL.now (number_value gone.from_day ∷ []) old new (Ok count) → Takes travel_table travel_key FitsTravel travel_rows gone old.now new.now
travel-taken gone old new count has h =
    let params = number_value gone.from_day ∷ [] in
    takes travel_key travel_rows travel_table FitsTravel gone (has_columns params)
    (λ x fits. all-map (λ r. has_columns params r ≡ (travel_key x == travel_key gone)) (travel_row x.from_day)
    (λ drive. one-told x.from_day gone.from_day (drop 1 (travel_row x.from_day drive))) ((0, 0, 0) ∷ x.rows))
    old.now new.now
    (removes DELETE_TRAVEL.now params travel_table (has_columns params) (travel_delete gone.from_day) old new count has h)

pub drives-more : (at from_day : ℕ) (drives : List travel.Row) (item drive : travel.Row) → at < length drives → item ≡ get_or drives at item → drive ≡ item
    → map (travel_row from_day) (take at drives) ++ travel_row from_day drive ∷ [] ≡ map (travel_row from_day) (take (at + 1) drives)
drives-more at from_day drives item drive low is same =
    sym (map-append (travel_row from_day) (take at drives) (drive ∷ []))
    ∙ ap (map (travel_row from_day)) (ap (λ d. take at drives ++ d ∷ []) (same ∙ is) ∙ sym (take_more drives at item low))

-- four rows, and those after them
pub four_and_rest : (drives : List travel.Row) (a b c d : travel.Row) → 4 ≤ length drives → a ≡ get_or drives 0 a → b ≡ get_or drives 1 b → c ≡ get_or drives 2 c → d ≡ get_or drives 3 d
    → drives ≡ a ∷ b ∷ c ∷ d ∷ take (length drives - 4) (drop 4 drives)
four_and_rest [] a b c d four a_is b_is c_is d_is = absurd (omega (arith, four))
four_and_rest (w ∷ []) a b c d four a_is b_is c_is d_is = absurd (omega (arith, four))
four_and_rest (w ∷ x ∷ []) a b c d four a_is b_is c_is d_is = absurd (omega (arith, four))
four_and_rest (w ∷ x ∷ y ∷ []) a b c d four a_is b_is c_is d_is = absurd (omega (arith, four))
four_and_rest (w ∷ x ∷ y ∷ z ∷ rest) a b c d four a_is b_is c_is d_is =
    λ i. sym a_is i ∷ sym b_is i ∷ sym c_is i ∷ sym d_is i ∷ sym (take_all (length (w ∷ x ∷ y ∷ z ∷ rest) - 4) rest (omega arith)) i
