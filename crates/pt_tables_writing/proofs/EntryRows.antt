-- What the statements on the entries of case files mean.
use Rattle.std.proofs.Common.{◌≡◌, ℕ, ◌<◌, ◌^◌, [], ◌∷◌, drop, Option, None, Some, Ok, refl, ap}
use Rattle.sqlite.specs.declared.types.Value.TheVariants.{Null}
use Rattle.sqlite.specs.Cast.{cast, cast_row}
use Rattle.sqlite.specs.Collation.TheVariants.{Binary}
use Rattle.sqlite.specs.Edit.{with_rowid}
use Rattle.sqlite.specs.Kind.TheVariants.{Integer}
use Rattle.sqlite.specs.Listing.{understood}
use Rattle.sqlite.specs.Rowids.TheVariants.{Chosen}
use Rattle.sqlite.specs.State.{State, Executes}
use Rattle.sqlite.specs.Term.{lit, col, op2}
use Rattle.pt_tables_rows.specs.BinaryOp.TheVariants.{Compare}
use Rattle.pt_tables_rows.specs.CompareOp.TheVariants.{Eq}
use Rattle.pt_tables_rows.specs.Compute.{everything}
use Rattle.pt_desk_rules.specs.State.{entry_key}
use Rattle.pt_desk_rules.specs.declared.change.FiledEntry.{FiledEntry}
use Rattle.pt_tables_writing.specs.Grouped.{Adds}
use Rattle.pt_tables_rows.specs.Rows.{number_value, optional_value, entry_row}
use Rattle.pt_tables_rows.specs.Schema.{desk_schema, entries_table}
use Rattle.pt_desk_rules.specs.Ranges.{FitsFiled}
use Rattle.pt_tables_writing.specs.Writes.{Takes}
use Rattle.pt_tables_writing.specs.declared.grouped.entries.TheConstants.{DELETE_ENTRY, INSERT_ENTRY}
use Rattle.pt_tables_writing.proofs.AppendLemmas.{adds, behind_all}
use Rattle.pt_tables_writing.proofs.CastLemmas.{cast_null, cast_int}
use Rattle.pt_tables_writing.proofs.DeleteLemmas.{IsDelete, has_columns, removes}
use Rattle.pt_tables_writing.proofs.InsertLemmas.{IsInsert}
use Rattle.pt_tables_writing.proofs.KeyLemmas.{pair-told}
use Rattle.pt_tables_writing.proofs.RecordRows.{takes}

cast_optional : (n : Option ℕ) → cast Integer (optional_value n) ≡ optional_value n
cast_optional None = cast_int _
cast_optional (Some n) = cast_int _

entry_cast : (filed : FiledEntry) → cast_row entries_table (Null ∷ entry_row filed) ≡ Null ∷ entry_row filed
entry_cast filed = simp (cast_null, cast_int, cast_optional)

entry_insert : (filed : FiledEntry) → IsInsert INSERT_ENTRY.now (entry_row filed) entries_table (behind_all (entry_row filed ∷ []))
unfolding understood everything desk_schema
entry_insert filed = record {
  at = 7;
  terms = lit Null ∷ col 0 0 ∷ col 0 1 ∷ col 0 2 ∷ col 0 3 ∷ col 0 4 ∷ col 0 5 ∷ col 0 6 ∷ col 0 7 ∷ col 0 8 ∷ [];
  width = 10;
  source = (Null ∷ entry_row filed) ∷ [];
  there = refl;
  is = refl;
  plain = (refl, refl);
  uncounted = refl;
  values = refl;
  news = λ rows. ap (λ r. with_rowid Chosen rows r ∷ []) (entry_cast filed);
  quiet = λ rows. refl;
}

pub entry-added : (filed : FiledEntry) (old new : State) (count : ℕ) → old.now.schema ≡ desk_schema → Executes INSERT_ENTRY.now (entry_row filed) old new (Ok count)
    → Adds entries_table (entry_row filed ∷ []) old.now new.now
entry-added filed = adds entries_table (entry_row filed ∷ []) (λ id. refl, tt) INSERT_ENTRY.now (entry_row filed) (entry_insert filed)

entry_delete : (rider position : ℕ) → IsDelete DELETE_ENTRY.now (number_value rider ∷ number_value position ∷ []) entries_table (has_columns (number_value rider ∷ number_value position ∷ []))
unfolding understood everything desk_schema
entry_delete rider position = record {
  at = 7;
  test = op2 (Compare Eq Binary) (col 1 1) (col 0 0) ∷ op2 (Compare Eq Binary) (col 1 2) (col 0 1) ∷ [];
  there = refl;
  is = refl;
  plain = (refl, refl);
  says = λ r. refl;
}

pub entry-taken : (gone : FiledEntry) → gone.position < 2 ^ 32 → (old new : State) (count : ℕ) → old.now.schema ≡ desk_schema
    → Executes DELETE_ENTRY.now (number_value gone.rider ∷ number_value gone.position ∷ []) old new (Ok count) → Takes entries_table entry_key FitsFiled (λ e. entry_row e ∷ []) gone old.now new.now
entry-taken gone low old new count has h =
    let params = number_value gone.rider ∷ number_value gone.position ∷ [] in
    takes entry_key (λ e. entry_row e ∷ []) entries_table FitsFiled gone (has_columns params)
    (λ x fits. (pair-told x.rider x.position gone.rider gone.position (drop 2 (entry_row x)) fits.position low, tt)) old.now new.now
    (removes DELETE_ENTRY.now params entries_table (has_columns params) (entry_delete gone.rider gone.position) old new count has h)
