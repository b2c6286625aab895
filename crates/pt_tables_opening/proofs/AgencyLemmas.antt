-- What the only row of the desk's table says of the agency.
use Rattle.std.proofs.Common.{◌≡◌, ℕ, List, [], ◌∷◌, Result, Ok, Err, IfOk, IfErr, ◌⊎◌, inl, inr, sym, ap, subst, arith}
use Rattle.std.proofs.lemmas.List.Sorted.{IsPermutation-sym, IsPermutation-trans}
use Rattle.sqlite.specs.Order.{Row, column}
use Rattle.sqlite.specs.Tree.{Trees}
use Rattle.sqlite.proofs.Callers.{one_permutation}
use Rattle.pt_base_values.specs.declared.policy.Policy.{Policy}
use Rattle.pt_tables_reading.specs.Reading.{agency_row, FitsAgency}
use Rattle.pt_tables_opening.specs.Faults.{fault, unsound}
use Rattle.pt_base_values.specs.Fault.{code_of}
use Rattle.pt_base_values.specs.declared.fault.Cause.TheVariants as cause
use Rattle.pt_tables_opening.specs.Refused.{SparesOtherVersion}
use Rattle.pt_tables_opening.specs.Standing.{NoneStandsTo}
use Rattle.pt_tables_opening.specs.declared.open_fault.OpenFault.{OpenFault}
use Rattle.pt_tables_rows.specs.Rows.{desk_row}
use Rattle.pt_tables_rows.specs.Schema.{desk_table}
use Rattle.pt_tables_rows.specs.Tables.{AreRows}
use Rattle.pt_tables_opening.specs.Agency.{IsAgencyOf, HasOtherVersion, IsOtherVersion, TellsNoAgency}

module _ (trees : Trees) (rows : List Row) (are : AreRows desk_table trees rows) where
  -- one row is all rows
  pub only_row : (row : Row) → AreRows desk_table trees (row ∷ []) → row ∷ [] ≡ rows
  only_row row one = sym (one_permutation row rows (IsPermutation-trans (row ∷ []) _ rows (IsPermutation-sym _ (row ∷ []) one) are))

  other_version : IsOtherVersion rows → HasOtherVersion trees
  other_version h = (h.0, subst (AreRows desk_table trees) (sym h.1) are, h.2)

  no_agency : TellsNoAgency rows → NoneStandsTo 1 trees
  no_agency h = λ s stands. h.none (s.policy, s.last_trip) stands.0.sound.0 (only_row (desk_row s.policy s.last_trip) stands.0.rows)

  pub agency_told : {F : Type 0} (r : Result (Policy × ℕ) F) → IfOk r (λ agency. (agency_row agency ∷ [] ≡ rows) × FitsAgency agency) → IfOk r (IsAgencyOf trees)
  agency_told (Ok agency) h = record { row_is = subst (AreRows desk_table trees) (sym h.0) are; fits = h.1 }
  agency_told (Err f) h = tt

pub agency_refused : {F : Type 0} (trees : Trees) (rows : List Row) (Clean Has : Type 0) → (Clean → Has → AreRows desk_table trees rows)
    → (memory store tables unsound : F) (r : Result (Policy × ℕ) F)
    → IfErr r (λ refused. ((refused ≡ tables) × IsOtherVersion rows) ⊎ ((refused ≡ unsound) × TellsNoAgency rows))
    → IfErr r (λ refused. (refused ≡ memory) ⊎ ((refused ≡ store) ⊎ (((refused ≡ tables) × (Clean → Has → HasOtherVersion trees)) ⊎ ((refused ≡ unsound) × (Clean → Has → NoneStandsTo 1 trees)))))
agency_refused trees rows Clean Has are memory store tables unsound (Ok agency) h = tt
agency_refused trees rows Clean Has are memory store tables unsound (Err f) h = elim h [
  | inl told ↦ inr (inr (inl (told.0, λ clean has. other_version trees rows (are clean has) told.1)))
  | inr told ↦ inr (inr (inr (told.0, λ clean has. no_agency trees rows (are clean has) told.1)))
]

-- ---- the version is checked before the rows

abbrev code_in : OpenFault → ℕ
code_in it = it.code

first_or : Row → List Row → Row
first_or r [] = r
first_or r (row ∷ rows) = row

-- a row of this version has no other version
this_version : (trees : Trees) (policy : Policy) (last_trip : ℕ) → AreRows desk_table trees (desk_row policy last_trip ∷ []) → HasOtherVersion trees → ⊥
unfolding first_or
this_version trees policy last_trip are other =
    let row = desk_row policy last_trip in
    other.2 (ap (λ rows. column (first_or row rows) 1) (only_row trees (row ∷ []) are other.0 other.1))

-- if the version is this one, any refusal may come
pub spares_none : (trees : Trees) (policy : Policy) (last_trip : ℕ) → AreRows desk_table trees (desk_row policy last_trip ∷ []) → (it : OpenFault) → SparesOtherVersion trees it
spares_none trees policy last_trip are it = λ other code. this_version trees policy last_trip are other

pub spares_by_tables : (trees : Trees) (it : OpenFault) → it ≡ fault cause.OtherTables → SparesOtherVersion trees it
spares_by_tables trees it is = λ other code. let n : it.code ≡ 30 = ap code_in is in let m : it.code ≡ 31 = code in absurd (omega arith)

pub agency_spares : (trees : Trees) (rows : List Row) → AreRows desk_table trees rows → (r : Result (Policy × ℕ) OpenFault)
    → IfErr r (λ refused. ((refused ≡ fault cause.OtherTables) × IsOtherVersion rows) ⊎ ((refused ≡ unsound 1) × TellsNoAgency rows)) → IfErr r (SparesOtherVersion trees)
agency_spares trees rows are (Ok agency) h = tt
agency_spares trees rows are (Err it) h = elim h [
  | inl told ↦ spares_by_tables trees it told.0
  | inr told ↦ λ other code. told.1.this_version (other.0, only_row trees rows are other.0 other.1, other.2)
]
