-- A rider's standing by the tests of the list is that by numbered positions.
use Rattle.std.specs.Prelude.{◌≡◌, ℕ, ◌↔◌, Bool, true, false, List, Option, Some, None, nat_le, if◌then◌else◌, refl}
use Rattle.std.proofs.Common.{sym, ◌∙◌, inl, inr}
use Rattle.std.proofs.lemmas.Bool.{false≢true}
use Rattle.pt_rights_files.specs.declared.entry.Grant.{Grant}
use Rattle.pt_rights_files.specs.declared.entry.Entered.{Entered}
use Rattle.pt_rights_files.specs.declared.case_file.Standing.{Standing}
use Rattle.pt_rights_files.specs.declared.case_file.Standing.TheVariants as standing
use Rattle.pt_rights_files.specs.Appeals.{is_overdue}
use Rattle.pt_rights_files.specs.Standing.{is_presumed, last_grant, standing_by, standing_of}
use Rattle.pt_rights_files.specs.ByPosition.{IsPresumed, IsOverdue, IsGrantedFor}
use Rattle.pt_rights_files.proofs.Positioned.{presumed_position, presumed_test, granted_test, granted_value, last_position, last_value}
use Rattle.pt_rights_files.proofs.PositionedAppeals.{untrue, overdue-law}

-- the first of presumed, overdue and what the last grant gives
abbrev first_of_three : Bool → Bool → Standing → Standing
first_of_three presumed overdue last =
    if presumed then standing.Presumed else (if overdue then standing.AppealOverdue else last)

is_first : (presumed overdue : Bool) (last : Standing)
    → (last ≡ standing.Presumed → ⊥) → first_of_three presumed overdue last ≡ standing.Presumed → presumed ≡ true
is_first true overdue last _ is = refl
is_first false true last _ is = cc
is_first false false last not_last is = absurd (not_last is)

is_second : (presumed overdue : Bool) (last : Standing)
    → (last ≡ standing.AppealOverdue → ⊥) → first_of_three presumed overdue last ≡ standing.AppealOverdue
    → (presumed ≡ false) × (overdue ≡ true)
is_second true overdue last _ is = cc
is_second false true last _ is = (refl, refl)
is_second false false last not_last is = absurd (not_last is)

is_third : (presumed overdue : Bool) (last : Standing) (grant : Grant)
    → first_of_three presumed overdue last ≡ standing.Granted grant
    → (presumed ≡ false) × (overdue ≡ false) × (last ≡ standing.Granted grant)
is_third true overdue last grant is = cc
is_third false true last grant is = cc
is_third false false last grant is = (refl, refl, is)

not_presumed : (last : Option Grant) (day : ℕ) → standing_by last day ≡ standing.Presumed → ⊥
not_presumed None day is = cc
not_presumed (Some last) day is =
    (elim (nat_le day last.until) as (λ runs. (if runs then standing.Granted last else standing.None) ≡ standing.Presumed → ⊥) [
      | true ↦ λ granted_is. cc
      | false ↦ λ none_is. cc
    ]) is

not_overdue : (last : Option Grant) (day : ℕ) → standing_by last day ≡ standing.AppealOverdue → ⊥
not_overdue None day is = cc
not_overdue (Some last) day is =
    (elim (nat_le day last.until) as (λ runs. (if runs then standing.Granted last else standing.None) ≡ standing.AppealOverdue → ⊥) [
      | true ↦ λ granted_is. cc
      | false ↦ λ none_is. cc
    ]) is

presumed_is : (file : List Entered) (today : ℕ) → IsPresumed file today → is_presumed file today ≡ true
presumed_is file today (position, application, at, waited) = presumed_test file today position application at waited

unpresumed_is : (file : List Entered) (today : ℕ) → (¬ IsPresumed file today) → is_presumed file today ≡ false
unpresumed_is file today unpresumed = untrue _ (λ is. unpresumed (presumed_position file today is))

unpresumed : (file : List Entered) (today : ℕ) → is_presumed file today ≡ false → ¬ IsPresumed file today
unpresumed file today is presumed = false≢true (sym is ∙ presumed_is file today presumed)

-- the standing is presumed exactly where an application is, by positions
presumed-law : (file : List Entered) (today day : ℕ)
    → (standing_of file today day ≡ standing.Presumed) ↔ IsPresumed file today
presumed-law file today day = (to, from) where
  to : standing_of file today day ≡ standing.Presumed → IsPresumed file today
  to is =
      presumed_position file today
      (is_first (is_presumed file today) (is_overdue file today) _ (not_presumed (last_grant file) day) is)

  from : IsPresumed file today → standing_of file today day ≡ standing.Presumed
  from presumed = rw (presumed_is file today presumed) refl

-- an appeal is overdue exactly where none is presumed and one is overdue, by positions
overdue-standing-law : (file : List Entered) (today day : ℕ)
    → (standing_of file today day ≡ standing.AppealOverdue) ↔ ((¬ IsPresumed file today) × IsOverdue file today)
overdue-standing-law file today day = (to, from) where
  to : standing_of file today day ≡ standing.AppealOverdue → (¬ IsPresumed file today) × IsOverdue file today
  to is =
      let found = is_second (is_presumed file today) (is_overdue file today) _ (not_overdue (last_grant file) day) is in
      (unpresumed file today found.0, (overdue-law file today).0 found.1)

  from : (¬ IsPresumed file today) × IsOverdue file today → standing_of file today day ≡ standing.AppealOverdue
  from (not_presumed, overdue) =
      rw (unpresumed_is file today not_presumed, (overdue-law file today).1 overdue) refl

-- the standing is a grant exactly where nothing is presumed or overdue and that grant is the last and has not run
-- out, by positions
granted-law : (file : List Entered) (today day : ℕ) (grant : Grant)
    → (standing_of file today day ≡ standing.Granted grant)
    ↔ ((¬ IsPresumed file today) × (¬ IsOverdue file today) × IsGrantedFor file day grant)
granted-law file today day grant = (to, from) where
  by_last : standing_by (last_grant file) day ≡ standing.Granted grant → IsGrantedFor file day grant
  by_last is =
      let found = granted_test (last_grant file) day grant is in
      elim (last_position None file grant found.0) [
        | inl before ↦ let none = before.0 in cc
        | inr at ↦ (at.0, at.1, at.2, found.1)
      ]

  to : standing_of file today day ≡ standing.Granted grant
      → (¬ IsPresumed file today) × (¬ IsOverdue file today) × IsGrantedFor file day grant
  to is =
      let found = is_third (is_presumed file today) (is_overdue file today) _ grant is in (
        unpresumed file today found.0,
        λ overdue. false≢true (sym found.1 ∙ (overdue-law file today).1 overdue),
        by_last found.2,
      )

  from : (¬ IsPresumed file today) × (¬ IsOverdue file today) × IsGrantedFor file day grant
      → standing_of file today day ≡ standing.Granted grant
  from (not_presumed, not_overdue, granted) =
      let undue : is_overdue file today ≡ false = untrue _ (λ is. not_overdue ((overdue-law file today).0 is)) in
      rw (unpresumed_is file today not_presumed, undue, last_value None file granted.0 granted.1 grant granted.2)
      (granted_value day grant granted.3)

-- the same of a value that is the standing
pub presumed-value : (result : Standing) (file : List Entered) (today day : ℕ)
    → result ≡ standing_of file today day → (result ≡ standing.Presumed) ↔ IsPresumed file today
presumed-value result file today day value = rw value (presumed-law file today day)

pub overdue-value : (result : Standing) (file : List Entered) (today day : ℕ)
    → result ≡ standing_of file today day
    → (result ≡ standing.AppealOverdue) ↔ ((¬ IsPresumed file today) × IsOverdue file today)
overdue-value result file today day value = rw value (overdue-standing-law file today day)

pub granted-value : (result : Standing) (file : List Entered) (today day : ℕ)
    → result ≡ standing_of file today day
    → (grant : Grant) → (result ≡ standing.Granted grant)
    ↔ ((¬ IsPresumed file today) × (¬ IsOverdue file today) × IsGrantedFor file day grant)
granted-value result file today day value grant = rw value (granted-law file today day grant)
