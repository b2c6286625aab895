-- The standing by tests of the list is that by numbered positions.
use Rattle.std.specs.Prelude.{◌≡◌, ℕ, ◌+◌, ◌<◌, ◌≤◌, ◌↔◌, Bool, true, false, ◌&&◌, not, List, [], ◌∷◌, ◌⊎◌, Option, Some, None, nat_le, slice_get, drop, if◌then◌else◌, refl}
use Rattle.std.specs.List.{list_any, filter_map, last_or, cons_option}
use Rattle.std.proofs.Common.{zero, suc, arith, ap, ◌∙◌, inl, inr}
use Rattle.std.proofs.lemmas.Bool.{and_parts, and_from, or_cases, or_parts, or_left, or_right, or_from, false≢true}
use Rattle.std.proofs.lemmas.Bool.Decides.{nat_tests}
use Rattle.pt_rights_files.specs.declared.entry.Grant.{Grant}
use Rattle.pt_rights_files.specs.declared.entry.Entered.{Entered}
use Rattle.pt_rights_files.specs.declared.case_file.Standing.TheVariants as standing
use Rattle.pt_rights_files.specs.Kinds.{is_complete, is_decision, grant_of}
use Rattle.pt_rights_files.specs.Positions.{some_position}
use Rattle.pt_rights_files.specs.Standing.{is_unanswered, is_waiting, is_presumed, standing_by}
use Rattle.pt_rights_files.specs.ByPosition.{IsUnansweredAt, IsWaiting, IsPresumed, IsLastGrantAt}
use Rattle.pt_rights_files.specs.Limits.{days_to_presumption}

pub not_true : (b : Bool) → not b ≡ true → b ≡ false
not_true true h = cc
not_true false h = refl

pub not_false : (b : Bool) → b ≡ false → not b ≡ true
not_false true h = cc
not_false false h = refl

pub at_most : (m n : ℕ) → nat_le m n ≡ true → m ≤ n
at_most m n h = grind (arith, nat_tests)

pub at_most_test : (m n : ℕ) → m ≤ n → nat_le m n ≡ true
at_most_test m n h = grind (arith, nat_tests)

module _ {X : Type 0} (test : X → List X → Bool) where
  -- a position of the list that passes the test has a number, and conversely
  pub numbered_position : (xs : List X) → some_position test xs ≡ true
      → (position : ℕ) × (item : X) × (slice_get xs position ≡ Some item) × (test item (drop (suc position) xs) ≡ true)
  numbered_position [] passes = absurd (false≢true passes)
  numbered_position (first ∷ xs) passes =
      elim (or_cases (test first xs) (some_position test xs) passes) [
        | inl here ↦ (0, first, refl, here)
        | inr there ↦
            let found = numbered_position xs there in
            (suc found.0, found.1, found.2, found.3)
      ]

  pub numbered_test : (xs : List X) (position : ℕ) (item : X)
      → slice_get xs position ≡ Some item → test item (drop (suc position) xs) ≡ true → some_position test xs ≡ true
  numbered_test [] position item here passes = cc
  numbered_test (first ∷ xs) zero item here passes =
      let same : first ≡ item = cc in
      or_left (test first xs) (some_position test xs) (rw same passes)
  numbered_test (first ∷ xs) (suc position) item here passes = or_right (test first xs) (some_position test xs) (numbered_test xs position item here passes)

module _ {X : Type 0} (p : X → Bool) where
  -- no item passes, by the test and by numbers
  pub none_at : (xs : List X) → list_any p xs ≡ false
      → (position : ℕ) (item : X) → slice_get xs position ≡ Some item → p item ≡ false
  none_at [] none position item here = cc
  none_at (first ∷ xs) none zero item here =
      let same : first ≡ item = cc in
      rw (← same) (or_parts (p first) (list_any p xs) none).0
  none_at (first ∷ xs) none (suc position) item here =
      none_at xs (or_parts (p first) (list_any p xs) none).1 position item here

  pub none_test : (xs : List X)
      → ((position : ℕ) (item : X) → slice_get xs position ≡ Some item → p item ≡ false) → list_any p xs ≡ false
  none_test [] none = refl
  none_test (first ∷ xs) none =
      or_from _ _ (none 0 first refl) (none_test xs (λ position item here. none (suc position) item here))

  -- no item after a position passes, by the test and by numbers
  pub none_after : (xs : List X) (position : ℕ) → list_any p (drop (suc position) xs) ≡ false
      → (later : ℕ) (item : X) → position < later → slice_get xs later ≡ Some item → p item ≡ false
  none_after [] position none later item after here = cc
  none_after (first ∷ xs) position none zero item after here = absurd (omega arith)
  none_after (first ∷ xs) zero none (suc later) item after here = none_at xs none later item here
  none_after (first ∷ xs) (suc position) none (suc later) item after here =
      none_after xs position none later item (omega arith) here

  pub none_after_test : (xs : List X) (position : ℕ)
      → ((later : ℕ) (item : X) → position < later → slice_get xs later ≡ Some item → p item ≡ false)
      → list_any p (drop (suc position) xs) ≡ false
  none_after_test [] position none = refl
  none_after_test (first ∷ xs) zero none = none_test xs (λ later item here. none (suc later) item (omega arith) here)
  none_after_test (first ∷ xs) (suc position) none =
      none_after_test xs position (λ later item after here. none (suc later) item (omega arith) here)

-- an application is unanswered by the test of its position and by numbered positions
unanswered_at : (file : List Entered) (position : ℕ) (application : Entered)
    → slice_get file position ≡ Some application → is_unanswered application (drop (suc position) file) ≡ true
    → IsUnansweredAt file position application
unanswered_at file position application here unanswered =
    let decides = λ (e : Entered). is_decision e.entry in
    let parts = and_parts (is_complete application.entry) (not (list_any decides (drop (suc position) file))) unanswered in
    record {
      here = here;
      completes = parts.0;
      undecided = none_after decides file position (not_true _ parts.1);
    }

unanswered_test : (file : List Entered) (position : ℕ) (application : Entered)
    → IsUnansweredAt file position application → is_unanswered application (drop (suc position) file) ≡ true
unanswered_test file position application at =
    and_from _ _ at.completes (not_false _ (none_after_test (λ (e : Entered). is_decision e.entry) file position at.undecided))

-- some application is unanswered by the test exactly where one is by numbered positions
waiting-law : (file : List Entered) → (is_waiting file ≡ true) ↔ IsWaiting file
waiting-law file = (to, from) where
  to : is_waiting file ≡ true → IsWaiting file
  to waits =
      let found = numbered_position is_unanswered file waits in
      (found.0, found.1, unanswered_at file found.0 found.1 found.2 found.3)

  from : IsWaiting file → is_waiting file ≡ true
  from (position, application, at) =
      numbered_test is_unanswered file position application at.here (unanswered_test file position application at)

-- an unanswered application that was completed 21 days before the day, or earlier
abbrev is_overdue : ℕ → Entered → List Entered → Bool
is_overdue today application later = is_unanswered application later && nat_le (application.day + days_to_presumption) today

pub presumed_position : (file : List Entered) (today : ℕ) → is_presumed file today ≡ true → IsPresumed file today
presumed_position file today presumed =
    let found = numbered_position (is_overdue today) file presumed in
    let parts = and_parts (is_unanswered found.1 (drop (suc found.0) file)) (nat_le (found.1.day + days_to_presumption) today) found.3 in
    (found.0, found.1, unanswered_at file found.0 found.1 found.2 parts.0, at_most (found.1.day + days_to_presumption) today parts.1)

pub presumed_test : (file : List Entered) (today position : ℕ) (application : Entered)
    → IsUnansweredAt file position application → application.day + days_to_presumption ≤ today → is_presumed file today ≡ true
presumed_test file today position application at waited =
    numbered_test (is_overdue today) file position application at.here
    (and_from _ _ (unanswered_test file position application at) (at_most_test (application.day + days_to_presumption) today waited))

-- no entry of the list grants
abbrev pub NoneGrants : List Entered → Type 0
NoneGrants file = (position : ℕ) (entered : Entered) → slice_get file position ≡ Some entered → grant_of entered.entry ≡ None

abbrev pub grants : List Entered → List Grant
grants file = filter_map (λ (e : Entered). grant_of e.entry) file

NoneGrants-cons : (first : Entered) (file : List Entered)
    → grant_of first.entry ≡ None → NoneGrants file → NoneGrants (first ∷ file)
NoneGrants-cons first file not_first none zero entered here =
    let same : first ≡ entered = cc in
    rw (← same) not_first
NoneGrants-cons first file not_first none (suc position) entered here = none position entered here

no_grants : (file : List Entered) → NoneGrants file → grants file ≡ []
no_grants [] none = refl
no_grants (first ∷ file) none =
    let not_first = none 0 first refl in
    rw (not_first, no_grants file (λ position entered here. none (suc position) entered here)) refl

-- the last grant at a position is the last grant at the next position if one more entry comes first
IsLastGrantAt-cons : (first : Entered) (file : List Entered) (position : ℕ) (granting : Entered) (grant : Grant)
    → IsLastGrantAt file position granting grant → IsLastGrantAt (first ∷ file) (suc position) granting grant
IsLastGrantAt-cons first file position granting grant at = record {
  here = at.here;
  grants = at.grants;
  unreplaced = unreplaced;
} where
  unreplaced : (later : ℕ) (entered : Entered) → suc position < later → slice_get (first ∷ file) later ≡ Some entered → grant_of entered.entry ≡ None
  unreplaced zero entered after here = absurd (omega arith)
  unreplaced (suc later) entered after here = at.unreplaced later entered (omega arith) here

IsLastGrantAt-first : (first : Entered) (file : List Entered) (grant : Grant)
    → grant_of first.entry ≡ Some grant → NoneGrants file → IsLastGrantAt (first ∷ file) 0 first grant
IsLastGrantAt-first first file grant given none = record {
  here = refl;
  grants = given;
  unreplaced = unreplaced;
} where
  unreplaced : (later : ℕ) (entered : Entered) → 0 < later → slice_get (first ∷ file) later ≡ Some entered → grant_of entered.entry ≡ None
  unreplaced zero entered after here = absurd (omega arith)
  unreplaced (suc later) entered after here = none later entered here

-- the grant is the last of the list, at some position
abbrev pub IsLastGrant : List Entered → Grant → Type 0
IsLastGrant file grant = (position : ℕ) × (granting : Entered) × IsLastGrantAt file position granting grant

-- the last grant is the one before the list, or the last grant in the list
pub last_position : (before : Option Grant) (file : List Entered) (grant : Grant)
    → last_or before (grants file) ≡ Some grant
    → ((before ≡ Some grant) × NoneGrants file) ⊎ IsLastGrant file grant
last_position before [] grant last = inl (last, λ position entered here. cc)
last_position before (first ∷ file) grant last =
    (elim (grant_of first.entry) as
    (λ given. grant_of first.entry ≡ given → last_or before (cons_option given (grants file)) ≡ Some grant
    → ((before ≡ Some grant) × NoneGrants (first ∷ file)) ⊎ IsLastGrant (first ∷ file) grant) [
      | None ↦ λ given_is last_is.
          elim (last_position before file grant last_is) [
            | inl earlier ↦ inl (earlier.0, NoneGrants-cons first file given_is earlier.1)
            | inr found ↦ inr (suc found.0, found.1, IsLastGrantAt-cons first file found.0 found.1 grant found.2)
          ]
      | Some given ↦ λ given_is last_is.
          elim (last_position (Some given) file grant last_is) [
            | inl earlier ↦ inr (0, first, IsLastGrantAt-first first file grant (given_is ∙ earlier.0) earlier.1)
            | inr found ↦ inr (suc found.0, found.1, IsLastGrantAt-cons first file found.0 found.1 grant found.2)
          ]
    ]) refl last

-- a last grant at a position is the last of the list
pub last_value : (before : Option Grant) (file : List Entered) (position : ℕ) (granting : Entered) (grant : Grant)
    → IsLastGrantAt file position granting grant → last_or before (grants file) ≡ Some grant
last_value before [] position granting grant at = let here = at.here in cc
last_value before (first ∷ file) zero granting grant at =
    let same : first ≡ granting = let here = at.here in cc in
    let given : grant_of first.entry ≡ Some grant = rw same at.grants in
    let none = no_grants file (λ later entered here. at.unreplaced (suc later) entered (omega arith) here) in
    rw (given, none) refl
last_value before (first ∷ file) (suc position) granting grant at =
    let further : IsLastGrantAt file position granting grant = record {
      here = at.here;
      grants = at.grants;
      unreplaced = λ later entered after here. at.unreplaced (suc later) entered (omega arith) here;
    } in
    elim (grant_of first.entry) as (λ given. last_or before (cons_option given (grants file)) ≡ Some grant) [
      | None ↦ last_value before file position granting grant further
      | Some given ↦ last_value (Some given) file position granting grant further
    ]

-- a grant of the day is what the standing gives by the last grant
pub granted_test : (last : Option Grant) (day : ℕ) (grant : Grant)
    → standing_by last day ≡ standing.Granted grant → (last ≡ Some grant) × (day ≤ grant.until)
granted_test None day grant is = cc
granted_test (Some last) day grant is =
    (elim (nat_le day last.until) as
    (λ runs. nat_le day last.until ≡ runs → (if runs then standing.Granted last else standing.None) ≡ standing.Granted grant
    → (Some last ≡ Some grant) × (day ≤ grant.until)) [
      | true ↦ λ runs_is granted_is.
          let same : last ≡ grant = cc in
          (ap Some same, rw (← same) (at_most day last.until runs_is))
      | false ↦ λ runs_is granted_is. cc
    ]) refl is

pub granted_value : (day : ℕ) (grant : Grant) → day ≤ grant.until → standing_by (Some grant) day ≡ standing.Granted grant
granted_value day grant runs = rw (at_most_test day grant.until runs) refl

-- the same of a value that is the test
pub waiting-value : (result : Bool) (file : List Entered) → result ≡ is_waiting file → (result ≡ true) ↔ IsWaiting file
waiting-value result file value = rw value (waiting-law file)
