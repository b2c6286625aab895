-- Pending appeals and suspensions by tests of the list are those by numbered positions.
use Rattle.std.specs.Prelude.{◌≡◌, ℕ, ◌+◌, ◌<◌, ◌≤◌, ◌↔◌, ◌==◌, Bool, true, false, ◌&&◌, not, List, [], ◌∷◌, Some, None, slice_get, drop, if◌then◌else◌, refl}
use Rattle.std.specs.List.{list_any, find}
use Rattle.std.specs.Option.{option_map_or}
use Rattle.std.proofs.Common.{zero, suc, arith, sym, ap, ◌∙◌, inl, inr}
use Rattle.std.proofs.lemmas.Bool.{and_parts, and_from, or_cases, or_parts, or_left, or_right, or_from, false≢true}
use Rattle.std.proofs.lemmas.Bool.Decides.{nat_tests}
use Rattle.pt_rights_files.specs.declared.entry.Entry.{Entry}
use Rattle.pt_rights_files.specs.declared.entry.Entry.TheVariants as kind
use Rattle.pt_rights_files.specs.declared.entry.Entered.{Entered}
use Rattle.pt_rights_files.specs.Appeals.{appeals_against, disputes, some_pending, is_heard_by, is_overdue, is_overturned}
use Rattle.pt_rights_files.specs.ByPosition.{IsPendingAt, IsPendingAgainst, IsOverdue, IsOverturned, IsSuspended}
use Rattle.pt_rights_files.specs.Kinds.{is_refusal, against_of, is_overturn, decides_appeal, suspends}
use Rattle.pt_rights_files.specs.Positions.{is_open, is_followed, some_numbered}
use Rattle.pt_rights_files.specs.Suspension.{is_lifted, is_suspended}
use Rattle.pt_rights_files.proofs.Positioned.{not_true, not_false, at_most, at_most_test, numbered_position, numbered_test, none_after, none_after_test}
use Rattle.pt_rights_files.proofs.Lifted.{is_first}
use Rattle.pt_rights_files.specs.Limits.{days_to_decide}

module _ {X : Type 0} (p : X → Bool) where
  -- some item passes, by the test and by numbers
  some_at : (xs : List X) → list_any p xs ≡ true → (position : ℕ) × (item : X) × (slice_get xs position ≡ Some item) × (p item ≡ true)
  some_at [] some = absurd (false≢true some)
  some_at (first ∷ xs) some =
      elim (or_cases (p first) (list_any p xs) some) [
        | inl here ↦ (0, first, refl, here)
        | inr there ↦ let found = some_at xs there in (suc found.0, found.1, found.2, found.3)
      ]

  some_test : (xs : List X) (position : ℕ) (item : X) → slice_get xs position ≡ Some item → p item ≡ true → list_any p xs ≡ true
  some_test [] position item here passes = cc
  some_test (first ∷ xs) zero item here passes =
      let same : first ≡ item = cc in
      or_left (p first) (list_any p xs) (rw same passes)
  some_test (first ∷ xs) (suc position) item here passes = or_right (p first) (list_any p xs) (some_test xs position item here passes)

  -- some item after a position passes, by the test and by numbers
  some_after : (xs : List X) (position : ℕ) → list_any p (drop (suc position) xs) ≡ true
      → (later : ℕ) × (item : X) × (position < later) × (slice_get xs later ≡ Some item) × (p item ≡ true)
  some_after [] position some = absurd (false≢true some)
  some_after (first ∷ xs) zero some =
      let found = some_at xs some in (suc found.0, found.1, omega arith, found.2, found.3)
  some_after (first ∷ xs) (suc position) some =
      let found = some_after xs position some in
      let after : position < found.0 = found.2 in
      (suc found.0, found.1, omega arith, found.3, found.4)

  some_after_test : (xs : List X) (position later : ℕ) (item : X)
      → position < later → slice_get xs later ≡ Some item → p item ≡ true → list_any p (drop (suc position) xs) ≡ true
  some_after_test [] position later item after here passes = cc
  some_after_test (first ∷ xs) position zero item after here passes = absurd (omega arith)
  some_after_test (first ∷ xs) zero (suc later) item after here passes = some_test xs later item here passes
  some_after_test (first ∷ xs) (suc position) (suc later) item after here passes =
      some_after_test xs position later item (omega arith) here passes

-- the first item that closes passes the test: by the test and by numbers
pub record IsFirstAt {X : Type 0} (closes test : X → Bool) (xs : List X) (from position : ℕ) (item : X) : Type 0 where
  pub after : from ≤ position
  pub here : slice_get xs position ≡ Some item
  pub closed : closes item ≡ true
  pub passes : test item ≡ true
  pub none : (between : ℕ) (other : X) → from ≤ between → between < position → slice_get xs between ≡ Some other → closes other ≡ false

module _ {X : Type 0} (closes test : X → Bool) where
  IsFirstAt-cons : (first : X) (xs : List X) (from position : ℕ) (item : X)
      → IsFirstAt closes test xs from position item → IsFirstAt closes test (first ∷ xs) (suc from) (suc position) item
  IsFirstAt-cons first xs from position item at = record {
    after = let after = at.after in omega arith;
    here = at.here;
    closed = at.closed;
    passes = at.passes;
    none = none;
  } where
    none : (between : ℕ) (other : X) → suc from ≤ between → between < suc position → slice_get (first ∷ xs) between ≡ Some other → closes other ≡ false
    none zero other after before here = absurd (omega arith)
    none (suc between) other after before here = at.none between other (omega arith) (omega arith) here

  first_at : (xs : List X) → is_first closes test xs ≡ true → (position : ℕ) × (item : X) × IsFirstAt closes test xs 0 position item
  first_at [] first_is = absurd (false≢true first_is)
  first_at (first ∷ xs) first_is =
      (elim (closes first) as
      (λ c. closes first ≡ c → option_map_or test (if c then Some first else find closes xs) false ≡ true
      → (position : ℕ) × (item : X) × IsFirstAt closes test (first ∷ xs) 0 position item) [
        | true ↦ λ closed passes. (
          0,
          first,
          record {
            after = omega arith;
            here = refl;
            closed = closed;
            passes = passes;
            none = λ between other after before here. absurd (omega arith);
          },
        )
        | false ↦ λ stays found_is.
            let found = first_at xs found_is in
            let at = found.2 in (
              suc found.0,
              found.1,
              record {
                after = omega arith;
                here = at.here;
                closed = at.closed;
                passes = at.passes;
                none = none stays found.0 found.1 at;
              },
            )
      ]) refl first_is where
        none : closes first ≡ false → (position : ℕ) (item : X) → IsFirstAt closes test xs 0 position item
            → (between : ℕ) (other : X) → 0 ≤ between → between < suc position → slice_get (first ∷ xs) between ≡ Some other → closes other ≡ false
        none stays position item at zero other after before here =
            let same : first ≡ other = cc in
            rw (← same) stays
        none stays position item at (suc between) other after before here = at.none between other (omega arith) (omega arith) here

  first_test : (xs : List X) (position : ℕ) (item : X) → IsFirstAt closes test xs 0 position item → is_first closes test xs ≡ true
  first_test [] position item at = let here = at.here in cc
  first_test (first ∷ xs) zero item at =
      let same : first ≡ item = let here = at.here in cc in
      let closed : closes first ≡ true = rw same at.closed in
      rw (closed, same) at.passes
  first_test (first ∷ xs) (suc position) item at =
      let stays : closes first ≡ false = at.none 0 first (omega arith) (omega arith) refl in
      let further : IsFirstAt closes test xs 0 position item = record {
        after = omega arith;
        here = at.here;
        closed = at.closed;
        passes = at.passes;
        none = λ between other after before here. at.none (suc between) other (omega arith) (omega arith) here;
      } in
      rw stays (first_test xs position item further)

  -- the same of the items after a position
  first_after : (xs : List X) (position : ℕ) → is_first closes test (drop (suc position) xs) ≡ true
      → (later : ℕ) × (item : X) × IsFirstAt closes test xs (suc position) later item
  first_after [] position first_is = absurd (false≢true first_is)
  first_after (first ∷ xs) zero first_is =
      let found = first_at xs first_is in
      (suc found.0, found.1, IsFirstAt-cons first xs 0 found.0 found.1 found.2)
  first_after (first ∷ xs) (suc position) first_is =
      let found = first_after xs position first_is in
      (suc found.0, found.1, IsFirstAt-cons first xs (suc position) found.0 found.1 found.2)

  first_after_test : (xs : List X) (position later : ℕ) (item : X)
      → IsFirstAt closes test xs (suc position) later item → is_first closes test (drop (suc position) xs) ≡ true
  first_after_test [] position later item at = let here = at.here in cc
  first_after_test (first ∷ xs) position zero item at = let after = at.after in absurd (omega arith)
  first_after_test (first ∷ xs) zero (suc later) item at = first_test xs later item record {
    after = omega arith;
    here = at.here;
    closed = at.closed;
    passes = at.passes;
    none = λ between other after before here. at.none (suc between) other (omega arith) (omega arith) here;
  }
  first_after_test (first ∷ xs) (suc position) (suc later) item at = first_after_test xs position later item record {
    after = let after = at.after in omega arith;
    here = at.here;
    closed = at.closed;
    passes = at.passes;
    none = λ between other after before here. at.none (suc between) other (omega arith) (omega arith) here;
  }

-- an appeal against the entry at a position names that position
against_test : (position : ℕ) (entry : Entry) → appeals_against position entry ≡ true → against_of entry ≡ Some position
against_test position (kind.Appeal against) names = let same : against ≡ position = grind (arith, nat_tests) in ap Some same
against_test position _ names = cc

against_position : (position : ℕ) (entry : Entry) → against_of entry ≡ Some position → appeals_against position entry ≡ true
against_position position entry names = rw names (nat_same position) where
  nat_same : (n : ℕ) → (n == n) ≡ true
  nat_same n = grind (arith, nat_tests)

-- an appeal is pending by the test of its position and by numbered positions
pending_at : (file : List Entered) (position against : ℕ) (appeal : Entered)
    → slice_get file position ≡ Some appeal → against_of appeal.entry ≡ Some against
    → not (list_any (λ e. decides_appeal e.entry) (drop (suc position) file)) ≡ true
    → IsPendingAt file position against appeal
pending_at file position against appeal here appeals undecided = record {
  here = here;
  appeals = appeals;
  undecided = none_after (λ (e : Entered). decides_appeal e.entry) file position (not_true _ undecided);
}

undecided_test : (file : List Entered) (position against : ℕ) (appeal : Entered)
    → IsPendingAt file position against appeal → not (list_any (λ e. decides_appeal e.entry) (drop (suc position) file)) ≡ true
undecided_test file position against appeal at =
    not_false _ (none_after_test (λ (e : Entered). decides_appeal e.entry) file position at.undecided)

pub pending-law : (file : List Entered) (against : ℕ) → (some_pending (appeals_against against) file ≡ true) ↔ IsPendingAgainst file against
pending-law file against = (to, from) where
  to : some_pending (appeals_against against) file ≡ true → IsPendingAgainst file against
  to pending =
      let found = numbered_position (is_open (λ (e : Entered). appeals_against against e.entry) (λ (e : Entered). decides_appeal e.entry)) file pending in
      let parts = and_parts _ _ found.3 in
      (found.0, found.1, pending_at file found.0 against found.1 found.2 (against_test against found.1.entry parts.0) parts.1)

  from : IsPendingAgainst file against → some_pending (appeals_against against) file ≡ true
  from (position, appeal, at) =
      numbered_test (is_open (λ (e : Entered). appeals_against against e.entry) (λ (e : Entered). decides_appeal e.entry)) file position appeal at.here
      (and_from _ _ (against_position against appeal.entry at.appeals) (undecided_test file position against appeal at))

-- what an appeal disputes, by the test and by numbered positions
disputes_position : (test : Entered → Bool) (file : List Entered) (entry : Entry) → disputes test file entry ≡ true
    → (against : ℕ) × (item : Entered) × (against_of entry ≡ Some against) × (slice_get file against ≡ Some item) × (test item ≡ true)
disputes_position test file (kind.Appeal against) passes =
    (elim (slice_get file against) as
    (λ found. slice_get file against ≡ found → option_map_or test found false ≡ true
    → (position : ℕ) × (item : Entered) × (Some against ≡ Some position) × (slice_get file position ≡ Some item) × (test item ≡ true)) [
      | None ↦ λ found none. cc
      | Some item ↦ λ found passes. (against, item, refl, found, passes)
    ]) refl passes
disputes_position test file _ passes = cc

disputes_test : (test : Entered → Bool) (file : List Entered) (entry : Entry) (against : ℕ) (item : Entered)
    → against_of entry ≡ Some against → slice_get file against ≡ Some item → test item ≡ true → disputes test file entry ≡ true
disputes_test test file (kind.Appeal position) against item names here passes =
    let same : position ≡ against = cc in
    rw (same, here) passes
disputes_test test file _ against item names here passes = cc

-- an appeal is overdue by the test exactly where one is by numbered positions
pub overdue-law : (file : List Entered) (today : ℕ) → (is_overdue file today ≡ true) ↔ IsOverdue file today
overdue-law file today = (to, from) where
  to : is_overdue file today ≡ true → IsOverdue file today
  to overdue =
      let found = numbered_position (is_followed (λ (e : Entered). disputes (λ d. is_refusal d.entry) file e.entry) (λ (e : Entered). decides_appeal e.entry) (is_heard_by today)) file overdue in
      let parts = and_parts _ _ found.3 in
      let pending = and_parts _ _ parts.0 in
      let against = disputes_position (λ (d : Entered). is_refusal d.entry) file found.1.entry pending.0 in
      let heard = some_after (is_heard_by today) file found.0 parts.1 in
      let hearing = and_parts _ _ heard.4 in (
        found.0,
        against.0,
        found.1,
        pending_at file found.0 against.0 found.1 found.2 against.2 pending.1,
        (against.1, against.3, against.4),
        (heard.0, heard.1, heard.2, heard.3, hearing.0, at_most (heard.1.day + days_to_decide) today hearing.1),
      )

  from : IsOverdue file today → is_overdue file today ≡ true
  from (position, against, appeal, at, refused, heard) =
      numbered_test (is_followed (λ (e : Entered). disputes (λ d. is_refusal d.entry) file e.entry) (λ (e : Entered). decides_appeal e.entry) (is_heard_by today)) file position appeal at.here
      (and_from _ _
      (and_from _ _
      (disputes_test (λ (d : Entered). is_refusal d.entry) file appeal.entry against refused.0 at.appeals refused.1 refused.2)
      (undecided_test file position against appeal at))
      (some_after_test (is_heard_by today) file position heard.0 heard.1 heard.2 heard.3
      (and_from _ _ heard.4 (at_most_test (heard.1.day + days_to_decide) today heard.5))))

-- what overturns decides
overturn_decides : (entry : Entry) → is_overturn entry ≡ true → decides_appeal entry ≡ true
overturn_decides kind.Overturn overturns = refl
overturn_decides _ overturns = cc

pub overturned-law : (file : List Entered) (against : ℕ) → (is_overturned file against ≡ true) ↔ IsOverturned file against
overturned-law file against = (to, from) where
  to : is_overturned file against ≡ true → IsOverturned file against
  to overturned =
      let found = numbered_position (λ (e : Entered) later. appeals_against against e.entry && is_first (λ (d : Entered). decides_appeal d.entry) (λ d. is_overturn d.entry) later) file overturned in
      let parts = and_parts _ _ found.3 in
      let decided = first_after (λ (d : Entered). decides_appeal d.entry) (λ d. is_overturn d.entry) file found.0 parts.1 in
      let at = decided.2 in
      let after : suc found.0 ≤ decided.0 = at.after in (
        found.0,
        found.1,
        decided.0,
        decided.1,
        record {
          here = found.2;
          appeals = against_test against found.1.entry parts.0;
          after = omega arith;
          there = at.here;
          overturns = at.passes;
          first = λ between entered later earlier here. at.none between entered (omega arith) earlier here;
        },
      )

  from : IsOverturned file against → is_overturned file against ≡ true
  from (position, appeal, decided, decision, at) =
      let after = at.after in
      numbered_test (λ (e : Entered) later. appeals_against against e.entry && is_first (λ (d : Entered). decides_appeal d.entry) (λ d. is_overturn d.entry) later) file position appeal at.here
      (and_from _ _ (against_position against appeal.entry at.appeals)
      (first_after_test (λ (d : Entered). decides_appeal d.entry) (λ d. is_overturn d.entry) file position decided decision record {
        after = omega arith;
        here = at.there;
        closed = overturn_decides decision.entry at.overturns;
        passes = at.overturns;
        none = λ between entered later earlier here. at.first between entered (omega arith) earlier here;
      }))

module _ {X : Type 0} (test : ℕ → X → Bool) where
  -- a position that passes the test by its number, by the test of the list and by numbers
  numbered_at : (number : ℕ) (xs : List X) → some_numbered test number xs ≡ true
      → (position : ℕ) × (item : X) × (slice_get xs position ≡ Some item) × (test (number + position) item ≡ true)
  numbered_at number [] passes = absurd (false≢true passes)
  numbered_at number (first ∷ xs) passes =
      elim (or_cases (test number first) (some_numbered test (suc number) xs) passes) [
        | inl here ↦
            let same : number ≡ number + 0 = omega arith in
            (0, first, refl, rw same at here)
        | inr there ↦
            let found = numbered_at (suc number) xs there in
            let same : suc number + found.0 ≡ number + suc found.0 = omega arith in
            (suc found.0, found.1, found.2, rw same at found.3)
      ]

  numbered_at_test : (number : ℕ) (xs : List X) (position : ℕ) (item : X)
      → slice_get xs position ≡ Some item → test (number + position) item ≡ true → some_numbered test number xs ≡ true
  numbered_at_test number [] position item here passes = cc
  numbered_at_test number (first ∷ xs) zero item here passes =
      let same : first ≡ item = cc in
      let start : number + 0 ≡ number = omega arith in
      or_left (test number first) (some_numbered test (suc number) xs) (rw same (rw start at passes))
  numbered_at_test number (first ∷ xs) (suc position) item here passes =
      let same : number + suc position ≡ suc number + position = omega arith in
      or_right (test number first) (some_numbered test (suc number) xs) (numbered_at_test (suc number) xs position item here (rw same at passes))

-- the entry at the position suspends the rider, and has effect
abbrev holds : List Entered → ℕ → ℕ → Entered → Bool
holds file day position entered = suspends day entered.entry && not (is_lifted file position)

pub untrue : (b : Bool) → (b ≡ true → ⊥) → b ≡ false
untrue true denied = absurd (denied refl)
untrue false _ = refl

-- the rider is suspended by the test exactly where a suspension has effect by numbered positions
suspended-law : (file : List Entered) (day : ℕ) → (is_suspended file day ≡ true) ↔ IsSuspended file day
suspended-law file day = (to, from) where
  to : is_suspended file day ≡ true → IsSuspended file day
  to suspended =
      let found = numbered_at (holds file day) 0 file suspended in
      let number : 0 + found.0 ≡ found.0 = omega arith in
      let passes : holds file day found.0 found.1 ≡ true = rw number at found.3 in
      let parts = and_parts (suspends day found.1.entry) (not (is_lifted file found.0)) passes in
      let kept = or_parts _ _ (not_true _ parts.1) in (
        found.0,
        found.1,
        found.2,
        parts.0,
        λ pending. false≢true (sym kept.0 ∙ (pending-law file found.0).1 pending),
        λ overturned. false≢true (sym kept.1 ∙ (overturned-law file found.0).1 overturned),
      )

  from : IsSuspended file day → is_suspended file day ≡ true
  from (position, suspension, here, suspends_it, unappealed, kept) =
      let unlifted : is_lifted file position ≡ false =
      or_from _ _ (untrue _ (λ is. unappealed ((pending-law file position).0 is))) (untrue _ (λ is. kept ((overturned-law file position).0 is))) in
      let number : 0 + position ≡ position = omega arith in
      let passes : holds file day position suspension ≡ true = and_from _ _ suspends_it (not_false _ unlifted) in
      numbered_at_test (holds file day) 0 file position suspension here (rw number passes)

-- the same of a value that is the test
pub suspended-value : (result : Bool) (file : List Entered) (day : ℕ)
    → result ≡ is_suspended file day → (result ≡ true) ↔ IsSuspended file day
suspended-value result file day value = rw value (suspended-law file day)
