-- What each query means: the rows of one table that pass a test, with all their columns, in the order of the primary
-- key.
use Rattle.std.proofs.Common.{◌≡◌, ◌==◌, ◌&&◌, ℕ, pos, List, [], ◌∷◌, Bool, true, false, codes, int_cmp, refl, ap, ap₂, ◌∙◌, arith}
use Rattle.std.specs.Prelude.{nat_le}
use Rattle.std.specs.Ordering.{nat_cmp, is_eq}
use Rattle.std.proofs.lemmas.Bool.Decides.{nat_tests}
use Rattle.sqlite.specs.Collation.TheVariants.{Binary}
use Rattle.sqlite.specs.Listing.{understood}
use Rattle.sqlite.specs.Order.{Row, column}
use Rattle.sqlite.specs.Term.{Term, col, op2}
use Rattle.pt_tables_rows.specs.Rules.{equal}
use Rattle.pt_tables_rows.specs.BinaryOp.TheVariants.{Compare}
use Rattle.pt_tables_rows.specs.CompareOp.TheVariants.{Eq, Ge, Le}
use Rattle.sqlite.specs.Ops.{binary, is_true}
use Rattle.pt_tables_rows.specs.Compute.{everything}
use Rattle.sqlite_typed.proofs.TestLemmas.{at_ints}
use Rattle.sqlite_value.specs.Keys.{ascending}
use Rattle.sqlite_value.specs.declared.keys.Key.{Key}
use Rattle.pt_tables_rows.specs.Rows.{number_value}
use Rattle.pt_tables_rows.specs.Schema.{desk_schema, entries_table, kept_table, rider_chairs_table, riders_table, stops_table, trip_chairs_table, trips_table}
use Rattle.pt_tables_asking.specs.declared.texts.TheConstants.{ENTRIES_BY_RIDER, KEPT_BY_CALLER, RIDER_BY_NUMBER}
use Rattle.pt_tables_asking.specs.declared.texts.TheConstants.{RIDER_MARKS, STOPS_BY_VEHICLE_AND_DAY, TRIPS_BY_DAY}
use Rattle.pt_tables_asking.specs.declared.texts.TheConstants.{TRIPS_BY_RIDER, TRIPS_FROM_DAY, TRIP_BY_NUMBER}
use Rattle.pt_tables_asking.specs.declared.texts.TheConstants.{TRIP_MARKS}
use Rattle.pt_tables_asking.proofs.AskedQueries.{AsksFor, untrue}

-- ---- tests of rows

-- a column has this number
abbrev pub has_number : ℕ → ℕ → Row → Bool
has_number at n row = equal Binary (column row at) (number_value n) && true

-- a column has this number or a greater one
abbrev pub has_least : ℕ → ℕ → Row → Bool
has_least at n row = is_true (binary (Compare Ge Binary) (column row at) (number_value n)) && true

-- the first two columns have these numbers
abbrev pub has_pair : ℕ → ℕ → Row → Bool
has_pair first second row =
    equal Binary (column row 0) (number_value first) && (equal Binary (column row 1) (number_value second) && true)

-- the first column has a number from one to the other
abbrev pub is_between : ℕ → ℕ → Row → Bool
is_between from to row =
    is_true (binary (Compare Ge Binary) (column row 0) (number_value from)) && (is_true (binary (Compare Le Binary) (column row 0) (number_value to)) && true)

int_cmp-pos : (a b : ℕ) → int_cmp (pos a) (pos b) ≡ nat_cmp a b
int_cmp-pos a b = grind (arith, nat_tests)

is_eq_cmp : (a b : ℕ) → is_eq (nat_cmp a b) ≡ (a == b)
is_eq_cmp a b = grind (arith, nat_tests)

and_true : (b : Bool) → (b && true) ≡ b
and_true true = refl
and_true false = refl

equal_number : (a b : ℕ) → equal Binary (number_value a) (number_value b) ≡ (a == b)
equal_number a b = at_ints false Eq (pos a) (pos b) ∙ ap is_eq (int_cmp-pos a b) ∙ is_eq_cmp a b

-- what the tests say of numbers
pub same_number : (a b : ℕ) → (equal Binary (number_value a) (number_value b) && true) ≡ (a == b)
same_number a b = and_true _ ∙ equal_number a b

pub same_pair : (a b c d : ℕ) → (equal Binary (number_value a) (number_value c) && (equal Binary (number_value b) (number_value d) && true)) ≡ (a == c && b == d)
same_pair a b c d = ap₂ (λ p q. p && q) (equal_number a c) (same_number b d)

pub at_least : (a b : ℕ) → (is_true (binary (Compare Ge Binary) (number_value a) (number_value b)) && true) ≡ nat_le b a
at_least a b = and_true _ ∙ at_ints false Ge (pos a) (pos b)

pub between : (n from to : ℕ) → (is_true (binary (Compare Ge Binary) (number_value n) (number_value from)) && (is_true (binary (Compare Le Binary) (number_value n) (number_value to)) && true))
    ≡ (nat_le from n && nat_le n to)
between n from to = ap₂ (λ p q. p && q) (at_ints false Ge (pos n) (pos from)) (and_true _ ∙ at_ints false Le (pos n) (pos to))

-- ---- the texts

abbrev pub first_order : List (Term × Key)
first_order = (col 1 0, ascending Binary) ∷ []

pub kept_text : (caller : ℕ) → AsksFor 1 kept_table KEPT_BY_CALLER.now (number_value caller ∷ []) (has_number 0 caller)
unfolding understood everything desk_schema
kept_text caller = record {
  tests = op2 (Compare Eq Binary) (col 1 0) (col 0 0) ∷ [];
  fields = col 1 0 ∷ col 1 2 ∷ col 1 3 ∷ col 1 4 ∷ [];
  order = first_order;
  names = codes "caller" ∷ codes "number" ∷ codes "request" ∷ codes "reply" ∷ [];
  is = refl;
  plain = (refl, refl);
  unlisted = refl;
  takes = (omega arith, refl);
  typed = λ trees. untrue;
  shows = λ r. refl;
  says = λ r. refl;
  keys = refl;
  heads = λ r. (refl, tt);
}

pub rider_text : (rider : ℕ) → AsksFor 1 riders_table RIDER_BY_NUMBER.now (number_value rider ∷ []) (has_number 0 rider)
unfolding understood everything desk_schema
rider_text rider = record {
  tests = op2 (Compare Eq Binary) (col 1 0) (col 0 0) ∷ [];
  fields = col 1 0 ∷ col 1 2 ∷ col 1 3 ∷ [];
  order = first_order;
  names = codes "id" ∷ codes "kind" ∷ codes "attendant" ∷ [];
  is = refl;
  plain = (refl, refl);
  unlisted = refl;
  takes = (omega arith, refl);
  typed = λ trees. untrue;
  shows = λ r. refl;
  says = λ r. refl;
  keys = refl;
  heads = λ r. (refl, tt);
}

abbrev mark_tests : List Term
mark_tests = op2 (Compare Ge Binary) (col 1 0) (col 0 0) ∷ op2 (Compare Le Binary) (col 1 0) (col 0 1) ∷ []

pub rider_marks_text : (from to : ℕ) → AsksFor 1 rider_chairs_table RIDER_MARKS.now (number_value from ∷ number_value to ∷ []) (is_between from to)
unfolding understood everything desk_schema
rider_marks_text from to = record {
  tests = mark_tests;
  fields = col 1 0 ∷ [];
  order = first_order;
  names = codes "rider" ∷ [];
  is = refl;
  plain = (refl, refl);
  unlisted = refl;
  takes = (omega arith, refl);
  typed = λ trees. untrue;
  shows = λ r. refl;
  says = λ r. refl;
  keys = refl;
  heads = λ r. (refl, tt);
}

pub trip_marks_text : (from to : ℕ) → AsksFor 1 trip_chairs_table TRIP_MARKS.now (number_value from ∷ number_value to ∷ []) (is_between from to)
unfolding understood everything desk_schema
trip_marks_text from to = record {
  tests = mark_tests;
  fields = col 1 0 ∷ [];
  order = first_order;
  names = codes "trip" ∷ [];
  is = refl;
  plain = (refl, refl);
  unlisted = refl;
  takes = (omega arith, refl);
  typed = λ trees. untrue;
  shows = λ r. refl;
  says = λ r. refl;
  keys = refl;
  heads = λ r. (refl, tt);
}

-- ---- entries

abbrev pub entry_fields : List Term
entry_fields = col 1 1 ∷ col 1 2 ∷ col 1 3 ∷ col 1 4 ∷ col 1 5 ∷ col 1 6 ∷ col 1 7 ∷ col 1 8 ∷ col 1 9 ∷ []

abbrev pub entry_names : List (List ℕ)
entry_names =
    codes "rider" ∷ codes "place" ∷ codes "kind" ∷ codes "day" ∷ codes "author" ∷ codes "a" ∷ codes "b"
    ∷ codes "conditions" ∷ codes "words" ∷ []

pub entries_text : (rider : ℕ) → AsksFor 2 entries_table ENTRIES_BY_RIDER.now (number_value rider ∷ []) (has_number 0 rider)
unfolding understood everything desk_schema
entries_text rider = record {
  tests = op2 (Compare Eq Binary) (col 1 1) (col 0 0) ∷ [];
  fields = entry_fields;
  order = (col 1 1, ascending Binary) ∷ (col 1 2, ascending Binary) ∷ [];
  names = entry_names;
  is = refl;
  plain = (refl, refl);
  unlisted = refl;
  takes = (omega arith, refl);
  typed = λ trees. untrue;
  shows = λ r. refl;
  says = λ r. refl;
  keys = refl;
  heads = λ r. (refl, (refl, tt));
}

-- ---- trips

abbrev pub trip_fields : List Term
trip_fields =
    col 1 0 ∷ col 1 2 ∷ col 1 3 ∷ col 1 4 ∷ col 1 5 ∷ col 1 6 ∷ col 1 7 ∷ col 1 8 ∷ col 1 9 ∷ col 1 10 ∷ col 1 11
    ∷ col 1 12 ∷ col 1 13 ∷ col 1 14 ∷ col 1 15 ∷ col 1 16 ∷ []

abbrev pub trip_names : List (List ℕ)
trip_names =
    codes "id" ∷ codes "rider" ∷ codes "day" ∷ codes "wish" ∷ codes "origin" ∷ codes "goal" ∷ codes "latest"
    ∷ codes "attendant" ∷ codes "companions" ∷ codes "fare" ∷ codes "service" ∷ codes "ride" ∷ codes "vehicle"
    ∷ codes "window_from" ∷ codes "window_to" ∷ codes "status" ∷ []

pub trip_text : (trip : ℕ) → AsksFor 1 trips_table TRIP_BY_NUMBER.now (number_value trip ∷ []) (has_number 0 trip)
unfolding understood everything desk_schema
trip_text trip = record {
  tests = op2 (Compare Eq Binary) (col 1 0) (col 0 0) ∷ [];
  fields = trip_fields;
  order = first_order;
  names = trip_names;
  is = refl;
  plain = (refl, refl);
  unlisted = refl;
  takes = (omega arith, refl);
  typed = λ trees. untrue;
  shows = λ r. refl;
  says = λ r. refl;
  keys = refl;
  heads = λ r. (refl, tt);
}

pub trips_by_rider_text : (rider : ℕ) → AsksFor 1 trips_table TRIPS_BY_RIDER.now (number_value rider ∷ []) (has_number 1 rider)
unfolding understood everything desk_schema
trips_by_rider_text rider = record {
  tests = op2 (Compare Eq Binary) (col 1 2) (col 0 0) ∷ [];
  fields = trip_fields;
  order = first_order;
  names = trip_names;
  is = refl;
  plain = (refl, refl);
  unlisted = refl;
  takes = (omega arith, refl);
  typed = λ trees. untrue;
  shows = λ r. refl;
  says = λ r. refl;
  keys = refl;
  heads = λ r. (refl, tt);
}

pub trips_by_day_text : (day : ℕ) → AsksFor 1 trips_table TRIPS_BY_DAY.now (number_value day ∷ []) (has_number 2 day)
unfolding understood everything desk_schema
trips_by_day_text day = record {
  tests = op2 (Compare Eq Binary) (col 1 3) (col 0 0) ∷ [];
  fields = trip_fields;
  order = first_order;
  names = trip_names;
  is = refl;
  plain = (refl, refl);
  unlisted = refl;
  takes = (omega arith, refl);
  typed = λ trees. untrue;
  shows = λ r. refl;
  says = λ r. refl;
  keys = refl;
  heads = λ r. (refl, tt);
}

pub trips_from_day_text : (day : ℕ) → AsksFor 1 trips_table TRIPS_FROM_DAY.now (number_value day ∷ []) (has_least 2 day)
unfolding understood everything desk_schema
trips_from_day_text day = record {
  tests = op2 (Compare Ge Binary) (col 1 3) (col 0 0) ∷ [];
  fields = trip_fields;
  order = first_order;
  names = trip_names;
  is = refl;
  plain = (refl, refl);
  unlisted = refl;
  takes = (omega arith, refl);
  typed = λ trees. untrue;
  shows = λ r. refl;
  says = λ r. refl;
  keys = refl;
  heads = λ r. (refl, tt);
}

-- ---- stops

pub stops_text : (vehicle day : ℕ) → AsksFor 3 stops_table STOPS_BY_VEHICLE_AND_DAY.now (number_value vehicle ∷ number_value day ∷ []) (has_pair vehicle day)
unfolding understood everything desk_schema
stops_text vehicle day = record {
  tests = op2 (Compare Eq Binary) (col 1 1) (col 0 0) ∷ op2 (Compare Eq Binary) (col 1 2) (col 0 1) ∷ [];
  fields = col 1 1 ∷ col 1 2 ∷ col 1 3 ∷ col 1 4 ∷ col 1 5 ∷ [];
  order = (col 1 1, ascending Binary) ∷ (col 1 2, ascending Binary) ∷ (col 1 3, ascending Binary) ∷ [];
  names = codes "vehicle" ∷ codes "day" ∷ codes "place" ∷ codes "trip" ∷ codes "kind" ∷ [];
  is = refl;
  plain = (refl, refl);
  unlisted = refl;
  takes = (omega arith, refl);
  typed = λ trees. untrue;
  shows = λ r. refl;
  says = λ r. refl;
  keys = refl;
  heads = λ r. (refl, (refl, (refl, tt)));
}
