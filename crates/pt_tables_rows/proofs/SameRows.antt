-- Rows determine records, and so well-formed contents with the same rows are the same. Also which contents are
-- well-formed.
use mathlib.Core.HLevel.{is_prop→PathP}
use Rattle.std.proofs.Common.{◌≡◌, ℕ, zero, suc, ◌≤◌, Bool, true, false, not, List, [], ◌∷◌, map, flat_map, Option, None, Some, refl, sym, ap, subst, ◌∙◌, arith}
use Rattle.std.proofs.Props.{props}
use Rattle.std.proofs.lemmas.List.Elements.{recursion_from_All}
use Rattle.std.specs.Int.{IsInRange}
use Rattle.std.specs.Prelude.{ℤ, ◌==◌, IsPermutation}
use Rattle.std.specs.List.{AllByRecursion}
use Rattle.std.proofs.lemmas.Bool.Decides.{nat_tests}
use Rattle.std.proofs.lemmas.List.Sorted.{length_permutation, IsPermutation-sym, IsPermutation-trans}
use Rattle.sqlite.specs.Order.{Row}
use Rattle.sqlite.specs.Tree.{Trees}
use Rattle.pt_base_values.specs.Place.{IsOnPlane}
use Rattle.pt_base_values.specs.declared.place.Place.{Place}
use Rattle.pt_base_values.specs.declared.place.Point.{Point}
use Rattle.pt_base_values.specs.declared.policy.Policy.{Policy}
use Rattle.pt_base_values.specs.declared.rider.Residence.{Residence}
use Rattle.pt_base_values.specs.declared.rider.Residence.TheVariants.{Resident, Visitor}
use Rattle.pt_base_values.specs.declared.rider.Rider.{Rider}
use Rattle.pt_base_values.specs.declared.trip.Trip.{Trip}
use Rattle.pt_base_values.specs.declared.trip_status.TripStatus.{TripStatus}
use Rattle.pt_base_values.specs.declared.trip_status.TripStatus.TheVariants.{Booked, Cancelled, Ridden, MissedRider, MissedOperator}
use Rattle.pt_base_values.specs.declared.vehicle.Vehicle.{Vehicle}
use Rattle.pt_corridor.specs.Route.{FixedRoute, IsRouteOnPlane}
use Rattle.pt_desk_rules.specs.Parts.{Part, edit_of, key_in, record_in, records_of}
use Rattle.pt_desk_rules.specs.Parts as part
use Rattle.pt_desk_rules.specs.declared.change.FiledEntry.{FiledEntry}
use Rattle.pt_desk_rules.specs.declared.kept.Kept.{Kept}
use Rattle.pt_desk_requests.specs.declared.caller.Caller.{Caller}
use Rattle.pt_desk_requests.specs.declared.caller.Role.{Role}
use Rattle.pt_desk_requests.specs.declared.caller.Role.TheVariants as role
use Rattle.pt_desk_rules.specs.Entry.{Entry}
use Rattle.pt_desk_rules.specs.Entry.TheVariants as entry
use Rattle.pt_desk_rules.specs.Grant.{Grant}
use Rattle.pt_desk_spelling.specs.Fields.{numbers_bytes}
use Rattle.pt_desk_spelling.specs.Ranges.{IsCaller, IsWeek, IsEntry, IsWord, IsRoute, IsVehicle}
use Rattle.pt_desk_spelling.specs.Replies.{IsReply}
use Rattle.pt_desk_spelling.specs.Requests.{role_number, subject_of, kind_number, entry_number}
use Rattle.pt_desk_spelling.proofs.FieldLemmas.{bool-same, days-same}
use Rattle.pt_desk_spelling.proofs.SettingLemmas.{policy-same}
use Rattle.pt_base_values.specs.Day.{IsDay}
use Rattle.pt_desk_rules.specs.Ranges.{FitsPlan, FitsFiled, FitsKept, FitsPlace, FitsRider, FitsTrip}
use Rattle.pt_desk_rules.specs.Sound.{HasStops, IsSound}
use Rattle.pt_desk_rules.specs.State.{State, applied, caller_key, kept_key, place_key, route_key, rider_key, entry_key, vehicle_key, trip_key}
use Rattle.pt_desk_rules.specs.declared.table_name.TableName.{TableName}
use Rattle.pt_desk_rules.specs.declared.table_name.TableName.TheVariants as name
use Rattle.pt_desk_rules.specs.declared.change.Change.{Change}
use Rattle.pt_desk_rules.proofs.PartLemmas.{parts_applied, states_by_parts}
use Rattle.pt_desk_rules.proofs.RangeLemmas.{each-edited, ranges_kept}
use Rattle.pt_base_records.specs.Records.{Each, IsInOrder}
use Rattle.pt_base_records.proofs.OrderLemmas.{Each-both}
use Rattle.pt_base_records.proofs.TableLemmas.{IsInOrder-edited}
use Rattle.pt_desk_scheduling.specs.Plan.{Plan, plan_key}
use Rattle.pt_base_records.specs.Keys.{pair_key}
use Rattle.pt_tables_rows.specs.Rows.{desk_row, caller_row, place_row, rider_row, vehicle_row, trip_row}
use Rattle.pt_tables_rows.specs.Rows.{status_number, route_row, kept_row, entry_row, first_number, second_number}
use Rattle.pt_tables_rows.specs.Rows.{entry_conditions, entry_words, row_if, rider_chair_rows, vehicle_chair_rows}
use Rattle.pt_tables_rows.specs.Rows.{trip_chair_rows, one_row, record_rows, rows_in}
use Rattle.pt_tables_rows.specs.Schema.{table_in, rider_chairs_table, vehicle_chairs_table, trip_chairs_table}
use Rattle.pt_tables_rows.proofs.SameRowsLists.{Tells, none_beside, one_same, told_by_rows}
use Rattle.pt_tables_rows.proofs.SameRowsBytes.{line-told, reply-told, grant-told}
use Rattle.pt_tables_rows.proofs.ColumnLemmas.{integer_in, number_in, known_in, bytes_in, known-value}
use Rattle.pt_tables_rows.specs.Tables.{AreRows, HasRows, IsStored, IsStoredPlan, IsWellFormed, PutsWellFormed, columns_of}
use Rattle.pt_tables_rows.specs.Opens.{Opens}
use Rattle.pt_tables_rows.proofs.SameRowsGroups.{stops-keyed, stops-some, plan-told, drives-keyed, table-told}

-- ---- the ranges of fields hold in one way

at_most-prop : (most n : ℕ) → IsProp (n ≤ most)
at_most-prop most n = hlevel props

range-prop : (least most n : ℕ) → IsProp (IsInRange least most n)
range-prop least most n = hlevel props

plane-prop : (x y : ℤ) → IsProp (IsOnPlane x y)
plane-prop x y = hlevel props

-- ---- the agency

pub last_trip-told : (one other : Policy) (last latest : ℕ) → desk_row one last ≡ desk_row other latest → last ≡ latest
last_trip-told one other last latest same = ap (number_in 10) same

pub policy-told : (one other : Policy) (last latest : ℕ) → desk_row one last ≡ desk_row other latest → one ≡ other
policy-told one other last latest same =
    let told : Row → List ℕ = λ row. number_in 2 row ∷ number_in 3 row ∷ number_in 4 row ∷ number_in 5 row
    ∷ number_in 6 row ∷ number_in 7 row ∷ number_in 8 row ∷ number_in 9 row ∷ [] in
    policy-same one other (ap (λ row. numbers_bytes (told row)) same)

-- ---- callers

role-told : (one other : Role) → role_number one ≡ role_number other → subject_of one ≡ subject_of other → one ≡ other
role-told (role.Rider a) (role.Rider b) kind subject = ap (λ (n : ℕ). role.Rider n) subject
role-told role.Clerk role.Clerk kind subject = refl
role-told role.Examiner role.Examiner kind subject = refl
role-told role.Officer role.Officer kind subject = refl
role-told role.Dispatcher role.Dispatcher kind subject = refl
role-told (role.Driver a) (role.Driver b) kind subject = ap (λ (n : ℕ). role.Driver n) subject
role-told role.Admin role.Admin kind subject = refl
role-told one other kind subject = absurd (omega arith)

pub caller-told : (one other : Caller) → caller_row one ≡ caller_row other → one ≡ other
caller-told one other same =
    let duty = role-told one.role other.role (ap (number_in 1) same) (ap (number_in 2) same) in
    λ i. record { id = number_in 0 (same i); role = duty i; digest = bytes_in 3 (same i) }

-- ---- places

pub place-told : (one other : Place) → place_row one ≡ place_row other → one ≡ other
place-told one other same =
    let core = bool-same one.core other.core (ap (number_in 3) same) in
    λ i. record {
      id = number_in 0 (same i);
      at = record { x = integer_in 1 (same i); y = integer_in 2 (same i) };
      core = core i;
      on_plane = is_prop→PathP (λ j. IsOnPlane (integer_in 1 (same j)) (integer_in 2 (same j)))
          (λ j. plane-prop _ _) one.on_plane other.on_plane i;
    }

-- ---- rows that are there if a value is true

-- their number determines the value
pub so_told : (one other : Bool) (a b : Row) → IsPermutation (row_if one a) (row_if other b) → one ≡ other
so_told true true a b same = refl
so_told false false a b same = refl
so_told true false a b same = absurd (let count = length_permutation _ _ same in omega arith)
so_told false true a b same = absurd (let count = length_permutation _ _ same in omega arith)

-- and have the key of their record
pub so_keyed : (so : Bool) (row : Row) (key_in : Row → ℕ) (key : ℕ) → key_in row ≡ key
    → AllByRecursion (λ r. key_in r ≡ key) (row_if so row)
so_keyed true row key_in key is = (is, tt)
so_keyed false row key_in key is = tt

-- a number other than zero has a row
is_some : (n : ℕ) → not (suc n == 0) ≡ true
is_some n = grind (arith, nat_tests)

number_told : (one other : ℕ) (a b : Row) → number_in 2 a ≡ one → number_in 2 b ≡ other
    → IsPermutation (row_if (not (one == 0)) a) (row_if (not (other == 0)) b) → one ≡ other
number_told zero zero a b is_one is_other same = refl
number_told (suc n) zero a b is_one is_other same =
    let so = so_told (not (suc n == 0)) (not (0 == 0)) a b same in let yes = is_some n in absurd (cc)
number_told zero (suc n) a b is_one is_other same =
    let so = so_told (not (0 == 0)) (not (suc n == 0)) a b same in let yes = is_some n in absurd (cc)
number_told (suc n) (suc m) a b is_one is_other same =
    let both = subst (λ s. IsPermutation (row_if s a) (row_if (not (suc m == 0)) b)) (is_some n) same in
    let one_each = subst (λ s. IsPermutation (a ∷ []) (row_if s b)) (is_some m) both in
    sym is_one ∙ ap (number_in 2) (one_same a b one_each) ∙ is_other

-- ---- vehicles

pub vehicle-told : (one other : Vehicle) → IsWeek one.days → IsWeek other.days → vehicle_row one ≡ vehicle_row other
    → IsPermutation (vehicle_chair_rows one) (vehicle_chair_rows other) → one ≡ other
vehicle-told one other ones others same also =
    let chairs = number_told one.chairs other.chairs _ _ refl refl also in
    let days = days-same one.days other.days ones others (ap (number_in 2) same) in
    λ i. record {
      id = number_in 0 (same i);
      from_day = number_in 1 (same i);
      days = days i;
      depot = number_in 3 (same i);
      capacity = number_in 4 (same i);
      chairs = chairs i;
      opens = number_in 5 (same i);
      closes = number_in 6 (same i);
      duration = number_in 7 (same i);
      capacity_in_range = is_prop→PathP (λ j. IsInRange 1 30 (number_in 4 (same j))) (λ j. range-prop _ _ _)
          one.capacity_in_range other.capacity_in_range i;
      chairs_in_range = is_prop→PathP (λ j. chairs j ≤ 10) (λ j. at_most-prop _ _)
          one.chairs_in_range other.chairs_in_range i;
      hours_ordered = is_prop→PathP (λ j. number_in 5 (same j) ≤ number_in 6 (same j)) (λ j. at_most-prop _ _)
          one.hours_ordered other.hours_ordered i;
      duration_in_range = is_prop→PathP (λ j. IsInRange 1 1_439 (number_in 7 (same j))) (λ j. range-prop _ _ _)
          one.duration_in_range other.duration_in_range i;
    }

-- ---- riders

kind-told : (one other : Residence) → kind_number one ≡ kind_number other → one ≡ other
kind-told Resident Resident same = refl
kind-told Visitor Visitor same = refl
kind-told one other same = absurd (omega arith)

pub rider-told : (one other : Rider) → rider_row one ≡ rider_row other
    → IsPermutation (rider_chair_rows one) (rider_chair_rows other) → one ≡ other
rider-told one other same also =
    let wheelchair = so_told one.wheelchair other.wheelchair _ _ also in
    let kind = kind-told one.kind other.kind (ap (number_in 1) same) in
    let attendant = bool-same one.attendant other.attendant (ap (number_in 2) same) in
    λ i. record {
      id = number_in 0 (same i);
      kind = kind i;
      attendant = attendant i;
      wheelchair = wheelchair i;
    }

-- ---- trips

status-told : (one other : TripStatus) → status_number one ≡ status_number other → one ≡ other
status-told Booked Booked same = refl
status-told Cancelled Cancelled same = refl
status-told Ridden Ridden same = refl
status-told MissedRider MissedRider same = refl
status-told MissedOperator MissedOperator same = refl
status-told one other same = absurd (omega arith)

pub trip-told : (one other : Trip) → trip_row one ≡ trip_row other
    → IsPermutation (trip_chair_rows one) (trip_chair_rows other) → one ≡ other
trip-told one other same also =
    let wheelchair = so_told one.wheelchair other.wheelchair _ _ also in
    let by : one.wish.by ≡ other.wish.by =
    sym (known-value one.wish.by) ∙ ap (known_in 6) same ∙ known-value other.wish.by in
    let attendant = bool-same one.wish.attendant other.wish.attendant (ap (number_in 7) same) in
    let status = status-told one.status other.status (ap (number_in 15) same) in
    λ i. record {
      id = number_in 0 (same i);
      rider = number_in 1 (same i);
      wish = record {
        day = number_in 2 (same i);
        pickup = number_in 3 (same i);
        from = number_in 4 (same i);
        to = number_in 5 (same i);
        by = by i;
        attendant = attendant i;
        companions = number_in 8 (same i);
      };
      wheelchair = wheelchair i;
      fare = number_in 9 (same i);
      service = number_in 10 (same i);
      ride = number_in 11 (same i);
      vehicle = number_in 12 (same i);
      window_from = number_in 13 (same i);
      window_to = number_in 14 (same i);
      status = status i;
      companions_in_range = is_prop→PathP (λ j. number_in 8 (same j) ≤ 1) (λ j. at_most-prop _ _)
          one.companions_in_range other.companions_in_range i;
      fare_in_range = is_prop→PathP (λ j. number_in 9 (same j) ≤ 100_000) (λ j. at_most-prop _ _)
          one.fare_in_range other.fare_in_range i;
      service_in_range = is_prop→PathP (λ j. number_in 10 (same j) ≤ 30) (λ j. at_most-prop _ _)
          one.service_in_range other.service_in_range i;
      ride_in_range = is_prop→PathP (λ j. number_in 11 (same j) ≤ 1_679) (λ j. at_most-prop _ _)
          one.ride_in_range other.ride_in_range i;
    }

-- ---- fixed routes

pub route-told : (one other : FixedRoute) → IsRouteOnPlane one × IsWeek one.days → IsRouteOnPlane other × IsWeek other.days
    → route_row one ≡ route_row other → one ≡ other
route-told one other ones others same =
    let OnPlane : Point → Type 0 = λ p. IsOnPlane p.x p.y in
    let points = line-told one.points other.points (recursion_from_All OnPlane one.points ones.0)
    (recursion_from_All OnPlane other.points others.0) (ap (bytes_in 2) same) in
    let accessible = bool-same one.accessible other.accessible (ap (number_in 3) same) in
    let days = days-same one.days other.days ones.1 others.1 (ap (number_in 4) same) in
    λ i. record {
      id = number_in 0 (same i);
      width = number_in 1 (same i);
      points = points i;
      accessible = accessible i;
      days = days i;
      first = number_in 5 (same i);
      last = number_in 6 (same i);
    }

-- ---- the last accepted writes

pub kept-told : (one other : Kept) → IsReply one.reply → IsReply other.reply → kept_row one ≡ kept_row other
    → one ≡ other
kept-told one other ones others same =
    let reply = reply-told one.reply other.reply ones others (ap (bytes_in 3) same) in
    λ i. record {
      caller = number_in 0 (same i);
      number = number_in 1 (same i);
      request = bytes_in 2 (same i);
      reply = reply i;
    }

-- ---- entries of case files

-- what an entry has besides its conditions: its kind, its numbers and its words
abbrev HasSameFields : Entry → Entry → Type 0
HasSameFields one other =
    (entry_number one ≡ entry_number other) × (first_number one ≡ first_number other)
    × (second_number one ≡ second_number other) × (entry_words one ≡ entry_words other)

some-same : (a b : ℕ) → Some a ≡ Some b → a ≡ b
some-same a b same = cc

particulars-told : (one other : Entry) → IsEntry one → IsEntry other → HasSameFields one other
    → entry_conditions one ≡ entry_conditions other → one ≡ other
particulars-told entry.Complete entry.Complete ones others same conditions = refl
particulars-told (entry.Grant a) (entry.Grant b) ones others same conditions =
    ap (λ (g : Grant). entry.Grant g) (grant-told a b ones.conditions others.conditions (some-same a.until b.until same.1) conditions)
particulars-told (entry.Refuse a) (entry.Refuse b) ones others same conditions =
    ap (λ (t : List ℕ). entry.Refuse t) same.3
particulars-told (entry.Appeal a) (entry.Appeal b) ones others same conditions =
    ap (λ (n : ℕ). entry.Appeal n) (some-same a b same.1)
particulars-told entry.Heard entry.Heard ones others same conditions = refl
particulars-told (entry.AppealGranted a) (entry.AppealGranted b) ones others same conditions =
    ap (λ (g : Grant). entry.AppealGranted g) (grant-told a b ones.conditions others.conditions (some-same a.until b.until same.1) conditions)
particulars-told (entry.AppealDenied a) (entry.AppealDenied b) ones others same conditions =
    ap (λ (t : List ℕ). entry.AppealDenied t) same.3
particulars-told entry.Overturn entry.Overturn ones others same conditions = refl
particulars-told (entry.Notice a) (entry.Notice b) ones others same conditions =
    ap (λ (t : List ℕ). entry.Notice t) same.3
particulars-told entry.NoticeHeard entry.NoticeHeard ones others same conditions = refl
particulars-told (entry.Suspend starts ends a) (entry.Suspend first last b) ones others same conditions =
    let from = some-same starts first same.1 in
    let to = some-same ends last same.2 in
    λ i. entry.Suspend (from i) (to i) (same.3 i)
particulars-told one other ones others same conditions = absurd (let kind = same.0 in omega arith)

pub entry-told : (one other : FiledEntry) → IsEntry one.entered.entry → IsEntry other.entered.entry
    → entry_row one ≡ entry_row other → one ≡ other
entry-told one other ones others same =
    let a = one.entered.entry in
    let b = other.entered.entry in
    let first : first_number a ≡ first_number b =
    sym (known-value (first_number a)) ∙ ap (known_in 5) same ∙ known-value (first_number b) in
    let second : second_number a ≡ second_number b =
    sym (known-value (second_number a)) ∙ ap (known_in 6) same ∙ known-value (second_number b) in
    let entered = particulars-told a b ones others (ap (number_in 2) same, first, second, ap (bytes_in 8) same)
    (ap (bytes_in 7) same) in
    λ i. record {
      rider = number_in 0 (same i);
      position = number_in 1 (same i);
      entered = record { entry = entered i; day = number_in 3 (same i); author = number_in 4 (same i) };
    }

-- ---- what well-formed records keep to

pub day-word : (n : ℕ) → IsDay n → IsWord n
day-word n day = let last = day.1 in omega arith

-- rows can represent plans that are in their ranges and have stops
pub stored-plans : (plans : List Plan) → Each FitsPlan plans → Each HasStops plans → Each IsStoredPlan plans
stored-plans plans fits some = Each-both FitsPlan HasStops IsStoredPlan (λ plan fits some. (fits, some)) plans fits some

-- and so the records of each part of a content that is well-formed
pub stored_in : (s : State) → IsWellFormed s → (p : Part) → Each (IsStored p) (records_of p s)
stored_in s well part.planned = stored-plans s.planned (well.ranges.parts part.planned) well.stops
stored_in s well p = well.ranges.parts p

-- ---- sound states are well-formed

in_order : (s : State) → IsSound s → (p : Part) → IsInOrder (key_in p) (records_of p s)
in_order s sound part.callers = sound.callers.in_order
in_order s sound part.kept = sound.kept_in_order
in_order s sound part.places = sound.places.in_order
in_order s sound part.routes = sound.routes.in_order
in_order s sound part.riders = sound.riders.in_order
in_order s sound part.entries = sound.entries_in_order
in_order s sound part.vehicles = sound.vehicles_in_order
in_order s sound part.travel = sound.travel.in_order
in_order s sound part.trips = sound.trips_in_order
in_order s sound part.planned = sound.planned_in_order

pub sound-well_formed : (s : State) → IsSound s → IsWellFormed s
sound-well_formed s sound = record { order = in_order s sound; stops = sound.planned_have_stops; ranges = sound.ranges }

-- ---- and what changes leave is

pub applied-well_formed : (change : Change) (s : State) → IsWellFormed s → PutsWellFormed change
    → IsWellFormed (applied change s)
applied-well_formed change s told new = record {
  order = λ p. subst (IsInOrder (key_in p)) (sym (parts_applied p change s))
      (IsInOrder-edited (key_in p) (edit_of p change).away (edit_of p change).puts (records_of p s) (told.order p));
  stops = each-edited HasStops plan_key change.planned s.planned new.stops told.stops;
  ranges = ranges_kept change s new.ranges told.ranges;
}

-- ---- the records of a part

-- the table of a part's records
abbrev pub table_of : Part → TableName
table_of part.callers = name.Callers
table_of part.kept = name.Kept
table_of part.places = name.Places
table_of part.routes = name.Fixed
table_of part.riders = name.Riders
table_of part.entries = name.Entries
table_of part.vehicles = name.Vehicles
table_of part.travel = name.Travel
table_of part.trips = name.Trips
table_of part.planned = name.Stops

-- the rows of that table
pub rows_of_part : (p : Part) (s : State) → rows_in (table_of p) s ≡ flat_map (record_rows p) (records_of p s)
rows_of_part part.callers s = refl
rows_of_part p s = refl

-- the rows of one are the rows of the other
pub shared : (shown one other : List Row) → IsPermutation shown one → IsPermutation shown other → IsPermutation one other
shared shown one other ones others = IsPermutation-trans _ _ _ (IsPermutation-sym _ _ ones) others

-- the number of a row with a key of two columns
abbrev pub pair_in : Row → ℕ
pair_in row = pair_key (number_in 0 row) (number_in 1 row)

-- the rows of a record in a second table
abbrev pub beside_rows : (p : Part) → record_in p → List Row
beside_rows part.riders = rider_chair_rows
beside_rows part.vehicles = vehicle_chair_rows
beside_rows part.trips = trip_chair_rows
beside_rows p = λ x. []

module _ {A : Type 0} (key : A → ℕ) (number : Row → ℕ) (row : A → Row) (Fits : A → Type 0) (keyed : (x : A) → number (row x) ≡ key x) where
  -- records of one row each, with rows in a second table
  by_both : (beside : A → List Row) → ((x : A) → AllByRecursion (λ r. number r ≡ key x) (beside x))
      → ((x y : A) → Fits x → Fits y → row x ≡ row y → IsPermutation (beside x) (beside y) → x ≡ y) → Tells key (one_row row) beside Fits
  by_both beside also_keyed told = record {
    key_in = number;
    key_beside = number;
    keyed = λ x. (keyed x, tt);
    also_keyed = also_keyed;
    some = λ x fits. omega arith;
    told = λ x y fits also same marks. told x y fits also (one_same (row x) (row y) same) marks;
  }

  -- and without them
  by_row : ((x y : A) → Fits x → Fits y → row x ≡ row y → x ≡ y) → Tells key (one_row row) (λ x. []) Fits
  by_row told = by_both (λ x. []) (λ x. tt) (λ x y fits also same none. told x y fits also same)

tells : (p : Part) → Tells (key_in p) (record_rows p) (beside_rows p) (IsStored p)
tells part.callers = by_row caller_key (number_in 0) caller_row IsCaller (λ x. refl) (λ x y fits also. caller-told x y)
tells part.kept = by_row kept_key (number_in 0) kept_row FitsKept (λ x. refl) (λ x y fits also. kept-told x y fits.reply also.reply)
tells part.places = by_row place_key (number_in 0) place_row FitsPlace (λ x. refl) (λ x y fits also. place-told x y)
tells part.routes =
    by_row route_key (number_in 0) route_row IsRoute (λ x. refl) (λ x y fits also. route-told x y (fits.fixed.on_plane, fits.days) (also.fixed.on_plane, also.days))
tells part.riders =
    by_both rider_key (number_in 0) rider_row FitsRider (λ x. refl) rider_chair_rows (λ x. so_keyed x.wheelchair _ (number_in 0) x.id refl)
    (λ x y fits also. rider-told x y)
tells part.entries = by_row entry_key pair_in entry_row FitsFiled (λ x. refl) (λ x y fits also. entry-told x y fits.entry also.entry)
tells part.vehicles =
    by_both vehicle_key pair_in vehicle_row IsVehicle (λ x. refl) vehicle_chair_rows (λ x. so_keyed (not (x.chairs == 0)) _ pair_in (vehicle_key x) refl)
    (λ x y fits also. vehicle-told x y fits.days also.days)
tells part.travel = record {
  key_in = number_in 0;
  key_beside = number_in 0;
  keyed = λ x. drives-keyed x.from_day ((0, 0, 0) ∷ x.rows);
  also_keyed = λ x. tt;
  some = λ x fits. omega arith;
  told = λ x y fits also same none. table-told x y fits.table.in_order also.table.in_order same;
}
tells part.trips =
    by_both trip_key (number_in 0) trip_row FitsTrip (λ x. refl) trip_chair_rows (λ x. so_keyed x.wheelchair _ (number_in 0) x.id refl)
    (λ x y fits also. trip-told x y)
tells part.planned = record {
  key_in = pair_in;
  key_beside = pair_in;
  keyed = λ x. stops-keyed 0 x.vehicle x.day x.stops;
  also_keyed = λ x. tt;
  some = λ x fits. stops-some x fits.1;
  told = λ x y fits also same none. plan-told x y fits.1 also.1 same;
}

-- records in order, with the same rows in both tables, are the same
pub same_records : (p : Part) (shown beside : List Row) (one other : List (record_in p)) → IsInOrder (key_in p) one → IsInOrder (key_in p) other
    → Each (IsStored p) one → Each (IsStored p) other
    → IsPermutation shown (flat_map (record_rows p) one) → IsPermutation shown (flat_map (record_rows p) other)
    → IsPermutation beside (flat_map (beside_rows p) one) → IsPermutation beside (flat_map (beside_rows p) other) → one ≡ other
same_records p shown beside one other order other_order fit others_fit rows other_rows marks other_marks =
    told_by_rows (key_in p) (record_rows p) (beside_rows p) (IsStored p) (tells p) one other order other_order fit others_fit
    (shared shown _ _ rows other_rows) (shared beside _ _ marks other_marks)

-- ---- contents

-- the rows that a second table of a part shows
abbrev shown_beside : Part → Trees → List Row
shown_beside part.riders trees = map (columns_of rider_chairs_table) (trees rider_chairs_table.tree)
shown_beside part.vehicles trees = map (columns_of vehicle_chairs_table) (trees vehicle_chairs_table.tree)
shown_beside part.trips trees = map (columns_of trip_chairs_table) (trees trip_chairs_table.tree)
shown_beside p trees = []

are_beside : (p : Part) (s : State) (trees : Trees) → HasRows s trees → IsPermutation (shown_beside p trees) (flat_map (beside_rows p) (records_of p s))
are_beside part.riders s trees has = has name.RiderChairs
are_beside part.vehicles s trees has = has name.VehicleChairs
are_beside part.trips s trees has = has name.TripChairs
are_beside p s trees has = none_beside (records_of p s)

own_rows : (p : Part) (s : State) (trees : Trees) → HasRows s trees → AreRows (table_in (table_of p)) trees (flat_map (record_rows p) (records_of p s))
own_rows p s trees has = subst (AreRows (table_in (table_of p)) trees) (rows_of_part p s) (has (table_of p))

module _ (one other : State) (trees : Trees) (ones : IsWellFormed one) (others : IsWellFormed other)
    (shows : HasRows one trees) (others_show : HasRows other trees) where
  pub same_content : one ≡ other
  same_content =
      let desk = one_same _ _ (shared _ _ _ (shows name.Desk) (others_show name.Desk)) in
      states_by_parts one other
      (λ p. same_records p _ (shown_beside p trees) (records_of p one) (records_of p other) (ones.order p) (others.order p) (stored_in one ones p) (stored_in other others p)
      (own_rows p one trees shows) (own_rows p other trees others_show) (are_beside p one trees shows) (are_beside p other trees others_show))
      (policy-told one.policy other.policy one.last_trip other.last_trip desk) (last_trip-told one.policy other.policy one.last_trip other.last_trip desk)

pub opens_once : (trees : Trees) (one other : Option State) → Opens trees one → Opens trees other → one ≡ other
opens_once trees None None ones others = refl
opens_once trees None (Some b) ones others = absurd (ones b others.0 others.1)
opens_once trees (Some a) None ones others = absurd (others a ones.0 ones.1)
opens_once trees (Some a) (Some b) ones others =
    ap (λ (s : State). Some s) (same_content a b trees ones.0 others.0 ones.1 others.1)
