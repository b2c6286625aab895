-- What holds of each table. Its place among all. What a content that is sound there, or has its rows, has in it. Two
-- contents with its rows have the same records in it, except for wheelchairs and wheelchair places, which the last
-- three tables have.
use Rattle.std.proofs.Common.{◌≡◌, ◌+◌, ◌-◌, ◌<◌, ◌≤◌, ◌++◌, zero, suc, ℕ, List, [], ◌∷◌, length, map, flat_map, take, drop}
use Rattle.std.proofs.Common.{get_or, refl, sym, ap, subst, arith, false, subst₂, ◌∙◌, Result, Ok, IsErr}
use Rattle.std.proofs.Common.{IsErrAnd, Err, IfOk, IfErr, lit≤}
use Rattle.std.specs.List.{range_with_len}
use Rattle.std.proofs.lemmas.List.Sorted.{IsPermutation-refl}
use Rattle.std.specs.Prelude.{IsPermutation}
use Rattle.sqlite.specs.Order.{Row}
use Rattle.sqlite.specs.Table.{Table}
use Rattle.sqlite.specs.Tree.{Trees}
use Rattle.pt_desk_rules.specs.Parts.{Part, key_in, record_in, records_of}
use Rattle.pt_desk_rules.specs.Parts as part
use Rattle.pt_desk_rules.specs.Ranges.{FitsPlan, FitsRider, FitsTrip}
use Rattle.pt_desk_rules.specs.Sound.{HasStops}
use Rattle.pt_desk_rules.specs.State.{State, rider_key, vehicle_key, trip_key}
use Rattle.pt_base_records.specs.Records.{Each, IsInOrder}
use Rattle.pt_base_records.proofs.OrderLemmas.{Each-weaker}
use Rattle.pt_desk_scheduling.specs.Plan.{Plan, IsRoutePlan}
use Rattle.pt_desk_rules.specs.TableNames.{all_tables, number_of, table_count}
use Rattle.pt_tables_soundness.specs.Tables.{IsSoundIn, KeepsRangesIn, KeepsLinesIn, AreSoundCallers, AreSoundEntries}
use Rattle.pt_tables_soundness.specs.Tables.{AreSoundKept, AreSoundLoads, AreSoundPlaces, AreSoundPlans, AreSoundRiders}
use Rattle.pt_tables_soundness.specs.Tables.{AreSoundRoutes, AreSoundTables, AreSoundTrips, AreSoundVehicles}
use Rattle.pt_desk_rules.specs.declared.table_name.TableName.{TableName}
use Rattle.pt_desk_rules.specs.declared.table_name.TableName.TheVariants as table
use Rattle.pt_tables_rows.specs.Rows.{stop_rows, vehicle_row, rider_row, trip_row, one_row, record_rows}
use Rattle.pt_tables_rows.specs.Schema.{table_in, vehicles_table, riders_table, trips_table}
use Rattle.pt_tables_rows.specs.Tables.{AreRows, HasRowsIn, IsStored, IsStoredPlan}
use Rattle.pt_tables_rows.proofs.NameLemmas.{as_map}
use Rattle.pt_base_values.specs.declared.place.Place.{Place}
use Rattle.pt_base_values.specs.declared.rider.Rider.{Rider}
use Rattle.pt_base_values.specs.declared.trip.Trip.{Trip}
use Rattle.pt_base_values.specs.declared.vehicle.Vehicle.{Vehicle}
use Rattle.pt_desk_rules.specs.Travel.{TravelTable}
use Rattle.pt_desk_rules.specs.declared.change.FiledEntry.{FiledEntry}
use Rattle.pt_desk_requests.specs.declared.caller.Caller.{Caller}
use Rattle.pt_tables_soundness.proofs.AlikeLemmas.{AlikeRider, AlikeTrip, AlikeVehicle, alike_entries, alike_plans, alike_riders, alike_tables, alike_trips, alike_vehicles}
use Rattle.pt_tables_soundness.proofs.PairedLemmas.{Paired, paired_by}
use Rattle.pt_desk_spelling.proofs.FieldLemmas.{days-same}
use Rattle.pt_desk_spelling.specs.Ranges.{IsVehicle}
use Rattle.pt_tables_rows.proofs.SameRowsLists.{none_beside, one_same}
use Rattle.pt_tables_rows.proofs.ColumnLemmas.{number_in, known_in, known-value}
use Rattle.pt_tables_rows.proofs.SameRows.{beside_rows, last_trip-told, pair_in, rows_of_part, same_records, shared, table_of, trip-told}
use Rattle.pt_tables_opening.specs.Gathered.{FitsRows}
use Rattle.pt_tables_opening.specs.Tables.{IsLaidIn, IsStoredIn}
use Rattle.pt_tables_opening.proofs.ContentLemmas.{mid}
use Rattle.pt_tables_opening.proofs.GatheredLemmas.{each_push}
use Rattle.pt_tables_opening.proofs.PlanReading.{rows-of-stops}
use Rattle.pt_tables_opening.specs.Standing.{StandsIn, StandsTo}
use Rattle.pt_tables_opening.specs.Steps.{HasRowsTo}
use Rattle.pt_tables_opening.proofs.OrderedLemmas.{same_rows}

-- ---- the tables in their order

-- a table comes after all before it
pub after_all : (t : TableName) → take (number_of t) all_tables ≡ take (number_of t - 1) all_tables ++ t ∷ []
after_all table.Desk = refl
after_all _ = refl

pub last_table : (t : TableName) → number_of t ≤ table_count
last_table table.Desk = omega arith
last_table _ = omega arith

-- what holds before a table and in it holds up to it
pub and_in : (P : TableName → Type 0) (t : TableName) → Each P (take (number_of t - 1) all_tables) → P t → Each P (take (number_of t) all_tables)
and_in P t before here = subst (Each P) (sym (after_all t)) (each_push P (take (number_of t - 1) all_tables) t before here)

-- what holds up to a table holds in it
pub here_in : (P : TableName → Type 0) (t : TableName) → Each P (take (number_of t) all_tables) → P t
here_in P t each = mid P (take (number_of t - 1) all_tables) t [] (subst (Each P) (after_all t) each)

among_first : (P : TableName → Type 0) (m n : ℕ) (ts : List TableName) → m ≤ n → Each P (take n ts) → Each P (take m ts)
among_first P zero n [] low each = tt
among_first P zero n (t ∷ ts) low each = tt
among_first P (suc m) zero ts low each = absurd (omega arith)
among_first P (suc m) (suc n) [] low each = tt
among_first P (suc m) (suc n) (t ∷ ts) low each = (each.0, among_first P m n ts (omega arith) each.1)

-- and what holds up to a later table
pub among : (P : TableName → Type 0) (t : TableName) (n : ℕ) → number_of t ≤ n → Each P (take n all_tables) → P t
among P t n low each = here_in P t (among_first P (number_of t) n all_tables low each)

-- of tables with consecutive numbers from `k` on, the first `n` have numbers below `k + n`
each_below : (P Q : TableName → Type 0) (k n : ℕ) (ts : List TableName) → map number_of ts ≡ range_with_len k (length ts) → ((t : TableName) → number_of t < k + n → P t → Q t)
    → Each P (take n ts) → Each Q (take n ts)
each_below P Q k zero [] numbers all each = tt
each_below P Q k zero (t ∷ ts) numbers all each = tt
each_below P Q k (suc n) [] numbers all each = tt
each_below P Q k (suc n) (t ∷ ts) numbers all each =
    let first : number_of t ≡ k = ap (λ (l : List ℕ). get_or l 0 0) numbers in
    (all t (omega arith) each.0, each_below P Q (k + 1) n ts (ap (λ (l : List ℕ). drop 1 l) numbers) (λ u low. all u (omega arith)) each.1)

pub each_upto : (P Q : TableName → Type 0) (n : ℕ) → ((t : TableName) → number_of t ≤ n → P t → Q t) → Each P (take n all_tables) → Each Q (take n all_tables)
each_upto P Q n all each = each_below P Q 1 n all_tables refl (λ t low. all t (omega arith)) each

-- ---- what is stored in a table

-- a route has 100 stops at most
plans_laid : (plans : List Plan) → Each FitsPlan plans → Each IsRoutePlan plans → Each HasStops plans → Each (FitsRows stop_rows IsStoredPlan) plans
plans_laid [] fits routes some = tt
plans_laid (plan ∷ plans) fits routes some =
    let few = routes.0.few in
    let long = rows-of-stops 0 plan.vehicle plan.day plan.stops in
    (((fits.0, some.0), omega (arith, long, few)), plans_laid plans fits.1 routes.1 some.1)

-- what is sound in a table is in the order of its keys, and in the form in which its rows are read back
pub laid_in : (s : State) (t : TableName) → IsSoundIn s t → IsLaidIn s t
laid_in s table.Desk sound = sound.0
laid_in s table.Callers sound = (sound.1.table.in_order, sound.0)
laid_in s table.Riders sound = (sound.1.table.in_order, sound.0)
laid_in s table.Stops sound = (sound.1.in_order, plans_laid s.planned sound.0 sound.1.routes sound.1.have_stops)
laid_in s table.Travel sound = (sound.1.table.in_order, sound.0)
laid_in s table.RiderChairs sound = tt
laid_in s table.VehicleChairs sound = tt
laid_in s table.TripChairs sound = tt
laid_in s _ sound = (sound.1.in_order, sound.0)

pub each_laid : (s : State) (ts : List TableName) → Each (IsSoundIn s) ts → Each (IsLaidIn s) ts
each_laid s ts sound = Each-weaker (IsSoundIn s) (IsLaidIn s) (laid_in s) ts sound

-- what was read of a table keeps to its ranges
pub ranges_laid : (s : State) (t : TableName) → IsLaidIn s t → KeepsRangesIn s t
ranges_laid s table.Desk laid = laid
ranges_laid s table.Stops laid = Each-weaker (FitsRows stop_rows IsStoredPlan) FitsPlan (λ plan fits. fits.0.0) s.planned laid.1
ranges_laid s table.RiderChairs laid = tt
ranges_laid s table.VehicleChairs laid = tt
ranges_laid s table.TripChairs laid = tt
ranges_laid s _ laid = laid.1

-- the records of a part, in the order of their keys
pub laid_of : (p : Part) (s : State) → IsLaidIn s (table_of p) → IsInOrder (key_in p) (records_of p s) × Each (IsStoredIn p) (records_of p s)
laid_of part.callers s laid = laid
laid_of p s laid = laid

-- and their rows
pub rows_of : (p : Part) (s : State) (trees : Trees) → HasRowsIn s trees (table_of p) → AreRows (table_in (table_of p)) trees (flat_map (record_rows p) (records_of p s))
rows_of p s trees rows = subst (AreRows (table_in (table_of p)) trees) (rows_of_part p s) rows

-- what is read back can be stored
storable : (p : Part) (x : record_in p) → IsStoredIn p x → IsStored p x
storable part.planned x fits = fits.0
storable p x fits = fits

-- ---- records with the same row

pub rider_alike : (one other : Rider) → rider_row one ≡ rider_row other → AlikeRider one other
rider_alike one other same = ap (number_in 0) same

pub vehicle_alike : (one other : Vehicle) → IsVehicle one → IsVehicle other → vehicle_row one ≡ vehicle_row other → AlikeVehicle one other
vehicle_alike one other ones others same = record {
  id = ap (number_in 0) same;
  from_day = ap (number_in 1) same;
  days = days-same one.days other.days ones.days others.days (ap (number_in 2) same);
  depot = ap (number_in 3) same;
  opens = ap (number_in 5) same;
  closes = ap (number_in 6) same;
  duration = ap (number_in 7) same;
}

-- a trip, in no wheelchair
abbrev afoot : Trip → Trip
afoot trip = record trip { wheelchair = false }

pub trip_alike : (one other : Trip) → trip_row one ≡ trip_row other → AlikeTrip one other
trip_alike one other same =
    let status : one.status ≡ other.status = ap (λ (t : Trip). t.status) (trip-told (afoot one) (afoot other) same (IsPermutation-refl [])) in
    record {
      id = ap (number_in 0) same;
      rider = ap (number_in 1) same;
      day = ap (number_in 2) same;
      from = ap (number_in 4) same;
      to = ap (number_in 5) same;
      by = sym (known-value one.wish.by) ∙ ap (known_in 6) same ∙ known-value other.wish.by;
      service = ap (number_in 10) same;
      ride = ap (number_in 11) same;
      vehicle = ap (number_in 12) same;
      window_from = ap (number_in 13) same;
      window_to = ap (number_in 14) same;
      status = status;
    }

pub riders_alike : (xs ys : List Rider) → Each FitsRider xs → Each FitsRider ys → map rider_row xs ≡ map rider_row ys → Paired AlikeRider xs ys
riders_alike xs ys ones others same = paired_by AlikeRider FitsRider rider_row (λ x y fits also. rider_alike x y) xs ys ones others same

pub vehicles_alike : (xs ys : List Vehicle) → Each IsVehicle xs → Each IsVehicle ys → map vehicle_row xs ≡ map vehicle_row ys → Paired AlikeVehicle xs ys
vehicles_alike xs ys ones others same = paired_by AlikeVehicle IsVehicle vehicle_row vehicle_alike xs ys ones others same

pub trips_alike : (xs ys : List Trip) → Each FitsTrip xs → Each FitsTrip ys → map trip_row xs ≡ map trip_row ys → Paired AlikeTrip xs ys
trips_alike xs ys ones others same = paired_by AlikeTrip FitsTrip trip_row (λ x y fits also. trip_alike x y) xs ys ones others same

-- ---- tables

-- the one content is sound in a table, the other was read of it, and it has the rows of both
record Shared (one other : State) (trees : Trees) (t : TableName) : Type 0 where
  pub it : StandsIn one trees t
  pub laid : IsLaidIn other t
  pub rows : HasRowsIn other trees t

module _ (one other : State) (trees : Trees) where
  laid_one : (t : TableName) → Shared one other trees t → IsLaidIn one t
  laid_one t both = laid_in one t both.it.sound

  same_last : Shared one other trees table.Desk → one.last_trip ≡ other.last_trip
  same_last both = last_trip-told one.policy other.policy one.last_trip other.last_trip (one_same _ _ (shared _ _ _ both.it.rows both.rows))

  -- records with the same rows in their own table, and in a second one, are the same
  same_part : (p : Part) (beside : List Row) → Shared one other trees (table_of p) → IsPermutation beside (flat_map (beside_rows p) (records_of p one))
      → IsPermutation beside (flat_map (beside_rows p) (records_of p other)) → records_of p one ≡ records_of p other
  same_part p beside both marks other_marks =
      let laid = laid_of p one (laid_one (table_of p) both) in
      let other_laid = laid_of p other both.laid in
      same_records p _ beside (records_of p one) (records_of p other) laid.0 other_laid.0
      (Each-weaker (IsStoredIn p) (IsStored p) (storable p) (records_of p one) laid.1)
      (Each-weaker (IsStoredIn p) (IsStored p) (storable p) (records_of p other) other_laid.1)
      (rows_of p one trees both.it.rows) (rows_of p other trees both.rows) marks other_marks

  -- and where there is no second table
  same_alone : (p : Part) → ((xs : List (record_in p)) → IsPermutation [] (flat_map (beside_rows p) xs)) → Shared one other trees (table_of p)
      → records_of p one ≡ records_of p other
  same_alone p none both = same_part p [] both (none (records_of p one)) (none (records_of p other))

  same_callers : Shared one other trees table.Callers → one.callers ≡ other.callers
  same_callers = same_alone part.callers (λ xs. none_beside xs)

  same_kept : Shared one other trees table.Kept → one.kept ≡ other.kept
  same_kept = same_alone part.kept (λ xs. none_beside xs)

  same_places : Shared one other trees table.Places → one.places ≡ other.places
  same_places = same_alone part.places (λ xs. none_beside xs)

  same_routes : Shared one other trees table.Fixed → one.routes ≡ other.routes
  same_routes = same_alone part.routes (λ xs. none_beside xs)

  same_entries : Shared one other trees table.Entries → one.entries ≡ other.entries
  same_entries = same_alone part.entries (λ xs. none_beside xs)

  same_planned : Shared one other trees table.Stops → one.planned ≡ other.planned
  same_planned = same_alone part.planned (λ xs. none_beside xs)

  same_travel : Shared one other trees table.Travel → one.travel ≡ other.travel
  same_travel = same_alone part.travel (λ xs. none_beside xs)

  same_vehicles : Shared one other trees table.Vehicles → Shared one other trees table.VehicleChairs → one.vehicles ≡ other.vehicles
  same_vehicles both chairs = same_part part.vehicles _ both chairs.it.rows chairs.rows

  same_trips : Shared one other trees table.Trips → Shared one other trees table.TripChairs → one.trips ≡ other.trips
  same_trips both chairs = same_part part.trips _ both chairs.it.rows chairs.rows

  -- the rows of records of one row each
  rows_shared : {A : Type 0} (home : Table) (row : A → Row) (xs ys : List A) → AreRows home trees (flat_map (one_row row) xs)
      → AreRows home trees (flat_map (one_row row) ys) → IsPermutation (map row xs) (map row ys)
  rows_shared home row xs ys ones others = shared _ _ _ (as_map home row xs trees ones) (as_map home row ys trees others)

  alike_in_vehicles : Shared one other trees table.Vehicles → Paired AlikeVehicle one.vehicles other.vehicles
  alike_in_vehicles both =
      let laid = laid_one table.Vehicles both in
      vehicles_alike one.vehicles other.vehicles laid.1 both.laid.1
      (same_rows vehicle_key pair_in vehicle_row (λ x. refl) one.vehicles other.vehicles laid.0 both.laid.0
      (rows_shared vehicles_table vehicle_row one.vehicles other.vehicles both.it.rows both.rows))

  alike_in_riders : Shared one other trees table.Riders → Paired AlikeRider one.riders other.riders
  alike_in_riders both =
      let laid = laid_one table.Riders both in
      riders_alike one.riders other.riders laid.1 both.laid.1
      (same_rows rider_key (number_in 0) rider_row (λ x. refl) one.riders other.riders laid.0 both.laid.0
      (rows_shared riders_table rider_row one.riders other.riders both.it.rows both.rows))

  alike_in_trips : Shared one other trees table.Trips → Paired AlikeTrip one.trips other.trips
  alike_in_trips both =
      let laid = laid_one table.Trips both in
      trips_alike one.trips other.trips laid.1 both.laid.1
      (same_rows trip_key (number_in 0) trip_row (λ x. refl) one.trips other.trips laid.0 both.laid.0
      (rows_shared trips_table trip_row one.trips other.trips both.it.rows both.rows))

-- the two contents share the rows of each table up to this one
abbrev SharedTo : TableName → State → State → Trees → Type 0
SharedTo t one other trees = (u : TableName) → number_of u ≤ number_of t → Shared one other trees u

lines_there : (t : TableName) (one other : State) (trees : Trees) → SharedTo t one other trees → KeepsLinesIn other t
lines_there table.Desk one other trees at = tt
lines_there table.Callers one other trees at =
    let callers = at table.Callers (lit≤ tt) in
    subst AreSoundCallers (same_callers one other trees callers) callers.it.sound.1
lines_there table.Kept one other trees at =
    let callers = at table.Callers (lit≤ tt) in
    let kept = at table.Kept (lit≤ tt) in
    subst₂ AreSoundKept (same_callers one other trees callers) (same_kept one other trees kept) kept.it.sound.1
lines_there table.Places one other trees at =
    let places = at table.Places (lit≤ tt) in
    subst AreSoundPlaces (same_places one other trees places) places.it.sound.1
lines_there table.Fixed one other trees at =
    let routes = at table.Fixed (lit≤ tt) in
    subst AreSoundRoutes (same_routes one other trees routes) routes.it.sound.1
lines_there table.Vehicles one other trees at =
    let vehicles = at table.Vehicles (lit≤ tt) in
    alike_vehicles other.callers other.places one.vehicles other.vehicles (alike_in_vehicles one other trees vehicles)
    (subst₂ (λ (callers : List Caller) (places : List Place). AreSoundVehicles callers places one.vehicles)
    (same_callers one other trees (at table.Callers (lit≤ tt))) (same_places one other trees (at table.Places (lit≤ tt))) vehicles.it.sound.1)
lines_there table.Riders one other trees at =
    let riders = at table.Riders (lit≤ tt) in
    alike_riders one.riders other.riders (alike_in_riders one other trees riders) other.callers
    (subst (λ (callers : List Caller). AreSoundRiders callers one.riders) (same_callers one other trees (at table.Callers (lit≤ tt))) riders.it.sound.1)
lines_there table.Entries one other trees at =
    let entries = at table.Entries (lit≤ tt) in
    alike_entries one.riders other.riders (alike_in_riders one other trees (at table.Riders (lit≤ tt))) other.callers other.entries
    (subst₂ (λ (callers : List Caller) (entries : List FiledEntry). AreSoundEntries callers one.riders entries)
    (same_callers one other trees (at table.Callers (lit≤ tt))) (same_entries one other trees entries) entries.it.sound.1)
lines_there table.Trips one other trees at =
    let trips = at table.Trips (lit≤ tt) in
    alike_trips one.trips other.trips (alike_in_trips one other trees trips) other.places one.riders other.riders other.last_trip
    (alike_in_riders one other trees (at table.Riders (lit≤ tt)))
    (subst₂ (λ (places : List Place) (last : ℕ). AreSoundTrips places one.riders last one.trips)
    (same_places one other trees (at table.Places (lit≤ tt))) (same_last one other trees (at table.Desk (lit≤ tt))) trips.it.sound.1)
lines_there table.Stops one other trees at =
    let plans = at table.Stops (lit≤ tt) in
    alike_plans one.trips other.trips (alike_in_trips one other trees (at table.Trips (lit≤ tt))) other.planned
    (subst (AreSoundPlans one.trips) (same_planned one other trees plans) plans.it.sound.1)
lines_there table.Travel one other trees at =
    let travel = at table.Travel (lit≤ tt) in
    alike_tables one.trips other.trips (alike_in_trips one other trees (at table.Trips (lit≤ tt))) other.places one.vehicles other.vehicles other.planned other.travel
    (alike_in_vehicles one other trees (at table.Vehicles (lit≤ tt)))
    (subst (λ (places : List Place). AreSoundTables places one.vehicles one.trips other.planned other.travel) (same_places one other trees (at table.Places (lit≤ tt)))
    (subst₂ (λ (plans : List Plan) (travel : List TravelTable). AreSoundTables one.places one.vehicles one.trips plans travel)
    (same_planned one other trees (at table.Stops (lit≤ tt))) (same_travel one other trees travel) travel.it.sound.1))
lines_there table.RiderChairs one other trees at = tt
lines_there table.VehicleChairs one other trees at = tt
lines_there table.TripChairs one other trees at =
    let chairs = at table.TripChairs (lit≤ tt) in
    subst (AreSoundLoads other.vehicles other.trips) (same_planned one other trees (at table.Stops (lit≤ tt)))
    (subst₂ (λ (vehicles : List Vehicle) (trips : List Trip). AreSoundLoads vehicles trips one.planned)
    (same_vehicles one other trees (at table.Vehicles (lit≤ tt)) (at table.VehicleChairs (lit≤ tt)))
    (same_trips one other trees (at table.Trips (lit≤ tt)) chairs) chairs.it.sound.1)

-- if one content with the rows of the tables up to this one is sound there, so is another with the same rows
pub sound_there : (t : TableName) (one other : State) (trees : Trees) → StandsTo (number_of t) one trees → Each (IsLaidIn other) (take (number_of t) all_tables) → IsLaidIn other t
    → HasRowsTo (number_of t) other trees → IsSoundIn other t
sound_there t one other trees stands all laid rows = (
  ranges_laid other t laid,
  lines_there t one other trees
      (λ u low. record {
        it = among (StandsIn one trees) u (number_of t) low stands;
        laid = among (IsLaidIn other) u (number_of t) low all;
        rows = among (HasRowsIn other trees) u (number_of t) low rows;
      }),
)

-- ---- what is passed on

-- a refusal that is passed on
pub passed_on : {X F : Type 0} (P : F → Type 0) (e : F) → P e → (r : Result X F) → IsErrAnd r (λ f. f ≡ e) → IfErr r P
passed_on P e p (Ok x) h = tt
passed_on P e p (Err f) h = subst P (sym h) p

-- a refusal has no other result
pub no_answer : {X F : Type 0} (P : X → Type 0) (r : Result X F) → IsErr r → IfOk r P
no_answer P (Ok x) bad = absurd (cc)
no_answer P (Err f) bad = tt
