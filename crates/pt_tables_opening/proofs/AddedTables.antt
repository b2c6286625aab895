-- What the change that puts the records of a table makes of a content that has the earlier tables.
use Rattle.std.proofs.Common.{◌≡◌, ◌-◌, ◌≤◌, ℕ, List, [], ◌∷◌, map, drop, flat_map, refl, sym, ap, subst, arith, ◌∙◌}
use Rattle.std.proofs.Common.{Result, Ok, IsErr, IsErrAnd, inl, inr}
use Rattle.std.proofs.lemmas.List.Concat.{flat_map_single}
use Rattle.sqlite.specs.Order.{Row}
use Rattle.sqlite.specs.State.{State as Connected, HasCleanDisk}
use Rattle.sqlite.specs.Table.{Table}
use Rattle.sqlite.specs.Tree.{Trees}
use Rattle.pt_base_values.specs.declared.rider.Rider.{Rider}
use Rattle.pt_base_values.specs.declared.trip.Trip.{Trip}
use Rattle.pt_base_values.specs.declared.vehicle.Vehicle.{Vehicle}
use Rattle.pt_desk_rules.specs.Deciding.{no_change}
use Rattle.pt_desk_rules.specs.Parts.{Part, key_in, record_in, records_of}
use Rattle.pt_desk_rules.specs.Parts as part
use Rattle.pt_desk_rules.specs.Ranges.{FitsRider, FitsTrip}
use Rattle.pt_desk_rules.specs.State.{State, applied, rider_key, vehicle_key, trip_key}
use Rattle.pt_desk_rules.specs.TableNames.{all_tables, number_of}
use Rattle.pt_desk_rules.specs.declared.change.Change.{Change}
use Rattle.pt_desk_rules.specs.declared.table_name.TableName.{TableName}
use Rattle.pt_desk_rules.specs.declared.table_name.TableName.TheVariants as table
use Rattle.pt_base_records.specs.Records.{Each, Edit, IsInOrder, edited}
use Rattle.pt_base_records.proofs.OrderLemmas.{Each-weaker}
use Rattle.pt_tables_soundness.specs.Tables.{IsSoundIn}
use Rattle.pt_tables_soundness.proofs.AlikeLemmas.{AlikeRider, AlikeTrip, AlikeVehicle, alike_entries, alike_plans, alike_riders, alike_tables, alike_trips, alike_vehicles}
use Rattle.pt_tables_soundness.proofs.PairedLemmas.{Paired, paired_by}
use Rattle.pt_desk_spelling.specs.Ranges.{IsVehicle}
use Rattle.pt_tables_rows.specs.Rows.{vehicle_row, rider_row, trip_row, one_row, record_rows}
use Rattle.pt_tables_rows.specs.Rows.{vehicle_chair_rows, trip_chair_rows, rider_chair_rows}
use Rattle.pt_tables_rows.specs.Schema.{table_in, vehicles_table, riders_table, trips_table}
use Rattle.pt_tables_rows.specs.Schema.{rider_chairs_table, vehicle_chairs_table, trip_chairs_table, desk_schema}
use Rattle.pt_tables_rows.specs.Tables.{AreRows, HasRowsIn, IsStored}
use Rattle.pt_tables_rows.proofs.NameLemmas.{as_map}
use Rattle.pt_tables_rows.proofs.SameRows.{table_of}
use Rattle.pt_tables_opening.specs.Beside.{AreBeside}
use Rattle.pt_tables_opening.specs.Gathered.{FitsRows, IsFitting}
use Rattle.pt_tables_opening.specs.Opening.{IsCaused, ReadsTables, Rests}
use Rattle.pt_tables_opening.specs.Standing.{NoneStandsTo, StandsIn}
use Rattle.pt_tables_opening.specs.Steps.{Adds, AddsMarks, AddsRecords, HasRowsTo, IsFaultOf, IsReadIn, IsReadTo, ReadsTable}
use Rattle.pt_tables_opening.specs.Tables.{HasNoneIn, IsLaidIn, IsStoredIn}
use Rattle.pt_tables_opening.specs.declared.open_fault.OpenFault.{OpenFault}
use Rattle.pt_tables_opening.proofs.AskedRows.{riders_beside, trips_beside, vehicles_beside}
use Rattle.pt_tables_opening.proofs.ContentLemmas.{anew, laid_put, rows_put}
use Rattle.pt_tables_opening.proofs.GroupOrders.{drives_few}
use Rattle.pt_tables_opening.proofs.RestLemmas.{last, refused}
use Rattle.pt_tables_opening.proofs.TableCases.{among, and_in, each_upto, here_in, laid_in, laid_of, no_answer, passed_on, riders_alike, rows_of, trips_alike, vehicles_alike}

-- ---- a read of a table, and the change

module _ {A : Type 0} {IsSuch : Edit A → Type 0} {Show : Trees → Edit A → Type 0} {ShowNone : Trees → Type 0} {puts : Edit A → Change} (t : TableName) (old new : Connected) (s : State)
    (r : Result (Edit A) OpenFault) (rests : Rests old new r) (adds : Adds t s puts IsSuch Show ShowNone) where
  -- of a read that succeeded
  pub reads_some : (edit : Edit A) → r ≡ Ok edit → IsSuch edit → ReadsTables old new (λ trees. Show trees edit) → (change : Change) → change ≡ puts edit → ReadsTable t old new s (Ok change)
  reads_some edit is such shown change same = record {
    rests = last old new r edit is rests (Ok change);
    read = subst (λ (it : Change). IsReadIn t (applied it s)) (sym same) (adds.read edit such);
    rows = λ clean has before.
        subst (λ (it : Change). HasRowsTo (number_of t) (applied it s) old.now.trees) (sym same) (adds.rows edit old.now.trees such (shown clean has) before);
    faults = tt;
    caused = tt;
  }

  -- and of one that was refused
  pub reads_none : (e : OpenFault) (out : Result Change OpenFault) → IsErr out → IsErrAnd out (λ f. f ≡ e) → IsFaultOf t (ReadsTables old new ShowNone) e → IsCaused old new e
      → ReadsTable t old new s out
  reads_none e out bad is faults caused = record {
    rests = refused old new r out bad rests;
    read = no_answer (λ change. IsReadIn t (applied change s)) out bad;
    rows = λ clean has before. no_answer (λ change. HasRowsTo (number_of t) (applied change s) old.now.trees) out bad;
    faults = passed_on _ e (told faults) out is;
    caused = passed_on (IsCaused old new) e caused out is;
  }
    where
      told : IsFaultOf t (ReadsTables old new ShowNone) e
          → IsFaultOf t (HasCleanDisk new → old.now.schema ≡ desk_schema → HasRowsTo (number_of t - 1) s old.now.trees → NoneStandsTo (number_of t) old.now.trees) e
      told (inl memory) = inl memory
      told (inr (inl store)) = inr (inl store)
      told (inr (inr rows)) = inr (inr (rows.0, λ clean has before. adds.none old.now.trees before (rows.1 clean has)))

-- ---- records that are put where there were none

-- the change that puts these records
abbrev pub putting : (p : Part) → Edit (record_in p) → Change
putting part.callers = λ edit. record no_change { callers = edit }
putting part.kept = λ edit. record no_change { kept = edit }
putting part.places = λ edit. record no_change { places = edit }
putting part.routes = λ edit. record no_change { routes = edit }
putting part.riders = λ edit. record no_change { riders = edit }
putting part.entries = λ edit. record no_change { entries = edit }
putting part.vehicles = λ edit. record no_change { vehicles = edit }
putting part.travel = λ edit. record no_change { travel = edit }
putting part.trips = λ edit. record no_change { trips = edit }
putting part.planned = λ edit. record no_change { planned = edit }

abbrev pub number_in : Part → ℕ
number_in p = number_of (table_of p)

-- the rows of some records
abbrev AreRowsOf : (p : Part) → Trees → List (record_in p) → Type 0
AreRowsOf p trees xs = AreRows (table_in (table_of p)) trees (flat_map (record_rows p) xs)

-- a part's table adds its records
abbrev pub AddsPart : Part → TableName → State → Type 0
AddsPart p t s = AddsRecords t s (putting p) (key_in p) (table_in (table_of p)) (record_rows p) (IsStored p)

fits_stored : (p : Part) (x : record_in p) → FitsRows (record_rows p) (IsStored p) x → IsStoredIn p x
fits_stored part.planned x fits = fits
fits_stored p x fits = fits.0

fits_rows : (p : Part) (x : record_in p) → IsStoredIn p x → FitsRows (record_rows p) (IsStored p) x
fits_rows part.planned x fits = fits
fits_rows part.travel x fits = drives_few x fits
fits_rows p x fits = (fits, omega arith)

none_yet : (p : Part) (s : State) → IsReadTo (number_in p - 1) s → records_of p s ≡ []
none_yet part.callers s read = read.later.0
none_yet p s read = read.later.0

read_so : (p : Part) (s : State) (edit : Edit (record_in p)) → IsReadTo (number_in p - 1) s
    → IsInOrder (key_in p) (edited (key_in p) edit (records_of p s)) × Each (IsStoredIn p) (edited (key_in p) edit (records_of p s)) → IsReadIn (table_of p) (applied (putting p edit) s)
read_so part.callers s edit read laid = record { laid = laid; sound = read.sound; later = read.later.1 }
read_so p s edit read laid = record { laid = laid; sound = read.sound; later = read.later.1 }

rows_before : (p : Part) (s : State) (edit : Edit (record_in p)) (trees : Trees) → HasRowsTo (number_in p - 1) s trees → HasRowsTo (number_in p - 1) (applied (putting p edit) s) trees
rows_before part.callers s edit trees rows = rows
rows_before p s edit trees rows = rows

rows_here : (p : Part) (s : State) (edit : Edit (record_in p)) (trees : Trees) → AreRowsOf p trees (edited (key_in p) edit (records_of p s))
    → HasRowsIn (applied (putting p edit) s) trees (table_of p)
rows_here part.callers s edit trees rows = rows
rows_here p s edit trees rows = rows

adds_here : (p : Part) (s : State) → IsReadTo (number_in p - 1) s → AddsPart p (table_of p) s
adds_here p s read =
    let t = table_of p in
    let key = key_in p in
    let none = none_yet p s read in
    record {
      read = λ edit fits.
          read_so p s edit read
          (laid_put key (IsStoredIn p) edit (records_of p s) none (record {
            puts = fits.puts;
            each = Each-weaker (FitsRows (record_rows p) (IsStored p)) (IsStoredIn p) (fits_stored p) edit.puts fits.each;
          }));
      rows = λ edit trees fits are before.
          and_in (HasRowsIn (applied (putting p edit) s) trees) t (rows_before p s edit trees before)
          (rows_here p s edit trees (rows_put key (AreRowsOf p trees) edit (records_of p s) none fits.puts are));
      none = λ trees before unread u stands.
          let here = here_in (StandsIn u trees) t stands in
          let laid = laid_of p u (laid_in u t here.sound) in
          unread (records_of p u) (Each-weaker (IsStoredIn p) (FitsRows (record_rows p) (IsStored p)) (fits_rows p) (records_of p u) laid.1) laid.0 (rows_of p u trees here.rows);
    }

-- the same under another name for the table
pub adds_part : (p : Part) (t : TableName) (s : State) → t ≡ table_of p → IsReadTo (number_of t - 1) s → AddsPart p t s
adds_part p t s is read = subst (λ u. AddsPart p u s) (sym is) (adds_here p s (subst (λ u. IsReadTo (number_of u - 1) s) is read))

-- ---- records that are marked

-- the records of a part, which have a row each in their own table, and rows in this one
module _ (p : Part) (t : TableName) (second : Table) (row_of : record_in p → Row) (beside_of : record_in p → List Row) (beside : AreBeside (key_in p) row_of beside_of)
    (with_records : State → List (record_in p) → State) (low : number_in p ≤ number_of t - 1)
    (own_rows : (s : State) (trees : Trees) → HasRowsIn s trees (table_of p) → AreRows (table_in (table_of p)) trees (map row_of (records_of p s)))
    (rows_beside : (s : State) (trees : Trees) → HasRowsIn s trees t → AreRows second trees (flat_map beside_of (records_of p s)))
    (put : (s : State) (edit : Edit (record_in p)) → applied (putting p edit) s ≡ with_records s (edited (key_in p) edit (records_of p s)))
    (laid : (s : State) (xs : List (record_in p)) → IsLaidIn (with_records s xs) t)
    (later : (s : State) (xs : List (record_in p)) → Each (HasNoneIn s) (drop (number_of t - 1) all_tables) → Each (HasNoneIn (with_records s xs)) (drop (number_of t) all_tables))
    (sound : (s : State) (xs : List (record_in p)) → Each (IsStoredIn p) (records_of p s) → Each (IsStoredIn p) xs → map row_of (records_of p s) ≡ map row_of xs
    → (u : TableName) → number_of u ≤ number_of t - 1 → IsSoundIn s u → IsSoundIn (with_records s xs) u)
    (rows_still : (s : State) (xs : List (record_in p)) (trees : Trees) → map row_of xs ≡ map row_of (records_of p s)
    → (u : TableName) → number_of u ≤ number_of t - 1 → HasRowsIn s trees u → HasRowsIn (with_records s xs) trees u)
    (rows_here_too : (s : State) (xs : List (record_in p)) (trees : Trees) → AreRows second trees (flat_map beside_of xs) → HasRowsIn (with_records s xs) trees t) where
  abbrev before : ℕ
  before = number_of t - 1

  abbrev Marks : TableName → State → List (record_in p) → Type 0
  Marks u s xs = AddsMarks u s (putting p) (key_in p) (table_in (table_of p)) second row_of beside_of (IsStoredIn p) xs

  -- the known records are in order, and each fits
  known : (s : State) → IsReadTo before s → IsInOrder (key_in p) (records_of p s) × Each (IsStoredIn p) (records_of p s)
  known s read = laid_of p s (laid_in s (table_of p) (among (IsSoundIn s) (table_of p) before low read.sound))

  same_key : (x y : record_in p) → IsStoredIn p x → IsStoredIn p y → row_of x ≡ row_of y → key_in p y ≡ key_in p x
  same_key x y fits also same = sym (beside.row_keyed y) ∙ ap beside.key_in (sym same) ∙ beside.row_keyed x

  -- the records that are put replace those that were known
  replaced : (s : State) → IsReadTo before s → (edit : Edit (record_in p)) → IsFitting (key_in p) (IsStoredIn p) edit → map row_of edit.puts ≡ map row_of (records_of p s)
      → with_records s edit.puts ≡ applied (putting p edit) s
  replaced s read edit fits same =
      let keys = paired_by (λ x y. key_in p y ≡ key_in p x) (IsStoredIn p) row_of same_key edit.puts (records_of p s) fits.each (known s read).1 same in
      ap (with_records s) (sym (anew (key_in p) edit (records_of p s) fits.puts keys)) ∙ sym (put s edit)

  adds_marks : (s : State) → IsReadTo before s → Marks t s (records_of p s)
  adds_marks s read = record {
    read = λ edit such.
        subst (IsReadIn t) (replaced s read edit such.0 such.1) (record {
          laid = laid s edit.puts;
          sound = each_upto (IsSoundIn s) (IsSoundIn (with_records s edit.puts)) before (sound s edit.puts (known s read).1 such.0.each (sym such.1)) read.sound;
          later = later s edit.puts read.later;
        });
    rows = λ edit trees such are earlier.
        subst (λ u. HasRowsTo (number_of t) u trees) (replaced s read edit such.0 such.1)
        (and_in (HasRowsIn (with_records s edit.puts) trees) t
        (each_upto (HasRowsIn s trees) (HasRowsIn (with_records s edit.puts) trees) before (rows_still s edit.puts trees such.1) earlier) (rows_here_too s edit.puts trees are));
    none = λ trees earlier unread u stands.
        let own = among (StandsIn u trees) (table_of p) (number_of t) (omega arith) stands in
        let there = laid_of p u (laid_in u (table_of p) own.sound) in
        unread (own_rows s trees (among (HasRowsIn s trees) (table_of p) before low earlier)) (records_of p u) there.1 there.0 (own_rows u trees own.rows)
        (rows_beside u trees (here_in (StandsIn u trees) t stands).rows);
  }

  -- the same under another name for the table, with what a read of it asks for
  known_marked : (u : TableName) (s : State) → u ≡ t → IsReadTo (number_of u - 1) s → (xs : List (record_in p)) → xs ≡ records_of p s
      → IsInOrder (key_in p) xs × Each (IsStoredIn p) xs × Marks u s xs
  known_marked u s is read xs all =
      let here = subst (λ v. IsReadTo (number_of v - 1) s) is read in
      subst (λ ys. IsInOrder (key_in p) ys × Each (IsStoredIn p) ys × Marks u s ys) (sym all)
      ((known s here).0, (known s here).1, subst (λ v. Marks v s (records_of p s)) (sym is) (adds_marks s here))

-- records of one row each, with the same rows
same_each : {A : Type 0} (home : Table) (row : A → Row) (xs ys : List A) (trees : Trees) → map row xs ≡ map row ys
    → AreRows home trees (flat_map (one_row row) ys) → AreRows home trees (flat_map (one_row row) xs)
same_each home row xs ys trees same are =
    subst (AreRows home trees) (flat_map_single row ys ∙ sym same ∙ sym (flat_map_single row xs)) are

riders_self : (xs : List Rider) → Paired AlikeRider xs xs
riders_self [] = tt
riders_self (x ∷ xs) = (refl, riders_self xs)

vehicles_self : (xs : List Vehicle) → Paired AlikeVehicle xs xs
vehicles_self [] = tt
vehicles_self (x ∷ xs) = (
  record { id = refl; from_day = refl; days = refl; depot = refl; opens = refl; closes = refl; duration = refl },
  vehicles_self xs,
)

trips_self : (xs : List Trip) → Paired AlikeTrip xs xs
trips_self [] = tt
trips_self (x ∷ xs) = (
  record {
    id = refl;
    rider = refl;
    day = refl;
    from = refl;
    to = refl;
    by = refl;
    service = refl;
    ride = refl;
    vehicle = refl;
    window_from = refl;
    window_to = refl;
    status = refl;
  },
  trips_self xs,
)

-- what is sound of riders is sound of others with their rows
riders_sound : (s : State) (xs : List Rider) → Each FitsRider xs → Paired AlikeRider s.riders xs → (t : TableName) → IsSoundIn s t → IsSoundIn (record s { riders = xs }) t
riders_sound s xs each alike table.Riders sound = (each, alike_riders s.riders xs alike s.callers sound.1)
riders_sound s xs each alike table.Entries sound = (sound.0, alike_entries s.riders xs alike s.callers s.entries sound.1)
riders_sound s xs each alike table.Trips sound = (sound.0, alike_trips s.trips s.trips (trips_self s.trips) s.places s.riders xs s.last_trip alike sound.1)
riders_sound s xs each alike _ sound = sound

riders_rows : (s : State) (xs : List Rider) (trees : Trees) → map rider_row xs ≡ map rider_row s.riders
    → (t : TableName) → number_of t ≤ 11 → HasRowsIn s trees t → HasRowsIn (record s { riders = xs }) trees t
riders_rows s xs trees same table.Riders low rows = same_each riders_table rider_row xs s.riders trees same rows
riders_rows s xs trees same table.RiderChairs low rows = absurd (omega arith)
riders_rows s xs trees same _ low rows = rows

vehicles_sound : (s : State) (xs : List Vehicle) → Each IsVehicle xs → Paired AlikeVehicle s.vehicles xs → (t : TableName) → number_of t ≤ 12 → IsSoundIn s t → IsSoundIn (record s { vehicles = xs }) t
vehicles_sound s xs each alike table.Vehicles low sound = (each, alike_vehicles s.callers s.places s.vehicles xs alike sound.1)
vehicles_sound s xs each alike table.Travel low sound = (sound.0, alike_tables s.trips s.trips (trips_self s.trips) s.places s.vehicles xs s.planned s.travel alike sound.1)
vehicles_sound s xs each alike table.TripChairs low sound = absurd (omega arith)
vehicles_sound s xs each alike _ low sound = sound

vehicles_rows : (s : State) (xs : List Vehicle) (trees : Trees) → map vehicle_row xs ≡ map vehicle_row s.vehicles → (t : TableName) → number_of t ≤ 12 → HasRowsIn s trees t
    → HasRowsIn (record s { vehicles = xs }) trees t
vehicles_rows s xs trees same table.Vehicles low rows = same_each vehicles_table vehicle_row xs s.vehicles trees same rows
vehicles_rows s xs trees same table.VehicleChairs low rows = absurd (omega arith)
vehicles_rows s xs trees same _ low rows = rows

trips_sound : (s : State) (xs : List Trip) → Each FitsTrip xs → Paired AlikeTrip s.trips xs → (t : TableName) → number_of t ≤ 13 → IsSoundIn s t → IsSoundIn (record s { trips = xs }) t
trips_sound s xs each alike table.Trips low sound = (each, alike_trips s.trips xs alike s.places s.riders s.riders s.last_trip (riders_self s.riders) sound.1)
trips_sound s xs each alike table.Stops low sound = (sound.0, alike_plans s.trips xs alike s.planned sound.1)
trips_sound s xs each alike table.Travel low sound = (sound.0, alike_tables s.trips xs alike s.places s.vehicles s.vehicles s.planned s.travel (vehicles_self s.vehicles) sound.1)
trips_sound s xs each alike table.TripChairs low sound = absurd (omega arith)
trips_sound s xs each alike _ low sound = sound

trips_rows : (s : State) (xs : List Trip) (trees : Trees) → map trip_row xs ≡ map trip_row s.trips → (t : TableName)
    → number_of t ≤ 13 → HasRowsIn s trees t → HasRowsIn (record s { trips = xs }) trees t
trips_rows s xs trees same table.Trips low rows = same_each trips_table trip_row xs s.trips trees same rows
trips_rows s xs trees same table.TripChairs low rows = absurd (omega arith)
trips_rows s xs trees same _ low rows = rows

pub riders_marked : (t : TableName) (s : State) → t ≡ table.RiderChairs → IsReadTo (number_of t - 1) s → (xs : List Rider) → xs ≡ s.riders
    → IsInOrder rider_key xs × Each FitsRider xs × AddsMarks t s (putting part.riders) rider_key riders_table rider_chairs_table rider_row rider_chair_rows FitsRider xs
riders_marked =
    known_marked part.riders table.RiderChairs rider_chairs_table rider_row rider_chair_rows riders_beside (λ s xs. record s { riders = xs }) (omega arith)
    (λ s trees rows. as_map riders_table rider_row s.riders trees rows) (λ s trees rows. rows) (λ s edit. refl) (λ s xs. tt) (λ s xs later. later.1)
    (λ s xs known fits same u low read. riders_sound s xs fits (riders_alike s.riders xs known fits same) u read) riders_rows (λ s xs trees are. are)

pub vehicles_marked : (t : TableName) (s : State) → t ≡ table.VehicleChairs → IsReadTo (number_of t - 1) s → (xs : List Vehicle) → xs ≡ s.vehicles
    → IsInOrder vehicle_key xs × Each IsVehicle xs × AddsMarks t s (putting part.vehicles) vehicle_key vehicles_table vehicle_chairs_table vehicle_row vehicle_chair_rows IsVehicle xs
vehicles_marked =
    known_marked part.vehicles table.VehicleChairs vehicle_chairs_table vehicle_row vehicle_chair_rows vehicles_beside (λ s xs. record s { vehicles = xs }) (omega arith)
    (λ s trees rows. as_map vehicles_table vehicle_row s.vehicles trees rows) (λ s trees rows. rows) (λ s edit. refl) (λ s xs. tt) (λ s xs later. later.1)
    (λ s xs known fits same u low read. vehicles_sound s xs fits (vehicles_alike s.vehicles xs known fits same) u low read) vehicles_rows (λ s xs trees are. are)

pub trips_marked : (t : TableName) (s : State) → t ≡ table.TripChairs → IsReadTo (number_of t - 1) s → (xs : List Trip) → xs ≡ s.trips
    → IsInOrder trip_key xs × Each FitsTrip xs × AddsMarks t s (putting part.trips) trip_key trips_table trip_chairs_table trip_row trip_chair_rows FitsTrip xs
trips_marked =
    known_marked part.trips table.TripChairs trip_chairs_table trip_row trip_chair_rows trips_beside (λ s xs. record s { trips = xs }) (omega arith)
    (λ s trees rows. as_map trips_table trip_row s.trips trees rows) (λ s trees rows. rows) (λ s edit. refl) (λ s xs. tt) (λ s xs later. later.1)
    (λ s xs known fits same u low read. trips_sound s xs fits (trips_alike s.trips xs known fits same) u low read) trips_rows (λ s xs trees are. are)
