-- The tables of a content one by one, and what edits of some tables do to all, one after the other. The edits use lists
-- that agree with the stored records.
use Rattle.std.proofs.Common.{◌≡◌, ◌≢◌, ◌++◌, ◌+◌, ℕ, true, not, IsTrue, List, [], ◌∷◌, take, drop, map, IsPermutation, sym, subst, arith, refl}
use Rattle.std.specs.Prelude.{◌==◌}
use Rattle.std.specs.List.{AllByRecursion, list_all}
use Rattle.std.proofs.lemmas.Bool.Decides.{nat_tests}
use Rattle.sqlite.specs.Effect.{Database, IsDatabase}
use Rattle.sqlite.specs.Order.{Row}
use Rattle.sqlite.specs.Table.{Table}
use Rattle.sqlite.specs.Tree.{Trees, IsTable, rowid}
use Rattle.sqlite.specs.View.{is_int}
use Rattle.sqlite_keyed.proofs.ListLemmas.{all_from_test, all-append}
use Rattle.sqlite_trees.proofs.ListLemmas.{all_both}
use Rattle.pt_base_values.specs.declared.rider.Rider.{Rider}
use Rattle.pt_base_values.specs.declared.trip.Trip.{Trip}
use Rattle.pt_base_values.specs.declared.vehicle.Vehicle.{Vehicle}
use Rattle.pt_desk_rules.specs.Parts.{Part, edit_of, key_in, records_of}
use Rattle.pt_desk_rules.specs.Parts as part
use Rattle.pt_desk_rules.specs.State.{State, caller_key, kept_key, place_key, route_key, rider_key, entry_key, vehicle_key, travel_key, trip_key}
use Rattle.pt_tables_rows.specs.Rows.{desk_row, caller_row, kept_row, place_row, route_row, vehicle_row, rider_row}
use Rattle.pt_tables_rows.specs.Rows.{entry_row, trip_row, stop_rows, travel_rows, rider_chair_rows}
use Rattle.pt_tables_rows.specs.Rows.{vehicle_chair_rows, trip_chair_rows, rows_in}
use Rattle.pt_tables_rows.specs.Schema.{table_in, desk_schema, desk_table, callers_table, kept_table, places_table, fixed_table}
use Rattle.pt_tables_rows.specs.Schema.{vehicles_table, riders_table, entries_table, trips_table, stops_table}
use Rattle.pt_tables_rows.specs.Schema.{travel_table, rider_chairs_table, vehicle_chairs_table, trip_chairs_table}
use Rattle.pt_tables_rows.specs.Tables.{AreRows, HaveRowids, Stands, columns_of, IsStoredPlan}
use Rattle.pt_tables_rows.proofs.NameLemmas.{all_mapped, at_table}
use Rattle.pt_tables_rows.proofs.SameRowsLists.{all_back, all_front}
use Rattle.pt_desk_store.specs.Listed.{known_of}
use Rattle.pt_desk_rules.specs.TableNames.{all_tables}
use Rattle.pt_desk_rules.specs.declared.change.Change.{Change}
use Rattle.pt_desk_rules.specs.declared.table_name.TableName.{TableName}
use Rattle.pt_desk_rules.specs.declared.table_name.TableName.TheVariants as name
use Rattle.pt_base_records.specs.declared.span.Span.{Span}
use Rattle.pt_base_records.specs.Records.{Edit, edited, take_all}
use Rattle.pt_base_records.proofs.TableLemmas.{IsInOrder-take_all}
use Rattle.pt_desk_scheduling.specs.Plan.{plan_key, Plan}
use Rattle.pt_desk_rules.specs.Ranges.{FitsFiled, FitsKept, FitsPlace, FitsTravel, FitsRider, FitsTrip}
use Rattle.pt_desk_spelling.specs.Ranges.{IsCaller, IsRoute, IsVehicle}
use Rattle.pt_tables_rows.proofs.SameRows.{stored-plans}
use Rattle.pt_base_values.specs.declared.place.Place.{Place}
use Rattle.pt_corridor.specs.Route.{FixedRoute}
use Rattle.pt_desk_rules.specs.Travel.{TravelTable}
use Rattle.pt_desk_rules.specs.declared.change.FiledEntry.{FiledEntry}
use Rattle.pt_desk_rules.specs.declared.kept.Kept.{Kept}
use Rattle.pt_desk_requests.specs.declared.caller.Caller.{Caller}
use Rattle.pt_tables_writing.specs.Writes.{Holds, Rewrites}
use Rattle.pt_tables_writing.specs.Groups.{AgreesFor, Ends, KnowsIn, KnowsTaken, Leads, Then, WritesFleet, WritesLast, WritesRiders}
use Rattle.pt_tables_writing.specs.Groups.{WritesTrips, with_people, with_area, with_trips, AgreesWith, KnowsEdited, OfEach}
use Rattle.pt_tables_writing.proofs.StoredLemmas.{Each-take_all}
use Rattle.pt_tables_writing.specs.Stored.{EditsTable, PutsAll, TakesSpans}

-- a table, and the rows that it has
pub record HeldTable : Type 0 where
  pub table : Table
  pub rows : List Row

-- the content whose records a table has: the last three may have those of `marks`, since they are written before or
-- after the records that they mark
abbrev whose : State → State → TableName → State
whose s marks name.RiderChairs = marks
whose s marks name.VehicleChairs = marks
whose s marks name.TripChairs = marks
whose s marks t = s

whose_same : (s : State) (t : TableName) → whose s s t ≡ s
whose_same s name.Desk = refl
whose_same s _ = refl

-- a table with the rows of these contents
abbrev pub held_in : State → State → TableName → HeldTable
held_in s marks t = record { table = table_in t; rows = rows_in t (whose s marks t) }

-- all of them, in their order
abbrev pub parts : State → State → List HeldTable
parts s m = map (held_in s m) all_tables

-- each table has its rows
abbrev pub HoldAll : Trees → List HeldTable → Type 0
HoldAll trees ps = AllByRecursion (λ p. Holds p.table p.rows trees) ps

-- the tables of some parts hold their rows, if these are their rows and their rowids are integers in ascending order
hold_all : (ps : List HeldTable) (trees : Trees) → AllByRecursion (λ p. AreRows p.table trees p.rows) ps → AllByRecursion (λ t. HaveRowids (trees t.tree)) (map (λ p. p.table) ps) → HoldAll trees ps
hold_all [] trees are ids = tt
hold_all (p ∷ ps) trees are ids = (record { rows = are.0; rising = ids.0.rising; whole = ids.0.whole }, hold_all ps trees are.1 ids.1)

have_rowids : (ps : List HeldTable) (trees : Trees) → HoldAll trees ps → AllByRecursion (λ t. HaveRowids (trees t.tree)) (map (λ p. p.table) ps)
have_rowids [] trees held = tt
have_rowids (p ∷ ps) trees held = (record { rising = held.0.rising; whole = held.0.whole }, have_rowids ps trees held.1)

pub parted : (s : State) (db : Database) → Stands s db → HoldAll db.trees (parts s s)
parted s db h = hold_all (parts s s) db.trees (each_held all_tables) h.rowids
  where
    each_held : (ts : List TableName) → AllByRecursion (λ p. AreRows p.table db.trees p.rows) (map (held_in s s) ts)
    each_held [] = tt
    each_held (t ∷ ts) = (subst (λ u. AreRows (table_in t) db.trees (rows_in t u)) (sym (whose_same s t)) (h.rows t), each_held ts)

pub whole : (s : State) (db : Database) → db.schema ≡ desk_schema → HoldAll db.trees (parts s s) → Stands s db
whole s db has held =
    let P : HeldTable → Type 0 = λ p. Holds p.table p.rows db.trees in
    let at = at_table (λ t. P (held_in s s t)) (all_mapped P (held_in s s) all_tables held) in
    record {
      schema = has;
      rows = λ t. subst (λ u. AreRows (table_in t) db.trees (rows_in t u)) (whose_same s t) (at t).rows;
      rowids = have_rowids (parts s s) db.trees held;
    }

differs : (m n : ℕ) → not (m == n) ≡ true → m ≢ n
differs m n other = grind (arith, nat_tests)

module _ (t : Table) (before after : List Row) (a b : Database) (change : Rewrites t before after a b) where
  abbrev IsOther : HeldTable → Type 0
  IsOther p = p.table.tree ≢ t.tree → b.trees p.table.tree ≡ a.trees p.table.tree

  still : (p : HeldTable) → IsOther p → not (p.table.tree == t.tree) ≡ true → Holds p.table p.rows a.trees
      → Holds p.table p.rows b.trees
  still p other apart held =
      let same : b.trees p.table.tree ≡ a.trees p.table.tree = other (differs p.table.tree t.tree apart) in
      record {
        rows = subst (λ rows. IsPermutation (map (columns_of p.table) rows) p.rows) (sym same) held.rows;
        rising = subst IsTable (sym same) held.rising;
        whole = subst (AllByRecursion (λ row. IsTrue (is_int (rowid row)))) (sym same) held.whole;
      }

  still_all : (ps : List HeldTable) → AllByRecursion IsOther ps → list_all (λ p. not (p.table.tree == t.tree)) ps ≡ true
      → HoldAll a.trees ps → HoldAll b.trees ps
  still_all ps others apart held =
      all_both (λ p. IsOther p × (not (p.table.tree == t.tree) ≡ true)) (λ p. Holds p.table p.rows a.trees)
      (λ p. Holds p.table p.rows b.trees) (λ p is h. still p is.0 is.1 h) ps
      (all_both IsOther (λ p. not (p.table.tree == t.tree) ≡ true) (λ p. IsOther p × (not (p.table.tree == t.tree) ≡ true))
      (λ p one two. (one, two)) ps others (all_from_test (λ p. not (p.table.tree == t.tree)) ps apart)) held

  turned : (front back : List HeldTable) → list_all (λ p. not (p.table.tree == t.tree)) front ≡ true
      → list_all (λ p. not (p.table.tree == t.tree)) back ≡ true
      → AllByRecursion IsOther (front ++ record { table = t; rows = before } ∷ back)
      → HoldAll a.trees (front ++ record { table = t; rows = before } ∷ back)
      → HoldAll b.trees (front ++ record { table = t; rows = after } ∷ back)
  turned front back apart apart_back others held =
      let one : HeldTable = record { table = t; rows = before } in
      let new : HeldTable = record { table = t; rows = after } in
      let P : HeldTable → Type 0 = λ p. Holds p.table p.rows a.trees in
      let Q : HeldTable → Type 0 = λ p. Holds p.table p.rows b.trees in
      let rest = all_back P front (one ∷ back) held in
      let rest_others = all_back IsOther front (one ∷ back) others in
      all-append Q front (new ∷ back)
      (still_all front (all_front IsOther front (one ∷ back) others) apart (all_front P front (one ∷ back) held))
      (change.rows rest.0, still_all back rest_others.1 apart_back rest.1)

-- if the parts of two contents differ only in one, whose table is rewritten, the tables hold those of the other
pub turned_at : (place : ℕ) (s new m n : State) (t : Table) (before after : List Row) (a b : Database) → Rewrites t before after a b → HoldAll a.trees (parts s m)
    → parts s m ≡ take place (parts s m) ++ record { table = t; rows = before } ∷ drop (place + 1) (parts s m)
    → take place (parts s m) ++ record { table = t; rows = after } ∷ drop (place + 1) (parts s m) ≡ parts new n
    → list_all (λ p. not (p.table.tree == t.tree)) (take place (parts s m)) ≡ true
    → list_all (λ p. not (p.table.tree == t.tree)) (drop (place + 1) (parts s m)) ≡ true
    → HoldAll b.trees (parts new n)
turned_at place s new m n t before after a b change held old_parts new_parts apart apart_back =
    subst (HoldAll b.trees) new_parts
    (turned t before after a b change (take place (parts s m)) (drop (place + 1) (parts s m)) apart apart_back
    (subst (AllByRecursion (IsOther t before after a b change)) old_parts change.others) (subst (HoldAll a.trees) old_parts held))

-- ---- lists that agree with what is there

-- a list that has all
taken_whole : {A : Type 0} (key : A → ℕ) (spans : List Span) (xs : List A) → KnowsTaken key spans xs xs
taken_whole key [] xs = tt
taken_whole key (span ∷ spans) xs = (refl, taken_whole key spans xs)

-- any list agrees with a table from which nothing is removed
taken_nothing : {A : Type 0} (key : A → ℕ) (spans : List Span) (known there : List A) → spans ≡ [] → KnowsTaken key spans known there
taken_nothing key spans known there none = subst (λ ss. KnowsTaken key ss known there) (sym none) tt

-- the lists of what a keeper has in memory agree, if the change removes only plans from the other tables
pub agrees_known : (change : Change) (there : State) → change.kept.away ≡ [] → change.riders.away ≡ [] → change.entries.away ≡ []
    → change.trips.away ≡ [] → AgreesFor change (known_of there) there
agrees_known change there kept riders entries trips = record { parts = knows; policy = refl; last_trip = refl }
  where
    knows : (p : Part) → KnowsIn p change (known_of there) there
    knows part.kept = taken_nothing kept_key change.kept.away [] there.kept kept
    knows part.riders = taken_nothing rider_key change.riders.away [] there.riders riders
    knows part.entries = taken_nothing entry_key change.entries.away [] there.entries entries
    knows part.trips = taken_nothing trip_key change.trips.away [] there.trips trips
    knows part.planned = tt
    knows p = taken_whole (key_in p) (edit_of p change).away (records_of p there)

-- the edit of a table, where these records of it are known
abbrev pub Known : {A : Type 0} → Table → (A → ℕ) → (A → Type 0) → (A → List Row) → Edit A → List A → Database → Database → Type 0
Known table key Fits rows edit known = OfEach (KnowsTaken key edit.away known) (EditsTable table key Fits rows edit)

abbrev pub Known-callers : Change → List Caller → Database → Database → Type 0
Known-callers change = Known callers_table caller_key IsCaller (λ x. caller_row x ∷ []) change.callers

abbrev pub Known-kept : Change → List Kept → Database → Database → Type 0
Known-kept change = Known kept_table kept_key FitsKept (λ x. kept_row x ∷ []) change.kept

abbrev pub Known-riders : Change → List Rider → Database → Database → Type 0
Known-riders change = Known riders_table rider_key FitsRider (λ x. rider_row x ∷ []) change.riders

abbrev pub Known-entries : Change → List FiledEntry → Database → Database → Type 0
Known-entries change = Known entries_table entry_key FitsFiled (λ x. entry_row x ∷ []) change.entries

abbrev pub Known-places : Change → List Place → Database → Database → Type 0
Known-places change = Known places_table place_key FitsPlace (λ x. place_row x ∷ []) change.places

abbrev pub Known-routes : Change → List FixedRoute → Database → Database → Type 0
Known-routes change = Known fixed_table route_key IsRoute (λ x. route_row x ∷ []) change.routes

abbrev pub Known-vehicles : Change → List Vehicle → Database → Database → Type 0
Known-vehicles change = Known vehicles_table vehicle_key IsVehicle (λ x. vehicle_row x ∷ []) change.vehicles

abbrev pub Known-travel : Change → List TravelTable → Database → Database → Type 0
Known-travel change = Known travel_table travel_key FitsTravel travel_rows change.travel

abbrev pub Known-trips : Change → List Trip → Database → Database → Type 0
Known-trips change = Known trips_table trip_key FitsTrip (λ x. trip_row x ∷ []) change.trips

abbrev pub Known-planned : Change → List Plan → Database → Database → Type 0
Known-planned change known =
    OfEach (KnowsEdited plan_key change.planned known) (EditsTable stops_table plan_key IsStoredPlan stop_rows change.planned)

-- the same of second tables
abbrev pub Marked-riders : Change → List Rider → Database → Database → Type 0
Marked-riders change = Known rider_chairs_table rider_key FitsRider rider_chair_rows change.riders

abbrev pub Marked-trips : Change → List Trip → Database → Database → Type 0
Marked-trips change = Known trip_chairs_table trip_key FitsTrip trip_chair_rows change.trips

abbrev pub Unmarked-vehicles : Change → List Vehicle → Database → Database → Type 0
Unmarked-vehicles change known =
    OfEach (KnowsTaken vehicle_key change.vehicles.away known) (TakesSpans vehicle_chairs_table vehicle_key IsVehicle vehicle_chair_rows change.vehicles.away)

-- the rows, in their second table, of the vehicles that are put
abbrev pub Marks-vehicles : Change → Database → Database → Type 0
Marks-vehicles change = PutsAll vehicle_chairs_table vehicle_key IsVehicle vehicle_chair_rows change.vehicles.puts

-- the last accepted writes and the agency's row after the change
abbrev pub Known-last : Change → State → Database → Database → Type 0
Known-last change known = OfEach (AgreesFor change known) (WritesLast change)

-- the tables are there, each with its rows
pub record Are (s m : State) (db : Database) : Type 0 where
  pub schema : db.schema ≡ desk_schema
  pub parts : HoldAll db.trees (parts s m)

are : (s : State) (db : Database) → Stands s db → Are s s db
are s db stands = record { schema = stands.schema; parts = parted s db stands }

stand : (s : State) (db : Database) → Are s s db → Stands s db
stand s db all = whole s db all.schema all.parts

-- one table is rewritten, and all are those of another content
step : (place : ℕ) (new n : State) (a b : Database) {s m : State} {t : Table} {before after : List Row} → Are s m a → (a.schema ≡ desk_schema → Rewrites t before after a b)
    → parts s m ≡ take place (parts s m) ++ record { table = t; rows = before } ∷ drop (place + 1) (parts s m)
    → take place (parts s m) ++ record { table = t; rows = after } ∷ drop (place + 1) (parts s m) ≡ parts new n
    → list_all (λ p. not (p.table.tree == t.tree)) (take place (parts s m)) ≡ true
    → list_all (λ p. not (p.table.tree == t.tree)) (drop (place + 1) (parts s m)) ≡ true
    → Are new n b
step place new n a b {s = s} {m = m} {t = t} {before = before} {after = after} all rewrite old_parts new_parts apart apart_back =
    let done = rewrite all.schema in
    record { schema = done.schema; parts = turned_at place s new m n t before after a b done all.parts old_parts new_parts apart apart_back }

pub people_lead : (change : Change) (known : State) (a e : Database)
    → Then (Then (Known-callers change known.callers) (OfEach (AgreesFor change known) (WritesRiders change)))
    (Known-entries change known.entries) a e
    → OfEach (AgreesFor change known) (λ content. Leads change content content (with_people change content)) a e
people_lead change known a e four content agrees told puts stands =
    let three = four.1 in
    let m = content in
    let s1 : State = record content { callers = edited caller_key change.callers content.callers } in
    let all_1 = step 1 s1 m a three.0 (are content a stands)
    (λ _. three.1 content.callers (agrees.parts part.callers) (puts.ranges.parts part.callers) (told.order part.callers)
    (told.ranges.parts part.callers)) refl refl refl refl in
    let both = three.2 all_1.schema content agrees in
    let s3 : State = record s1 { riders = edited rider_key change.riders content.riders } in
    let all_3 = step 6 s3 m three.0 both.0 all_1 (λ _. both.1 (puts.ranges.parts part.riders) (told.order part.riders) (told.ranges.parts part.riders)) refl refl refl refl in
    let n : State = record m { riders = edited rider_key change.riders m.riders } in
    let all_4 = step 11 s3 n both.0 four.0 all_3 (λ has. both.2 has (puts.ranges.parts part.riders) (told.order part.riders) (told.ranges.parts part.riders)) refl refl refl refl in
    let s4 : State = record s3 { entries = edited entry_key change.entries content.entries } in
    let all_5 = step 7 s4 s4 four.0 e all_4
    (λ has. four.2 has content.entries (agrees.parts part.entries) (puts.ranges.parts part.entries) (told.order part.entries) (told.ranges.parts part.entries)) refl refl refl refl in
    stand (with_people change content) e all_5

pub area_leads : (change : Change) (known : State) (a e : Database)
    → Then (Then (Then (Known-places change known.places) (Known-routes change known.routes)) (OfEach (AgreesFor change known) (WritesFleet change)))
    (Known-travel change known.travel) a e
    → OfEach (AgreesFor change known) (λ content. Leads change content (with_people change content) (with_area change (with_people change content))) a e
area_leads change known a e four content agrees told puts stands =
    let three = four.1 in
    let two = three.1 in
    let s = with_people change content in
    let m = s in
    let s1 : State = record s { places = edited place_key change.places s.places } in
    let all_1 = step 3 s1 m a two.0 (are s a stands)
    (λ _. two.1 content.places (agrees.parts part.places) (puts.ranges.parts part.places) (told.order part.places) (told.ranges.parts part.places)) refl refl refl refl in
    let s2 : State = record s1 { routes = edited route_key change.routes s.routes } in
    let all_2 = step 4 s2 m two.0 three.0 all_1
    (λ has. two.2 has content.routes (agrees.parts part.routes) (puts.ranges.parts part.routes) (told.order part.routes) (told.ranges.parts part.routes)) refl refl refl refl in
    let first = three.2 all_2.schema content agrees in
    let left : State = record m { vehicles = take_all vehicle_key change.vehicles.away m.vehicles } in
    let all_3 = step 12 s2 left three.0 first.0 all_2 (λ _. first.1 (told.order part.vehicles) (told.ranges.parts part.vehicles)) refl refl refl refl in
    let rest = first.2 all_3.schema in
    let s3 : State = record s2 { vehicles = edited vehicle_key change.vehicles s.vehicles } in
    let all_4 = step 5 s3 left first.0 rest.0 all_3 (λ _. rest.1 (puts.ranges.parts part.vehicles) (told.order part.vehicles) (told.ranges.parts part.vehicles)) refl refl refl refl in
    let n : State = record m { vehicles = edited vehicle_key change.vehicles m.vehicles } in
    let all_5 = step 12 s3 n rest.0 four.0 all_4
    (λ has. rest.2 has (puts.ranges.parts part.vehicles) left.vehicles (IsInOrder-take_all vehicle_key change.vehicles.away m.vehicles (told.order part.vehicles))
    (Each-take_all IsVehicle vehicle_key change.vehicles.away m.vehicles (told.ranges.parts part.vehicles))) refl refl refl refl in
    let s4 : State = record s3 { travel = edited travel_key change.travel s.travel } in
    let all_6 = step 10 s4 s4 four.0 e all_5
    (λ has. four.2 has content.travel (agrees.parts part.travel) (puts.ranges.parts part.travel) (told.order part.travel) (told.ranges.parts part.travel)) refl refl refl refl in
    stand (with_area change s) e all_6

pub trips_lead : (change : Change) (known : State) (plans : List Plan) (a d : Database)
    → Then (Then (OfEach (AgreesFor change known) (WritesTrips change)) (Known-planned change plans)) (Known-last change known) a d
    → OfEach (AgreesWith change known plans) (λ content. Ends change content (with_area change (with_people change content))
    (with_trips change (with_area change (with_people change content)))) a d
trips_lead change known plans a d three content agrees told puts stands =
    let two = three.1 in
    let s = with_area change (with_people change content) in
    let m = s in
    let both = two.1 content agrees.0 in
    let s1 : State = record s { trips = edited trip_key change.trips s.trips } in
    let all_1 = step 8 s1 m a both.0 (are s a stands) (λ _. both.1 (puts.ranges.parts part.trips) (told.order part.trips) (told.ranges.parts part.trips)) refl refl refl refl in
    let n : State = record m { trips = edited trip_key change.trips m.trips } in
    let all_2 = step 13 s1 n both.0 two.0 all_1 (λ has. both.2 has (puts.ranges.parts part.trips) (told.order part.trips) (told.ranges.parts part.trips)) refl refl refl refl in
    let s2 : State = record s1 { planned = edited plan_key change.planned s.planned } in
    let all_3 = step 9 s2 n two.0 three.0 all_2
    (λ has. two.2 has content.planned agrees.1 (stored-plans change.planned.puts (puts.ranges.parts part.planned)
    puts.stops) (told.order part.planned) (stored-plans s.planned (told.ranges.parts part.planned) told.stops)) refl refl refl
    refl in
    let ends = three.2 all_3.schema content agrees.0 in
    let s3 : State = record s2 { kept = edited kept_key change.kept s.kept } in
    let all_4 = step 2 s3 s3 three.0 ends.0 all_3
    (λ _. ends.1 (puts.ranges.parts part.kept) (told.order part.kept) (told.ranges.parts part.kept)) refl refl refl refl in
    let s4 : State = with_trips change s in
    let all_5 = step 0 s4 s4 ends.0 d all_4 (λ has. (ends.2 has).0) refl refl refl refl in
    (stand s4 d all_5, (ends.2 all_4.schema).1)
