-- The queries for all rows of each table: what they mean, and that the rows are in the order of the records' keys.
use Rattle.std.proofs.Common.{◌≡◌, ◌≤◌, ℕ, zero, suc, Bool, true, false, not, List, [], ◌∷◌, length, map, take, flat_map, ◌⊎◌, inl, inr, refl, arith}
use Rattle.std.specs.Prelude.{◌==◌}
use Rattle.std.specs.List.{AllByRecursion, range_with_len}
use Rattle.std.specs.Ordering.{is_lt}
use Rattle.sqlite.specs.Collation.TheVariants.{Binary}
use Rattle.sqlite.specs.Command.TheVariants.{Select}
use Rattle.sqlite.specs.Given.{IsPlain}
use Rattle.sqlite.specs.Listing.{understood, reads_listing}
use Rattle.sqlite.specs.Order.{Row}
use Rattle.sqlite.specs.Query.{key_cmp}
use Rattle.sqlite.specs.Schema.{Schema}
use Rattle.sqlite.specs.Table.{Table}
use Rattle.sqlite.specs.Term.{Term, col, eval_all}
use Rattle.sqlite.specs.Tree.{Trees}
use Rattle.sqlite_schema.specs.Names.{place_of}
use Rattle.sqlite_schema.specs.declared.schema.Column.{Column}
use Rattle.pt_tables_rows.specs.Compute.{everything}
use Rattle.sqlite_value.specs.Keys.{ascending}
use Rattle.sqlite_value.specs.declared.keys.Key.{Key}
use Rattle.pt_desk_rules.specs.Ranges.{FitsFiled, FitsKept, FitsPlace, FitsRider, FitsTravel, FitsTrip}
use Rattle.pt_desk_rules.specs.State.{caller_key, kept_key, place_key, route_key, rider_key, entry_key, vehicle_key, travel_key, trip_key}
use Rattle.pt_desk_scheduling.specs.Plan.{plan_key}
use Rattle.pt_desk_spelling.specs.Ranges.{IsCaller, IsRoute, IsVehicle}
use Rattle.pt_tables_asking.specs.Asking.{AreInOrder, Takes, command_in}
use Rattle.pt_tables_asking.proofs.AskedQueries.{AreAlike, IsMistyped, keys_of, untrue, where_query}
use Rattle.pt_tables_asking.proofs.OrderedLemmas.{IsCounted, IsPaired, count_le, double_key, pair_le, same_order}
use Rattle.pt_tables_opening.specs.Beside.{AreBeside}
use Rattle.pt_tables_opening.specs.Gathered.{FitsRows, KeepsOrder, KeepsRows}
use Rattle.pt_tables_opening.specs.Opening.{AsksForAll}
use Rattle.pt_tables_opening.specs.declared.changes.TheConstants.{CALLER_ROWS, KEPT_ROWS, PLACE_ROWS, ROUTE_ROWS, VEHICLE_ROWS, RIDER_ROWS, ENTRY_ROWS}
use Rattle.pt_tables_opening.specs.declared.changes.TheConstants.{TRIP_ROWS, STOP_ROWS, TRAVEL_ROWS, RIDER_CHAIR_ROWS, VEHICLE_CHAIR_ROWS, TRIP_CHAIR_ROWS}
use Rattle.pt_tables_opening.specs.declared.table_rows.TheConstants.{DESK_ROWS}
use Rattle.pt_tables_opening.proofs.BesideLemmas.{beside_each, beside_in_order}
use Rattle.pt_tables_opening.proofs.GroupOrders.{plans_keep, travel_keeps}
use Rattle.pt_tables_opening.proofs.OrderedLemmas.{keeps_all_order}
use Rattle.pt_tables_opening.proofs.ShownRows.{AsksAll, AsksAllIn, asks_for_all}
use Rattle.pt_tables_rows.specs.Rows.{row_if, rider_chair_rows, vehicle_chair_rows, trip_chair_rows, caller_row}
use Rattle.pt_tables_rows.specs.Rows.{kept_row, place_row, route_row, rider_row, entry_row, vehicle_row, trip_row}
use Rattle.pt_tables_rows.specs.Rows.{one_row, stop_rows, travel_rows}
use Rattle.pt_tables_rows.specs.Schema.{IsEarlier, desk_schema, schema_of, desk_table, callers_table, kept_table, places_table, fixed_table, vehicles_table, riders_table, entries_table, trips_table}
use Rattle.pt_tables_rows.specs.Schema.{stops_table, travel_table, rider_chairs_table, vehicle_chairs_table, trip_chairs_table}
use Rattle.pt_tables_rows.specs.Tables.{columns_of, IsStoredPlan}
use Rattle.pt_tables_rows.proofs.ColumnLemmas.{number_in}

-- ---- what a text means

-- all columns of the table
abbrev all_fields : Table → List Term
all_fields table = map (λ at. col 1 (place_of table at)) (range_with_len 0 (length table.columns))

-- the order of this many first columns
abbrev by_first : ℕ → Table → List (Term × Key)
by_first columns table = map (λ field. (field, ascending Binary)) (take columns (all_fields table))

-- what is computed of a text
asks_all : (schema : Schema) (columns : ℕ) (table : Table) (text : List ℕ)
    → command_in (understood schema text)
    ≡ Select (record { lets = []; body = where_query table.tree [] (all_fields table) (by_first columns table) }) (map (λ (column : Column). column.name) table.columns)
    → IsPlain (understood schema text) → reads_listing schema text ≡ false → Takes text [] (understood schema text)
    → ((trees : Trees) → IsMistyped schema trees (where_query table.tree [] (all_fields table) (by_first columns table)) [] → ⊥)
    → ((r : Row) → eval_all (all_fields table) ([] ∷ r ∷ []) ≡ columns_of table r)
    → map (λ k. k.1) (by_first columns table) ≡ keys_of columns
    → ((r : Row) → AreAlike 0 columns (eval_all (map (λ k. k.0) (by_first columns table)) ([] ∷ r ∷ [])) (eval_all (all_fields table) ([] ∷ r ∷ []))) → AsksAllIn schema columns table text
asks_all schema columns table text is plain unlisted takes typed shows keys heads = record {
  tests = [];
  fields = all_fields table;
  order = by_first columns table;
  names = map (λ (column : Column). column.name) table.columns;
  is = is;
  plain = plain;
  unlisted = unlisted;
  takes = takes;
  typed = typed;
  shows = shows;
  says = λ r. refl;
  keys = keys;
  heads = heads;
}

pub desk_rows_text : AsksAll 1 desk_table DESK_ROWS.now
unfolding understood everything desk_schema
desk_rows_text = asks_all desk_schema 1 desk_table DESK_ROWS.now refl (refl, refl) refl (omega arith, refl) (λ trees. untrue) (λ r. refl) refl (λ r. (refl, tt))

-- the same where the tables are those of an earlier version
pub earlier_rows_text : (version : ℕ) → IsEarlier version → AsksAllIn (schema_of version) 1 desk_table DESK_ROWS.now
unfolding understood everything schema_of
earlier_rows_text zero early = absurd (omega (arith, early.0))
earlier_rows_text (suc zero) early = asks_all (schema_of 1) 1 desk_table DESK_ROWS.now refl (refl, refl) refl (omega arith, refl) (λ trees. untrue) (λ r. refl) refl (λ r. (refl, tt))
earlier_rows_text (suc (suc version)) early = absurd (omega (arith, early.1))

-- ---- records of one row each

-- the query returns all rows of the table, in an order that keeps that of the records
abbrev IsAsked : {A : Type 0} → List ℕ → Table → (A → ℕ) → (A → List Row) → (A → Type 0) → Type 0
IsAsked text table key rows_of Fits = AsksForAll text table (KeepsOrder key rows_of (FitsRows rows_of Fits))

module _ {A : Type 0} (key : A → ℕ) (row_of : A → Row) (Fits : A → Type 0) (table : Table) (text : List ℕ) where
  -- their key is the first column
  by_one : AsksAll 1 table text → ((x : A) → IsCounted (row_of x)) → ((x : A) → number_in 0 (row_of x) ≡ key x) → IsAsked text table key (one_row row_of) Fits
  by_one asks is keyed =
      asks_for_all 1 table text (KeepsOrder key (one_row row_of) (FitsRows (one_row row_of) Fits)) asks
      (keeps_all_order 1 (number_in 0) IsCounted count_le key row_of (FitsRows (one_row row_of) Fits) (λ x fits. is x) keyed)

  -- their key is the first two columns
  by_two : AsksAll 2 table text → ((x : A) → Fits x → IsPaired (row_of x)) → ((x : A) → double_key (row_of x) ≡ key x) → IsAsked text table key (one_row row_of) Fits
  by_two asks is keyed =
      asks_for_all 2 table text (KeepsOrder key (one_row row_of) (FitsRows (one_row row_of) Fits)) asks
      (keeps_all_order 2 double_key IsPaired pair_le key row_of (FitsRows (one_row row_of) Fits) (λ x fits. is x fits.0) keyed)

pub callers_asked : IsAsked CALLER_ROWS.now callers_table caller_key (one_row caller_row) IsCaller
unfolding understood everything desk_schema
callers_asked = by_one caller_key caller_row IsCaller callers_table CALLER_ROWS.now
    (asks_all desk_schema 1 callers_table CALLER_ROWS.now refl (refl, refl) refl (omega arith, refl) (λ trees. untrue) (λ r. refl) refl (λ r. (refl, tt))) (λ x. refl) (λ x. refl)

pub kept_asked : IsAsked KEPT_ROWS.now kept_table kept_key (one_row kept_row) FitsKept
unfolding understood everything desk_schema
kept_asked = by_one kept_key kept_row FitsKept kept_table KEPT_ROWS.now
    (asks_all desk_schema 1 kept_table KEPT_ROWS.now refl (refl, refl) refl (omega arith, refl) (λ trees. untrue) (λ r. refl) refl (λ r. (refl, tt))) (λ x. refl) (λ x. refl)

pub places_asked : IsAsked PLACE_ROWS.now places_table place_key (one_row place_row) FitsPlace
unfolding understood everything desk_schema
places_asked = by_one place_key place_row FitsPlace places_table PLACE_ROWS.now
    (asks_all desk_schema 1 places_table PLACE_ROWS.now refl (refl, refl) refl (omega arith, refl) (λ trees. untrue) (λ r. refl) refl (λ r. (refl, tt))) (λ x. refl) (λ x. refl)

pub routes_asked : IsAsked ROUTE_ROWS.now fixed_table route_key (one_row route_row) IsRoute
unfolding understood everything desk_schema
routes_asked = by_one route_key route_row IsRoute fixed_table ROUTE_ROWS.now
    (asks_all desk_schema 1 fixed_table ROUTE_ROWS.now refl (refl, refl) refl (omega arith, refl) (λ trees. untrue) (λ r. refl) refl (λ r. (refl, tt))) (λ x. refl) (λ x. refl)

pub vehicles_asked : IsAsked VEHICLE_ROWS.now vehicles_table vehicle_key (one_row vehicle_row) IsVehicle
unfolding understood everything desk_schema
vehicles_asked = by_two vehicle_key vehicle_row IsVehicle vehicles_table VEHICLE_ROWS.now
    (asks_all desk_schema 2 vehicles_table VEHICLE_ROWS.now refl (refl, refl) refl (omega arith, refl) (λ trees. untrue) (λ r. refl) refl (λ r. (refl, (refl, tt))))
    (λ x fits. record { first = refl; second = refl; second_low = let last = fits.from_day.1 in omega arith })
    (λ x. refl)

pub riders_asked : IsAsked RIDER_ROWS.now riders_table rider_key (one_row rider_row) FitsRider
unfolding understood everything desk_schema
riders_asked = by_one rider_key rider_row FitsRider riders_table RIDER_ROWS.now
    (asks_all desk_schema 1 riders_table RIDER_ROWS.now refl (refl, refl) refl (omega arith, refl) (λ trees. untrue) (λ r. refl) refl (λ r. (refl, tt))) (λ x. refl) (λ x. refl)

pub entries_asked : IsAsked ENTRY_ROWS.now entries_table entry_key (one_row entry_row) FitsFiled
unfolding understood everything desk_schema
entries_asked = by_two entry_key entry_row FitsFiled entries_table ENTRY_ROWS.now
    (asks_all desk_schema 2 entries_table ENTRY_ROWS.now refl (refl, refl) refl (omega arith, refl) (λ trees. untrue) (λ r. refl) refl (λ r. (refl, (refl, tt))))
    (λ x fits. record { first = refl; second = refl; second_low = fits.position }) (λ x. refl)

pub trips_asked : IsAsked TRIP_ROWS.now trips_table trip_key (one_row trip_row) FitsTrip
unfolding understood everything desk_schema
trips_asked = by_one trip_key trip_row FitsTrip trips_table TRIP_ROWS.now
    (asks_all desk_schema 1 trips_table TRIP_ROWS.now refl (refl, refl) refl (omega arith, refl) (λ trees. untrue) (λ r. refl) refl (λ r. (refl, tt))) (λ x. refl) (λ x. refl)

-- ---- records of several rows each

pub planned_asked : IsAsked STOP_ROWS.now stops_table plan_key stop_rows IsStoredPlan
unfolding understood everything desk_schema
planned_asked = asks_for_all 3 stops_table STOP_ROWS.now (KeepsOrder plan_key stop_rows (FitsRows stop_rows IsStoredPlan))
    (asks_all desk_schema 3 stops_table STOP_ROWS.now refl (refl, refl) refl (omega arith, refl) (λ trees. untrue) (λ r. refl) refl (λ r. (refl, (refl, (refl, tt))))) plans_keep

pub travel_asked : IsAsked TRAVEL_ROWS.now travel_table travel_key travel_rows FitsTravel
unfolding understood everything desk_schema
travel_asked = asks_for_all 3 travel_table TRAVEL_ROWS.now (KeepsOrder travel_key travel_rows (FitsRows travel_rows FitsTravel))
    (asks_all desk_schema 3 travel_table TRAVEL_ROWS.now refl (refl, refl) refl (omega arith, refl) (λ trees. untrue) (λ r. refl) refl (λ r. (refl, (refl, (refl, tt))))) travel_keeps

-- ---- rows of second tables

-- at most one row, which has the key
so_one : (so : Bool) (row : Row) → (row_if so row ≡ []) ⊎ (r : Row) × (row_if so row ≡ r ∷ [])
so_one true row = inr (row, refl)
so_one false row = inl refl

so_all : (P : Row → Type 0) (so : Bool) (row : Row) → P row → AllByRecursion P (row_if so row)
so_all P true row holds = (holds, tt)
so_all P false row holds = tt

pub riders_beside : AreBeside rider_key rider_row rider_chair_rows
riders_beside = record {
  key_in = number_in 0;
  one = λ x. so_one x.wheelchair _;
  keyed = λ x. so_all (λ row. number_in 0 row ≡ rider_key x) x.wheelchair _ refl;
  row_keyed = λ x. refl;
}

pub vehicles_beside : AreBeside vehicle_key vehicle_row vehicle_chair_rows
vehicles_beside = record {
  key_in = double_key;
  one = λ x. so_one (not (x.chairs == 0)) _;
  keyed = λ x. so_all (λ row. double_key row ≡ vehicle_key x) (not (x.chairs == 0)) _ refl;
  row_keyed = λ x. refl;
}

pub trips_beside : AreBeside trip_key trip_row trip_chair_rows
trips_beside = record {
  key_in = number_in 0;
  one = λ x. so_one x.wheelchair _;
  keyed = λ x. so_all (λ row. number_in 0 row ≡ trip_key x) x.wheelchair _ refl;
  row_keyed = λ x. refl;
}

-- rows of a second table in the order of their keys keep the order of the records
module _ {A : Type 0} (key : A → ℕ) (row_of : A → Row) (beside_of : A → List Row) (Fits : A → Type 0) (laws : AreBeside key row_of beside_of) where
  keeps_beside : (columns : ℕ) (Is : Row → Type 0) → ((a b : Row) → Is a → Is b → is_lt (key_cmp 0 (keys_of columns) b a) ≡ false → laws.key_in a ≤ laws.key_in b)
      → ((x : A) → Fits x → AllByRecursion Is (beside_of x)) → (rows : List Row) → AreInOrder columns rows → KeepsRows key beside_of Fits rows
  keeps_beside columns Is le is rows order = λ xs each ordered same.
      same_order columns laws.key_in Is le (flat_map beside_of xs) rows (beside_in_order key row_of beside_of Fits laws xs ordered)
      (beside_each key row_of beside_of Fits laws Is is xs each) same order

pub rider_chairs_asked : AsksForAll RIDER_CHAIR_ROWS.now rider_chairs_table (KeepsRows rider_key rider_chair_rows FitsRider)
unfolding understood everything desk_schema riders_beside
rider_chairs_asked =
    asks_for_all 1 rider_chairs_table RIDER_CHAIR_ROWS.now (KeepsRows rider_key rider_chair_rows FitsRider)
    (asks_all desk_schema 1 rider_chairs_table RIDER_CHAIR_ROWS.now refl (refl, refl) refl (omega arith, refl) (λ trees. untrue) (λ r. refl) refl (λ r. (refl, tt)))
    (keeps_beside rider_key rider_row rider_chair_rows FitsRider riders_beside 1 IsCounted count_le (λ x fits. so_all IsCounted x.wheelchair _ refl))

pub vehicle_chairs_asked : AsksForAll VEHICLE_CHAIR_ROWS.now vehicle_chairs_table (KeepsRows vehicle_key vehicle_chair_rows IsVehicle)
unfolding understood everything desk_schema vehicles_beside
vehicle_chairs_asked =
    asks_for_all 2 vehicle_chairs_table VEHICLE_CHAIR_ROWS.now (KeepsRows vehicle_key vehicle_chair_rows IsVehicle)
    (asks_all desk_schema 2 vehicle_chairs_table VEHICLE_CHAIR_ROWS.now refl (refl, refl) refl (omega arith, refl) (λ trees. untrue) (λ r. refl) refl (λ r. (refl, (refl, tt))))
    (keeps_beside vehicle_key vehicle_row vehicle_chair_rows IsVehicle vehicles_beside 2 IsPaired pair_le
    (λ x fits. so_all IsPaired (not (x.chairs == 0)) _ (record
    { first = refl; second = refl; second_low = let last = fits.from_day.1 in omega arith })))

pub trip_chairs_asked : AsksForAll TRIP_CHAIR_ROWS.now trip_chairs_table (KeepsRows trip_key trip_chair_rows FitsTrip)
unfolding understood everything desk_schema trips_beside
trip_chairs_asked =
    asks_for_all 1 trip_chairs_table TRIP_CHAIR_ROWS.now (KeepsRows trip_key trip_chair_rows FitsTrip)
    (asks_all desk_schema 1 trip_chairs_table TRIP_CHAIR_ROWS.now refl (refl, refl) refl (omega arith, refl) (λ trees. untrue) (λ r. refl) refl (λ r. (refl, tt)))
    (keeps_beside trip_key trip_row trip_chair_rows FitsTrip trips_beside 1 IsCounted count_le (λ x fits. so_all IsCounted x.wheelchair _ refl))
