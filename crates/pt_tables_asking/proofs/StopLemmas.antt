-- The stops of a vehicle on a day, as a query returns them, and their plan.
use Rattle.std.proofs.Common.{◌≡◌, ◌+◌, ◌++◌, ◌<◌, ◌≤◌, ◌==◌, ◌&&◌, ◌^◌, ℕ, Bool, true, false, IsTrue, cond, List, []}
use Rattle.std.proofs.Common.{◌∷◌, length, map, filter, flat_map, slice_get, Option, None, Some, append-nil, refl}
use Rattle.std.proofs.Common.{sym, ap, ap₂, subst, ◌∙◌, arith}
use Rattle.std.specs.Prelude.{IsPermutation}
use Rattle.std.specs.List.{AllByRecursion}
use Rattle.std.specs.Option.{option_to_list}
use Rattle.std.proofs.lemmas.Bool.Decides.{nat_tests}
use Rattle.std.proofs.lemmas.List.Elements.{filter-append}
use Rattle.std.proofs.lemmas.List.Sorted.{IsPermutation-sym, IsPermutation-trans}
use Rattle.sqlite.specs.Effect.{Database}
use Rattle.sqlite.specs.Order.{Row}
use Rattle.sqlite.specs.State.{State as Connected}
use Rattle.sqlite_keyed.proofs.ListLemmas.{IsPermutation-filter, slice_get-filter}
use Rattle.pt_base_values.specs.Day.{IsDay}
use Rattle.pt_desk_rules.specs.Parts as part
use Rattle.pt_desk_rules.specs.Ranges.{FitsPlan, FitsStop}
use Rattle.pt_desk_rules.specs.Sound.{HasStops}
use Rattle.pt_desk_rules.specs.State.{State}
use Rattle.pt_desk_rules.specs.declared.table_name.TableName.TheVariants as name
use Rattle.pt_base_records.specs.Keys.{pair_key}
use Rattle.pt_base_records.specs.Records.{Each, IsInOrder, record_at}
use Rattle.pt_desk_scheduling.specs.Plan.{Plan, plan_key}
use Rattle.pt_desk_scheduling.specs.declared.planned.PlannedStop.{PlannedStop}
use Rattle.pt_desk_scheduling.proofs.PlanLemmas.{found_key}
use Rattle.pt_desk_scheduling.proofs.RouteLemmas.{Each-found}
use Rattle.pt_tables_reading.specs.Replies.{IsId}
use Rattle.pt_tables_reading.specs.Fitting.{FitsStopAt, stop_row}
use Rattle.pt_tables_reading.specs.declared.stops.StopAt.{StopAt}
use Rattle.pt_tables_rows.specs.Rows.{number_value, stop_number, stop_rows, stop_rows_from}
use Rattle.pt_tables_rows.specs.Schema.{desk_schema, stops_table}
use Rattle.pt_tables_rows.specs.Tables.{IsKept, Stands, columns_of, IsWellFormed}
use Rattle.pt_tables_rows.proofs.SameRowsGroups.{kind-told, stops-in_order}
use Rattle.pt_tables_rows.proofs.ColumnLemmas.{number_in}
use Rattle.pt_tables_asking.specs.Asking.{HasAnswer}
use Rattle.pt_tables_asking.specs.Plans.{HasFewStops, plan_by_stops}
use Rattle.pt_tables_asking.specs.declared.texts.TheConstants.{STOPS_BY_VEHICLE_AND_DAY}
use Rattle.pt_tables_asking.proofs.AskedQueries.{answers_passing, is_served}
use Rattle.pt_tables_asking.proofs.OrderedLemmas.{IsAt, one_at_most, place_le, same_order}
use Rattle.pt_tables_asking.proofs.ReadLemmas.{at_params}
use Rattle.pt_tables_asking.proofs.RecordLemmas.{same_by_both}
use Rattle.pt_tables_asking.proofs.TextLemmas.{has_pair, same_pair, stops_text}

-- ---- one record of a key

at_most_one : {A : Type 0} (xs : List A) (found : Option A) → length xs ≤ 1 → slice_get xs 0 ≡ found → xs ≡ option_to_list found
at_most_one [] found few is = subst (λ o. [] ≡ option_to_list o) is refl
at_most_one (x ∷ []) found few is = subst (λ o. x ∷ [] ≡ option_to_list o) is refl
at_most_one (x ∷ y ∷ xs) found few is = absurd (omega arith)

-- the only record with a key is the one that is found by it
pub filter_found : {A : Type 0} (key : A → ℕ) (k : ℕ) (xs : List A) → IsInOrder key xs → filter (λ x. key x == k) xs ≡ option_to_list (record_at key k xs)
filter_found key k xs order = at_most_one (filter (λ x. key x == k) xs) (record_at key k xs) (one_at_most key xs order k) (slice_get-filter (λ x. key x == k) xs)

pub filter_alike : {A : Type 0} (P : A → Type 0) (f g : A → Bool) → ((x : A) → P x → f x ≡ g x) → (xs : List A) → Each P xs → filter f xs ≡ filter g xs
filter_alike P f g same [] each = refl
filter_alike P f g same (x ∷ xs) each = ap₂ (λ b l. cond b (x ∷ l) l) (same x each.0) (filter_alike P f g same xs each.1)

-- the key of a plan is its vehicle and its day
pub same_key : (vehicle day m n : ℕ) → day < 4_294_967_296 → n < 4_294_967_296 → (vehicle == m && day == n) ≡ (pair_key vehicle day == pair_key m n)
same_key vehicle day m n low high = grind (arith, nat_tests)

pub parts_of_key : (vehicle day m n : ℕ) → day < 4_294_967_296 → n < 4_294_967_296 → pair_key vehicle day ≡ pair_key m n → (vehicle ≡ m) × (day ≡ n)
parts_of_key vehicle day m n low high same = (omega arith, omega arith)

pub day_low : (plan : Plan) → FitsPlan plan → plan.day < 4_294_967_296
day_low plan fits = let top = fits.day.1 in omega arith

-- ---- stops at their places

-- the stops of a vehicle on a day, at consecutive places from this one on
abbrev pub stops_from : ℕ → ℕ → ℕ → List PlannedStop → List StopAt
stops_from place vehicle day [] = []
stops_from place vehicle day (stop ∷ later) =
    record { vehicle = vehicle; day = day; place = place; stop = stop } ∷ stops_from (place + 1) vehicle day later

-- those of a plan, if there is one
abbrev pub stops_found : ℕ → ℕ → Option Plan → List StopAt
stops_found vehicle day None = []
stops_found vehicle day (Some plan) = stops_from 0 vehicle day plan.stops

rows_from : (place vehicle day : ℕ) (stops : List PlannedStop) → map stop_row (stops_from place vehicle day stops) ≡ stop_rows_from place vehicle day stops
rows_from place vehicle day [] = refl
rows_from place vehicle day (stop ∷ later) =
    ap (λ l. (number_value vehicle ∷ number_value day ∷ number_value place ∷ number_value stop.trip ∷ number_value (stop_number stop.kind) ∷ []) ∷ l) (rows_from (place + 1) vehicle day later)

stops_back : (place vehicle day : ℕ) (stops : List PlannedStop) → map (λ (at : StopAt). at.stop) (stops_from place vehicle day stops) ≡ stops
stops_back place vehicle day [] = refl
stops_back place vehicle day (stop ∷ later) = ap (λ l. stop ∷ l) (stops_back (place + 1) vehicle day later)

stops_fit : (place vehicle day : ℕ) (stops : List PlannedStop) → IsId vehicle → IsDay day → Each FitsStop stops → place + length stops ≤ 2 ^ 32 → Each FitsStopAt (stops_from place vehicle day stops)
stops_fit place vehicle day [] bus date each few = tt
stops_fit place vehicle day (stop ∷ later) bus date each few = (
  record { vehicle = bus; day = date; place = omega arith; trip = each.0 },
  stops_fit (place + 1) vehicle day later bus date each.1 (omega arith),
)

each_at : (place vehicle day : ℕ) (stops : List PlannedStop) → Each (IsAt vehicle day) (map stop_row (stops_from place vehicle day stops))
each_at place vehicle day [] = tt
each_at place vehicle day (stop ∷ later) = (record { first_is = refl; second_is = refl; third = refl }, each_at (place + 1) vehicle day later)

-- a row determines its stop
stop_told : (x y : StopAt) → stop_row x ≡ stop_row y → x ≡ y
stop_told x y same =
    let kind = kind-told x.stop.kind y.stop.kind (ap (number_in 4) same) in
    λ i. record {
      vehicle = number_in 0 (same i);
      day = number_in 1 (same i);
      place = number_in 2 (same i);
      stop = record { trip = number_in 3 (same i); kind = kind i };
    }

pub same_stops : (xs ys : List StopAt) → map stop_row xs ≡ map stop_row ys → xs ≡ ys
same_stops xs ys same = same_by_both stop_row stop_row (λ x y one other. stop_told x y one) xs ys same same

-- ---- the rows that pass

passing_rows : (m n place vehicle day : ℕ) (stops : List PlannedStop) → AllByRecursion (λ row. has_pair m n row ≡ (vehicle == m && day == n)) (stop_rows_from place vehicle day stops)
passing_rows m n place vehicle day [] = tt
passing_rows m n place vehicle day (stop ∷ later) = (same_pair vehicle day m n, passing_rows m n (place + 1) vehicle day later)

all_or_none : (test : Row → Bool) (b : Bool) (rows : List Row) → AllByRecursion (λ row. test row ≡ b) rows → filter test rows ≡ cond b rows []
all_or_none test true [] all = refl
all_or_none test false [] all = refl
all_or_none test true (row ∷ rows) all = ap (λ c. cond c (row ∷ filter test rows) (filter test rows)) all.0 ∙ ap (λ l. row ∷ l) (all_or_none test true rows all.1)
all_or_none test false (row ∷ rows) all = ap (λ c. cond c (row ∷ filter test rows) (filter test rows)) all.0 ∙ all_or_none test false rows all.1

with_rows : (b : Bool) (plan : Plan) (plans : List Plan) → cond b (stop_rows plan) [] ++ flat_map stop_rows plans ≡ flat_map stop_rows (cond b (plan ∷ plans) plans)
with_rows true plan plans = refl
with_rows false plan plans = refl

-- the rows of stops that pass are those of the plans that have the vehicle and the day
plans_passing : (m n : ℕ) (plans : List Plan) → filter (has_pair m n) (flat_map stop_rows plans) ≡ flat_map stop_rows (filter (λ plan. plan.vehicle == m && plan.day == n) plans)
plans_passing m n [] = refl
plans_passing m n (plan ∷ plans) =
    filter-append (has_pair m n) (stop_rows plan) (flat_map stop_rows plans)
    ∙ ap₂ ◌++◌ (all_or_none (has_pair m n) (plan.vehicle == m && plan.day == n) (stop_rows plan) (passing_rows m n 0 plan.vehicle plan.day plan.stops)) (plans_passing m n plans)
    ∙ with_rows (plan.vehicle == m && plan.day == n) plan (filter (λ plan. plan.vehicle == m && plan.day == n) plans)

rows_found : (m n : ℕ) (found : Option Plan) → ((plan : Plan) → found ≡ Some plan → (plan.vehicle ≡ m)
    × (plan.day ≡ n)) → flat_map stop_rows (option_to_list found) ≡ map stop_row (stops_found m n found)
rows_found m n None is = refl
rows_found m n (Some plan) is =
    let parts = is plan refl in
    append-nil (stop_rows plan) ∙ ap₂ (λ v d. stop_rows_from 0 v d plan.stops) parts.0 parts.1 ∙ sym (rows_from 0 m n plan.stops)

found_order : (m n : ℕ) (found : Option Plan) → IsInOrder (number_in 2) (map stop_row (stops_found m n found))
found_order m n None = tt
found_order m n (Some plan) = subst (IsInOrder (number_in 2)) (sym (rows_from 0 m n plan.stops)) (stops-in_order 0 m n plan.stops)

found_at : (m n : ℕ) (found : Option Plan) → Each (IsAt m n) (map stop_row (stops_found m n found))
found_at m n None = tt
found_at m n (Some plan) = each_at 0 m n plan.stops

-- ---- the plan

shape : (vehicle day : ℕ) (plan : Plan) (stops : List PlannedStop) → stops ≡ plan.stops → 0 < length stops
    → plan.vehicle ≡ vehicle → plan.day ≡ day → plan_by_stops (stops_from 0 vehicle day stops) ≡ Some plan
shape vehicle day plan [] is some bus date = absurd (omega arith)
shape vehicle day plan (stop ∷ later) is some bus date =
    let same : map (λ (at : StopAt). at.stop) (stops_from 0 vehicle day (stop ∷ later)) ≡ plan.stops = stops_back 0 vehicle day (stop ∷ later) ∙ is in
    λ i. Some (record { vehicle = sym bus i; day = sym date i; stops = same i })

module _ (content : State) (readable : IsWellFormed content) (m n : ℕ) (low : n < 4_294_967_296) where
  abbrev found : Option Plan
  found = record_at plan_key (pair_key m n) content.planned

  abbrev pub wanted : List StopAt
  wanted = stops_found m n found

  found_parts : (plan : Plan) → found ≡ Some plan → (plan.vehicle ≡ m) × (plan.day ≡ n)
  found_parts plan is =
      let fits = Each-found FitsPlan plan_key (pair_key m n) plan content.planned (readable.ranges.parts part.planned) is in
      parts_of_key plan.vehicle plan.day m n (day_low plan fits) low (found_key plan_key (pair_key m n) plan content.planned is)

  rows_wanted : filter (has_pair m n) (flat_map stop_rows content.planned) ≡ map stop_row wanted
  rows_wanted =
      plans_passing m n content.planned
      ∙ ap (flat_map stop_rows) (filter_alike FitsPlan (λ plan. plan.vehicle == m && plan.day == n) (λ plan. plan_key plan == pair_key m n)
      (λ plan fits. same_key plan.vehicle plan.day m n (day_low plan fits) low) content.planned
      (readable.ranges.parts part.planned) ∙ filter_found plan_key (pair_key m n) content.planned
      (readable.order part.planned))
      ∙ rows_found m n found found_parts

  stops_answer : (db : Database) → Stands content db → HasAnswer STOPS_BY_VEHICLE_AND_DAY.now (number_value m ∷ number_value n ∷ []) db (map stop_row wanted)
  stops_answer db stands = record {
    schema = stands.schema;
    served = is_served desk_schema 3 stops_table STOPS_BY_VEHICLE_AND_DAY.now (number_value m ∷ number_value n ∷ []) (has_pair m n) (stops_text m n);
    shown = λ rows h.
        let both = answers_passing desk_schema 3 stops_table STOPS_BY_VEHICLE_AND_DAY.now (number_value m ∷ number_value n ∷ []) (has_pair m n) (stops_text m n) db rows h in
        let there = filter (has_pair m n) (map (columns_of stops_table) (db.trees stops_table.tree)) in
        let are : IsPermutation there (map stop_row wanted) =
        subst (IsPermutation there) rows_wanted (IsPermutation-filter (has_pair m n)
        (map (columns_of stops_table) (db.trees stops_table.tree)) (flat_map stop_rows content.planned)
        (stands.rows name.Stops)) in
        same_order 3 (number_in 2) (IsAt m n) (place_le m n) (map stop_row wanted) rows (found_order m n found) (found_at m n found)
        (IsPermutation-trans (map stop_row wanted) there rows (IsPermutation-sym there (map stop_row wanted) are) both.0) both.1;
  }

  pub stops_there : (old : Connected) → IsKept content old → (given : Row)
      → given ≡ number_value m ∷ number_value n ∷ [] → IsTrue old.is_open
      → HasAnswer STOPS_BY_VEHICLE_AND_DAY.now given old.now (map stop_row wanted)
  stops_there old held given same here = at_params STOPS_BY_VEHICLE_AND_DAY.now old.now (map stop_row wanted) given
      (number_value m ∷ number_value n ∷ []) same (stops_answer old.now (held.stands here))

  told_by : (o : Option Plan) → found ≡ o → plan_by_stops (stops_found m n o) ≡ o
  told_by None is = refl
  told_by (Some plan) is =
      let parts = found_parts plan is in
      shape m n plan plan.stops refl (Each-found HasStops plan_key (pair_key m n) plan content.planned readable.stops is) parts.0 parts.1

  -- stops with the wanted rows determine the plan
  pub plan_told : (stops : List StopAt) → map stop_row stops ≡ map stop_row wanted → plan_by_stops stops ≡ found
  plan_told stops same = ap plan_by_stops (same_stops stops wanted same) ∙ told_by found refl

  fit_by : Each HasFewStops content.planned → (o : Option Plan) → found ≡ o → Each FitsStopAt (stops_found m n o)
  fit_by few None is = tt
  fit_by few (Some plan) is =
      let parts = found_parts plan is in
      let fits = Each-found FitsPlan plan_key (pair_key m n) plan content.planned (readable.ranges.parts part.planned) is in
      let short = Each-found HasFewStops plan_key (pair_key m n) plan content.planned few is in
      stops_fit 0 m n plan.stops (subst IsId parts.0 fits.vehicle) (subst IsDay parts.1 fits.day) fits.stops (omega arith)

  pub wanted_fit : Each HasFewStops content.planned → Each FitsStopAt wanted
  wanted_fit few = fit_by few found refl
