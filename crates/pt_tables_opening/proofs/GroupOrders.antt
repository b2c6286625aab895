-- Rows in the order of their first three columns keep the order of plans and of travel tables.
use Rattle.std.proofs.Common.{◌≡◌, ◌+◌, ◌*◌, ◌<◌, ◌≤◌, suc, ℕ, List, [], ◌∷◌, length, map, get_or, true, false, eqb}
use Rattle.std.proofs.Common.{Option, None, Some, Result, Ok, Err, IfOk, inl, inr, ⊎_elim, refl, sym, ap, subst, ◌∙◌}
use Rattle.std.proofs.Common.{arith}
use Rattle.std.specs.Prelude.{All, Contains, IsPermutation}
use Rattle.std.specs.List.{AllByRecursion, IsDistinct, list_any}
use Rattle.std.proofs.lemmas.Bool.{cases_Bool, ne_eqb}
use Rattle.std.proofs.lemmas.Bool.Decides.{nat_tests}
use Rattle.std.proofs.lemmas.List.{get_or_default}
use Rattle.std.proofs.lemmas.Map.Steps.{length-le_from_distinct_below}
use Rattle.std.proofs.lemmas.List.Sorted.{IsPermutation-refl}
use Rattle.sqlite.specs.Order.{Row}
use Rattle.pt_desk_rules.specs.State.{travel_key}
use Rattle.pt_desk_rules.specs.Travel.{TravelTable}
use Rattle.pt_base_records.specs.Keys.{pair_key}
use Rattle.pt_base_records.specs.Records.{Each, IsInOrder}
use Rattle.pt_desk_scheduling.specs.Plan.{Plan, plan_key}
use Rattle.pt_desk_scheduling.specs.declared.planned.PlannedStop.{PlannedStop}
use Rattle.pt_travel.specs.Chain as travel
use Rattle.pt_travel.specs.Table.{ComesBefore, Rises}
use Rattle.pt_tables_asking.specs.Asking.{AreInOrder}
use Rattle.pt_tables_opening.specs.Gathered.{BeginsOnce, BeginsPlan, BeginsTravel, FitsRows, KeepsOrder}
use Rattle.pt_desk_rules.specs.Ranges.{FitsDrive, FitsTravel}
use Rattle.pt_tables_reading.specs.Reading.{Reads}
use Rattle.pt_tables_rows.specs.Rows.{stop_rows, stop_rows_from, travel_row, travel_rows}
use Rattle.pt_tables_rows.specs.Tables.{IsStoredPlan}
use Rattle.pt_tables_opening.proofs.GatheredLemmas.{each_at, same_records}
use Rattle.pt_tables_asking.proofs.OrderedLemmas.{IsNumbered, triple_key}
use Rattle.pt_tables_opening.proofs.OrderedLemmas.{IsSpan, rows_told}
use Rattle.pt_tables_opening.proofs.PlanReading.{few_stops, plan-once, rows-of-drives, travel-once}
use Rattle.pt_tables_rows.proofs.SameRowsGroups.{plan-told, table-told}
use Rattle.pt_tables_rows.proofs.SameRowsLists.{steps-in_order}

module _ {A : Type 0} (key : A → ℕ) (rows_of : A → List Row) (Fits : A → Type 0) (Begins : Row → Type 0) (once : (x : A) → Fits x → BeginsOnce Begins (rows_of x))
    (told : (x y : A) → Fits x → Fits y → rows_of x ≡ rows_of y → x ≡ y) (width : ℕ) (spans : (x : A) → Fits x → IsSpan (key x) width (rows_of x)) where
  keeps_groups : (rows : List Row) → AreInOrder 3 rows → KeepsOrder key rows_of Fits rows
  keeps_groups rows ordered = record {
    same = λ xs each order alike. rows_told key width rows_of Fits spans xs rows each order alike ordered;
    rising = λ xs ys each also same order. subst (IsInOrder key) (same_records rows_of Fits Begins once told xs ys each also same) order;
  }

-- ---- plans

plan_numbered : (from vehicle day : ℕ) (stops : List PlannedStop) → day < 4_294_967_296 → from + length stops ≤ 4_294_967_296
    → Each IsNumbered (stop_rows_from from vehicle day stops)
plan_numbered from vehicle day [] low few = tt
plan_numbered from vehicle day (stop ∷ stops) low few = (
  record { first = refl; second = refl; third = refl; second_low = low; third_low = omega arith },
  plan_numbered (from + 1) vehicle day stops low (omega arith),
)

plan_above : (below from vehicle day : ℕ) (stops : List PlannedStop) → below < from
    → Each (λ row. pair_key (pair_key vehicle day) below < triple_key row) (stop_rows_from from vehicle day stops)
plan_above below from vehicle day [] low = tt
plan_above below from vehicle day (stop ∷ stops) low = (omega arith, plan_above below (from + 1) vehicle day stops (omega arith))

plan_in_order : (from vehicle day : ℕ) (stops : List PlannedStop) → IsInOrder triple_key (stop_rows_from from vehicle day stops)
plan_in_order from vehicle day [] = tt
plan_in_order from vehicle day (stop ∷ stops) = (plan_above from (from + 1) vehicle day stops (omega arith), plan_in_order (from + 1) vehicle day stops)

plan_from : (from vehicle day : ℕ) (stops : List PlannedStop) → Each (λ row. pair_key vehicle day * 4_294_967_296 ≤ triple_key row) (stop_rows_from from vehicle day stops)
plan_from from vehicle day [] = tt
plan_from from vehicle day (stop ∷ stops) = (omega arith, plan_from (from + 1) vehicle day stops)

plan_below : (from vehicle day : ℕ) (stops : List PlannedStop) → from + length stops ≤ 4_294_967_296
    → Each (λ row. triple_key row < suc (pair_key vehicle day) * 4_294_967_296) (stop_rows_from from vehicle day stops)
plan_below from vehicle day [] few = tt
plan_below from vehicle day (stop ∷ stops) few = (omega arith, plan_below (from + 1) vehicle day stops (omega arith))

plan_spans : (plan : Plan) → FitsRows stop_rows IsStoredPlan plan → IsSpan (plan_key plan) 4_294_967_296 (stop_rows plan)
plan_spans plan fits =
    let few : 0 + length plan.stops ≤ 4_294_967_296 = let most = few_stops plan fits in omega arith in
    let last = fits.0.0.day.1 in
    record {
      numbered = plan_numbered 0 plan.vehicle plan.day plan.stops (omega arith) few;
      in_order = plan_in_order 0 plan.vehicle plan.day plan.stops;
      from = plan_from 0 plan.vehicle plan.day plan.stops;
      below = plan_below 0 plan.vehicle plan.day plan.stops few;
    }

alike : (one other : List Row) → one ≡ other → IsPermutation one other
alike one other same = subst (IsPermutation one) same (IsPermutation-refl one)

plan_by_rows : (x y : Plan) → FitsRows stop_rows IsStoredPlan x → FitsRows stop_rows IsStoredPlan y → stop_rows x ≡ stop_rows y → x ≡ y
plan_by_rows x y one other same = plan-told x y one.0.1 other.0.1 (alike (stop_rows x) (stop_rows y) same)

pub plans_keep : (rows : List Row) → AreInOrder 3 rows → KeepsOrder plan_key stop_rows (FitsRows stop_rows IsStoredPlan) rows
plans_keep = keeps_groups plan_key stop_rows (FitsRows stop_rows IsStoredPlan) BeginsPlan (λ plan fits. plan-once plan fits.0) plan_by_rows 4_294_967_296 plan_spans

-- ---- travel tables

drives_numbered : (day : ℕ) (drives : List travel.Row) → Each FitsDrive drives → Each IsNumbered (map (travel_row day) drives)
drives_numbered day [] each = tt
drives_numbered day (drive ∷ drives) each = (
  record { first = refl; second = refl; third = refl; second_low = each.0.0.1; third_low = each.0.1.1 },
  drives_numbered day drives each.1,
)

order_map : {A : Type 0} (f : A → Row) (xs : List A) → IsInOrder (λ x. triple_key (f x)) xs → IsInOrder triple_key (map f xs)
order_map f [] order = tt
order_map f (x ∷ xs) order = (above xs order.0, order_map f xs order.1)
  where
    above : (ys : List _) → Each (λ y. triple_key (f x) < triple_key (f y)) ys → Each (λ row. triple_key (f x) < triple_key row) (map f ys)
    above [] each = tt
    above (y ∷ ys) each = (each.0, above ys each.1)

drive_before : (day : ℕ) (one other : travel.Row) → FitsDrive one → FitsDrive other → ComesBefore one other → triple_key (travel_row day one) < triple_key (travel_row day other)
drive_before day one other fits also (inl lower) = let low = fits.1.1 in omega arith
drive_before day one other fits also (inr tied) = let same = tied.0 in let lower = tied.1 in omega arith

drives_rise : (day : ℕ) (drives : List travel.Row) → Each FitsDrive drives → Rises drives → IsInOrder (λ drive. triple_key (travel_row day drive)) drives
drives_rise day drives each rises =
    steps-in_order (λ drive. triple_key (travel_row day drive)) (0, 0, 0) drives
    (λ k inside. drive_before day (get_or drives k (0, 0, 0)) (get_or drives (k + 1) (0, 0, 0)) (each_at FitsDrive drives k (0, 0, 0) each (omega arith))
    (each_at FitsDrive drives (k + 1) (0, 0, 0) each inside) (rises k inside))

drives_in_order : (day : ℕ) (drives : List travel.Row) → Each FitsDrive drives → Rises drives → IsInOrder triple_key (map (travel_row day) drives)
drives_in_order day drives each rises = order_map (travel_row day) drives (drives_rise day drives each rises)

above_noughts : (day : ℕ) (drives : List travel.Row) → Each FitsDrive drives → Each (λ row. triple_key (travel_row day (0, 0, 0)) < triple_key row) (map (travel_row day) drives)
above_noughts day [] each = tt
above_noughts day (drive ∷ drives) each = (let some = each.0.0.0 in omega arith, above_noughts day drives each.1)

drives_from : (day : ℕ) (drives : List travel.Row) → Each (λ row. day * 18_446_744_073_709_551_616 ≤ triple_key row) (map (travel_row day) drives)
drives_from day [] = tt
drives_from day (drive ∷ drives) = (omega arith, drives_from day drives)

drives_below : (day : ℕ) (drives : List travel.Row) → Each FitsDrive drives → Each (λ row. triple_key row < suc day * 18_446_744_073_709_551_616) (map (travel_row day) drives)
drives_below day [] each = tt
drives_below day (drive ∷ drives) each = (let low = each.0.0.1 in let also = each.0.1.1 in omega arith, drives_below day drives each.1)

travel_spans : (dated : TravelTable) → FitsTravel dated → IsSpan (travel_key dated) 18_446_744_073_709_551_616 (travel_rows dated)
travel_spans dated fits =
    let day = dated.from_day in
    record {
      numbered = (record { first = refl; second = refl; third = refl; second_low = omega arith; third_low = omega arith }, drives_numbered day dated.rows fits.drives);
      in_order = (above_noughts day dated.rows fits.drives, drives_in_order day dated.rows fits.drives fits.table.in_order);
      from = drives_from day ((0, 0, 0) ∷ dated.rows);
      below = (omega arith, drives_below day dated.rows fits.drives);
    }

travel_by_rows : (x y : TravelTable) → FitsTravel x → FitsTravel y → travel_rows x ≡ travel_rows y → x ≡ y
travel_by_rows x y one other same = table-told x y one.table.in_order other.table.in_order (alike (travel_rows x) (travel_rows y) same)

pub travel_keeps : (rows : List Row) → AreInOrder 3 rows → KeepsOrder travel_key travel_rows (FitsRows travel_rows FitsTravel) rows
travel_keeps =
    keeps_groups travel_key travel_rows (FitsRows travel_rows FitsTravel) BeginsTravel (λ dated fits. travel-once dated fits.0) (λ x y one other same. travel_by_rows x y one.0 other.0 same)
    18_446_744_073_709_551_616 (λ dated fits. travel_spans dated fits.0)

-- ---- how many drives a travel table has: it names at most 100 places

abbrev Named : List ℕ → travel.Row → Type 0
Named places drive = Contains places drive.0 × Contains places drive.1

-- the numbers of its two places among these, as one number
abbrev code : (places : List ℕ) (drive : travel.Row) → Named places drive → ℕ
code places drive named = named.0.0 * 100 + named.1.0

abbrev codes : (places : List ℕ) (drives : List travel.Row) → Each (Named places) drives → List ℕ
codes places [] each = []
codes places (drive ∷ drives) each = code places drive each.0 ∷ codes places drives each.1

codes_many : (places : List ℕ) (drives : List travel.Row) (each : Each (Named places) drives) → length (codes places drives each) ≡ length drives
codes_many places [] each = refl
codes_many places (drive ∷ drives) each = ap suc (codes_many places drives each.1)

same_place : (places : List ℕ) (a b : ℕ) (one : Contains places a) (other : Contains places b) → one.0 ≡ other.0 → a ≡ b
same_place places a b one other same = sym one.2 ∙ get_or_default places one.0 a b one.1 ∙ ap (λ k. get_or places k b) same ∙ other.2

module _ (places : List ℕ) (few : length places ≤ 100) where
  code_apart : (one other : travel.Row) (here : Named places one) (there : Named places other) → triple_key (travel_row 0 one) < triple_key (travel_row 0 other)
      → eqb (code places one here) (code places other there) ≡ false
  code_apart one other here there before = ne_eqb (code places one here) (code places other there) same
    where
      same : code places one here ≡ code places other there → ⊥
      same is =
          let low = here.1.1 in
          let also = there.1.1 in
          let first = same_place places one.0 other.0 here.0 there.0 (omega (arith, is, low, also, few)) in
          let second = same_place places one.1 other.1 here.1 there.1 (omega (arith, is, low, also, few)) in
          omega (arith, first, second, before)

  codes_apart : (one : travel.Row) (here : Named places one) (drives : List travel.Row) (each : Each (Named places) drives)
      → Each (λ drive. triple_key (travel_row 0 one) < triple_key (travel_row 0 drive)) drives → AllByRecursion (λ q. eqb (code places one here) q ≡ false) (codes places drives each)
  codes_apart one here [] each above = tt
  codes_apart one here (drive ∷ drives) each above = (code_apart one drive here each.0 above.0, codes_apart one here drives each.1 above.1)

  codes_distinct : (drives : List travel.Row) (each : Each (Named places) drives) → IsInOrder (λ drive. triple_key (travel_row 0 drive)) drives → IsDistinct eqb (codes places drives each)
  unfolding IsDistinct
  codes_distinct [] each order = tt
  codes_distinct (drive ∷ drives) each order = (codes_apart drive each.0 drives each.1 order.0, codes_distinct drives each.1 order.1)

  codes_low : (drives : List travel.Row) (each : Each (Named places) drives) (q : ℕ) → list_any (eqb q) (codes places drives each) ≡ true → q < 10_000
  codes_low [] each q has = absurd (cc)
  codes_low (drive ∷ drives) each q has =
      let low = each.0.0.1 in
      let also = each.0.1.1 in
      ⊎_elim (λ t. let same : q ≡ code places drive each.0 = grind (arith, nat_tests) in omega (arith, same, low, also, few)) (λ f. codes_low drives each.1 q (rw f at has))
      (cases_Bool (eqb q (code places drive each.0)))

each_of : {A : Type 0} (P : A → Type 0) (xs : List A) → All P xs → Each P xs
each_of P [] all = tt
each_of P (x ∷ xs) all = (all 0 x (omega arith), each_of P xs (λ k d low. all (suc k) d (omega arith)))

pub drives_few : (dated : TravelTable) → FitsTravel dated → FitsRows travel_rows FitsTravel dated
drives_few dated fits =
    let drives = dated.rows in
    let named = fits.table.few_places in
    let each = each_of (Named named.0) drives named.2 in
    let most = length-le_from_distinct_below (codes named.0 drives each) 10_000
    (codes_distinct named.0 named.1 drives each (drives_rise 0 drives fits.drives fits.table.in_order)) (codes_low named.0 named.1 drives each) in
    let long = codes_many named.0 drives each in
    (fits, let rows = rows-of-drives dated.from_day drives in omega (arith, most, long, rows))

-- so what holds of any travel table holds of one with few rows
pub few_told : {E : Type 0} (rows : List Row) (r : Result (Option TravelTable) E) → IfOk r (Reads travel_rows FitsTravel rows) → IfOk r (Reads travel_rows (FitsRows travel_rows FitsTravel) rows)
few_told rows (Ok (Some dated)) told = (told.0, drives_few dated told.1)
few_told rows (Ok None) none = λ dated fits. none dated fits.0
few_told rows (Err e) told = tt
