-- Plans and travel tables, read back from their rows.
use Rattle.std.proofs.Common.{◌≡◌, ◌+◌, ◌++◌, ◌<◌, ◌≤◌, ◌^◌, zero, suc, ℕ, pos, List, [], ◌∷◌, length, map, take, drop, get_or, Option, None, Some, refl, sym, ap, ap₂, subst, ◌∙◌, arith}
use Rattle.std.specs.Prelude.{slice_get, MatchOption}
use Rattle.std.proofs.lemmas.List.{map-append, take_more}
use Rattle.sqlite.specs.Order.{Row}
use Rattle.pt_base_values.specs.Day.{IsDay}
use Rattle.pt_desk_rules.specs.Travel.{TravelTable}
use Rattle.pt_desk_rules.specs.StopKind.TheVariants.{Pickup}
use Rattle.pt_base_records.specs.Records.{Each}
use Rattle.pt_desk_scheduling.specs.Plan.{Plan}
use Rattle.pt_desk_scheduling.specs.declared.planned.PlannedStop.{PlannedStop}
use Rattle.pt_travel.specs.Chain as travel
use Rattle.pt_tables_reading.specs.Fitting as fitting
use Rattle.pt_tables_reading.specs.Fitting.{FitsStopAt, FitsDriveAt}
use Rattle.pt_tables_opening.specs.Gathered.{BeginsOnce, BeginsPlan, BeginsTravel, FitsRows}
use Rattle.pt_desk_rules.specs.Ranges.{FitsDrive, FitsStop, FitsTravel}
use Rattle.pt_tables_rows.specs.Rows.{stop_row, stop_rows, stop_rows_from, travel_row, travel_rows}
use Rattle.pt_tables_rows.specs.Tables.{IsStoredPlan}
use Rattle.pt_tables_reading.specs.declared.stops.StopAt.{StopAt}
use Rattle.pt_tables_opening.proofs.GatheredLemmas.{each_at}
use Rattle.pt_tables_rows.proofs.SameRowsGroups.{drive_in, drives-back}
use Rattle.pt_tables_rows.proofs.ColumnLemmas.{number_in}
use Rattle.pt_tables_rows.proofs.StopLemmas.{stop_rows-push}

-- the first row, where there is one
pub first-is : (rows : List Row) (row : Row) → slice_get rows 0 ≡ Some row → (0 < length rows) × (row ≡ get_or rows 0 row)
first-is [] row is = absurd (cc)
first-is (first ∷ rows) row is = (omega arith, cc)

pub first-none : (rows : List Row) → slice_get rows 0 ≡ None → length rows ≡ 0
first-none [] is = refl
first-none (first ∷ rows) is = absurd (cc)

pub where-none : {A : Type 0} (o : Option A) (P : Type 0) (Q : A → Type 0) → MatchOption o P Q → o ≡ None → P
where-none o P Q h is = subst (λ o. MatchOption o P Q) is h

pub where-some : {A : Type 0} (o : Option A) (P : Type 0) (Q : A → Type 0) → MatchOption o P Q → (x : A) → o ≡ Some x → Q x
where-some o P Q h x is = subst (λ o. MatchOption o P Q) is h

-- ---- plans

nobody : PlannedStop
nobody = record { trip = 0; kind = Pickup }

row-of-stop : (place vehicle day : ℕ) (stops : List PlannedStop) (k : ℕ) (row : Row) → k < length stops
    → get_or (stop_rows_from place vehicle day stops) k row ≡ stop_row vehicle day (pos (place + k)) (get_or stops k nobody)
row-of-stop place vehicle day [] k row low = absurd (omega arith)
row-of-stop place vehicle day (stop ∷ stops) zero row low = ap (λ n. stop_row vehicle day (pos n) stop) (omega arith)
row-of-stop place vehicle day (stop ∷ stops) (suc k) row low =
    row-of-stop (place + 1) vehicle day stops k row (omega arith) ∙ ap (λ n. stop_row vehicle day (pos n) (get_or stops k nobody)) (omega arith)

pub rows-of-stops : (place vehicle day : ℕ) (stops : List PlannedStop) → length (stop_rows_from place vehicle day stops) ≡ length stops
rows-of-stops place vehicle day [] = refl
rows-of-stops place vehicle day (stop ∷ stops) = ap suc (rows-of-stops (place + 1) vehicle day stops)

pub few_stops : (plan : Plan) → FitsRows stop_rows IsStoredPlan plan → length plan.stops ≤ 2 ^ 32
few_stops plan fits = subst (λ n. n ≤ 2 ^ 32) (rows-of-stops 0 plan.vehicle plan.day plan.stops) fits.1

-- no stops of a plan have the rows
abbrev pub NoStops : ℕ → ℕ → List Row → Type 0
NoStops vehicle day rows = (stops : List PlannedStop) → FitsRows stop_rows IsStoredPlan (record { vehicle = vehicle; day = day; stops = stops }) → stop_rows_from 0 vehicle day stops ≡ rows → ⊥

-- if no stop at this place has the row there, no stops have the rows
pub no-stops : (vehicle day : ℕ) (rows : List Row) (k : ℕ) (row : Row) → k < length rows → row ≡ get_or rows k row
    → ((stop : PlannedStop) → FitsStopAt (record { vehicle = vehicle; day = day; place = k; stop = stop }) → stop_row vehicle day (pos k) stop ≡ row → ⊥)
    → NoStops vehicle day rows
no-stops vehicle day rows k row low at none stops fits same =
    let long : length stops ≡ length rows = sym (rows-of-stops 0 vehicle day stops) ∙ ap length same in
    let inside : k < length stops = omega arith in
    let few : length stops ≤ 2 ^ 32 = few_stops (record { vehicle = vehicle; day = day; stops = stops }) fits in
    let stop = get_or stops k nobody in
    let there : get_or rows k row ≡ stop_row vehicle day (pos (0 + k)) stop = ap (λ l. get_or l k row) (sym same) ∙ row-of-stop 0 vehicle day stops k row inside in
    none stop (record { vehicle = fits.0.0.vehicle; day = fits.0.0.day; place = omega arith; trip = each_at FitsStop stops k nobody fits.0.0.stops inside })
    (ap (λ n. stop_row vehicle day (pos n) stop) (omega arith) ∙ sym there ∙ sym at)

-- one stop more
pub stops-next : (vehicle day : ℕ) (rows : List Row) (k : ℕ) (row : Row) → k < length rows → row ≡ get_or rows k row
    → (stops news : List PlannedStop) (stop : PlannedStop) → stop_row vehicle day (pos k) stop ≡ row → length stops ≡ k → news ≡ stops ++ stop ∷ []
    → stop_rows_from 0 vehicle day stops ≡ take k rows → stop_rows_from 0 vehicle day news ≡ take (k + 1) rows
stops-next vehicle day rows k row low at stops news stop told long is before =
    ap (stop_rows_from 0 vehicle day) is ∙ stop_rows-push 0 vehicle day stops stop
    ∙ ap₂ (λ l r. l ++ r ∷ []) before (ap (λ n. stop_row vehicle day (pos n) stop) (omega arith) ∙ told ∙ at)
    ∙ sym (take_more rows k row low)

-- a plan has a row
pub no-plan : (rows : List Row) → length rows ≡ 0 → (plan : Plan) → FitsRows stop_rows IsStoredPlan plan → stop_rows plan ≡ rows → ⊥
no-plan rows none plan fits same =
    let long : length plan.stops ≡ length rows = sym (rows-of-stops 0 plan.vehicle plan.day plan.stops) ∙ ap length same in
    let some = fits.0.1 in
    omega arith

pub no-first : (rows : List Row) (row : Row) → slice_get rows 0 ≡ Some row → ((at : StopAt) → FitsStopAt at → fitting.stop_row at ≡ row → ⊥)
    → (plan : Plan) → FitsRows stop_rows IsStoredPlan plan → stop_rows plan ≡ rows → ⊥
no-first rows row is none plan fits same =
    let first = first-is rows row is in
    no-stops plan.vehicle plan.day rows 0 row first.0 first.1
    (λ stop fit told. none (record { vehicle = plan.vehicle; day = plan.day; place = 0; stop = stop }) fit told) plan.stops fits same

-- the first row has the vehicle and the day
pub no-later : (rows : List Row) (row : Row) → slice_get rows 0 ≡ Some row → (at : StopAt) → fitting.stop_row at ≡ row
    → NoStops at.vehicle at.day rows
    → (plan : Plan) → FitsRows stop_rows IsStoredPlan plan → stop_rows plan ≡ rows → ⊥
no-later rows row is at told none plan fits same =
    let first = first-is rows row is in
    let long : length plan.stops ≡ length rows = sym (rows-of-stops 0 plan.vehicle plan.day plan.stops) ∙ ap length same in
    let low : 0 < length rows = first.0 in
    let there : stop_row plan.vehicle plan.day (pos (0 + 0)) (get_or plan.stops 0 nobody) ≡ fitting.stop_row at
    = sym (row-of-stop 0 plan.vehicle plan.day plan.stops 0 row (omega arith)) ∙ ap (λ l. get_or l 0 row) same ∙ sym first.1 ∙ sym told in
    let vehicle : at.vehicle ≡ plan.vehicle = sym (ap (number_in 0) there) in
    let day : at.day ≡ plan.day = sym (ap (number_in 1) there) in
    subst (λ v. NoStops v plan.day rows) vehicle (subst (λ d. NoStops at.vehicle d rows) day none) plan.stops fits same

later-stops : (from vehicle day : ℕ) (stops : List PlannedStop) → 0 < from → Each (λ row. BeginsPlan row → ⊥) (stop_rows_from from vehicle day stops)
later-stops from vehicle day [] some = tt
later-stops from vehicle day (stop ∷ stops) some =
    (λ begins. let none : from ≡ 0 = cc in omega arith, later-stops (from + 1) vehicle day stops (omega arith))

pub plan-once : (plan : Plan) → IsStoredPlan plan → BeginsOnce BeginsPlan (stop_rows plan)
plan-once plan fits = go plan.stops fits.1
  where
    go : (stops : List PlannedStop) → 0 < length stops → BeginsOnce BeginsPlan (stop_rows_from 0 plan.vehicle plan.day stops)
    go [] some = absurd (omega arith)
    go (stop ∷ stops) some = (refl, later-stops 1 plan.vehicle plan.day stops (omega arith))

-- ---- travel tables

row-of-drive : (from_day : ℕ) (drives : List travel.Row) (k : ℕ) (row : Row) → k < length drives
    → get_or (map (travel_row from_day) drives) k row ≡ travel_row from_day (get_or drives k (0, 0, 0))
row-of-drive from_day [] k row low = absurd (omega arith)
row-of-drive from_day (drive ∷ drives) zero row low = refl
row-of-drive from_day (drive ∷ drives) (suc k) row low = row-of-drive from_day drives k row (omega arith)

pub rows-of-drives : (from_day : ℕ) (drives : List travel.Row) → length (map (travel_row from_day) drives) ≡ length drives
rows-of-drives from_day [] = refl
rows-of-drives from_day (drive ∷ drives) = ap suc (rows-of-drives from_day drives)

abbrev pub NoDrives : ℕ → List Row → Type 0
NoDrives from_day rows = (drives : List travel.Row) → IsDay from_day → Each FitsDrive drives → map (travel_row from_day) drives ≡ rows → ⊥

pub no-drives : (from_day : ℕ) (rows : List Row) (k : ℕ) (row : Row) → k < length rows → row ≡ get_or rows k row
    → ((drive : travel.Row) → FitsDriveAt (record { from_day = from_day; drive = Some drive }) → travel_row from_day drive ≡ row → ⊥)
    → NoDrives from_day rows
no-drives from_day rows k row low at none drives day each same =
    let long : length drives ≡ length rows = sym (rows-of-drives from_day drives) ∙ ap length same in
    let inside : k < length drives = omega arith in
    none (get_or drives k (0, 0, 0)) (record { from_day = day; drive = each_at FitsDrive drives k (0, 0, 0) each inside })
    (sym (row-of-drive from_day drives k row inside) ∙ ap (λ l. get_or l k row) same ∙ sym at)

pub drives-next : (from_day : ℕ) (rows : List Row) (k : ℕ) (row : Row) → k < length rows → row ≡ get_or rows k row
    → (drives news : List travel.Row) (drive : travel.Row) → travel_row from_day drive ≡ row → news ≡ drives ++ drive ∷ []
    → map (travel_row from_day) drives ≡ take k rows → map (travel_row from_day) news ≡ take (k + 1) rows
drives-next from_day rows k row low at drives news drive told is before =
    ap (map (travel_row from_day)) is ∙ map-append (travel_row from_day) drives (drive ∷ [])
    ∙ ap₂ (λ l r. l ++ r ∷ []) before (told ∙ at) ∙ sym (take_more rows k row low)

-- the drives of a table are those that are read from its rows
pub same-drives : (dated : TravelTable) (rows : List Row) (from_day : ℕ) (drives : List travel.Row) → travel_rows dated ≡ rows
    → map (travel_row from_day) drives ≡ drop 1 rows → drives ≡ dated.rows
same-drives dated rows from_day drives same told =
    sym (drives-back from_day drives) ∙ ap (map drive_in) (told ∙ ap (drop 1) (sym same)) ∙ drives-back dated.from_day dated.rows

later-drives : (from_day : ℕ) (drives : List travel.Row) → Each FitsDrive drives → Each (λ row. BeginsTravel row → ⊥) (map (travel_row from_day) drives)
later-drives from_day [] each = tt
later-drives from_day (drive ∷ drives) each =
    (λ begins. let none : drive.0 ≡ 0 = cc in let some = each.0.0.0 in omega arith, later-drives from_day drives each.1)

pub travel-once : (dated : TravelTable) → FitsTravel dated → BeginsOnce BeginsTravel (travel_rows dated)
travel-once dated fits = (refl, later-drives dated.from_day dated.rows fits.drives)
