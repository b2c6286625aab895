-- Rows determine records that have several: plans and travel tables.
use borrow.Author.Tests.{eqb-true}
use Rattle.std.proofs.Common.{◌≡◌, inl, inr, ℕ, zero, suc, ◌+◌, ◌*◌, ◌<◌, ◌≤◌, Bool, true, List, [], ◌∷◌, length, map}
use Rattle.std.proofs.Common.{get_or, drop, refl, sym, ap, ap₂, subst, arith, mul-le-mul_right, suc-mul}
use Rattle.std.specs.Prelude.{IsPermutation, ◌==◌, ◌&&◌}
use Rattle.std.specs.List.{AllByRecursion}
use Rattle.std.proofs.lemmas.Bool.{and_parts}
use Rattle.std.proofs.lemmas.List.Sorted.{IsPermutation-map}
use Rattle.sqlite.specs.Order.{Row}
use Rattle.sqlite_trees.proofs.ListLemmas.{all-permutation}
use Rattle.pt_desk_rules.specs.StopKind.{StopKind}
use Rattle.pt_desk_rules.specs.StopKind.TheVariants.{Pickup, Drop}
use Rattle.pt_base_records.specs.Keys.{pair_key}
use Rattle.pt_base_records.specs.Records.{Each, IsInOrder}
use Rattle.pt_desk_scheduling.specs.Plan.{Plan}
use Rattle.pt_desk_scheduling.specs.declared.planned.PlannedStop.{PlannedStop}
use Rattle.pt_desk_rules.specs.Chain as travel
use Rattle.pt_desk_rules.specs.Table.{ComesBefore, Rises}
use Rattle.pt_tables_rows.specs.Rows.{stop_number, stop_rows_from, stop_rows, travel_row, travel_rows}
use Rattle.pt_desk_rules.specs.Travel.{TravelTable}
use Rattle.pt_tables_rows.proofs.SameRowsLists.{in_one_order, same_rest, steps-in_order}
use Rattle.pt_tables_rows.proofs.ColumnLemmas.{number_in}

-- ---- plans

-- a row of a plan has its key
pub stops-keyed : (from vehicle day : ℕ) (stops : List PlannedStop)
    → AllByRecursion (λ row. pair_key (number_in 0 row) (number_in 1 row) ≡ pair_key vehicle day)
    (stop_rows_from from vehicle day stops)
stops-keyed from vehicle day [] = tt
stops-keyed from vehicle day (stop ∷ stops) = (refl, stops-keyed (from + 1) vehicle day stops)

pub stops-some : (plan : Plan) → 0 < length plan.stops → 0 < length (stop_rows plan)
stops-some plan some = go 0 plan.stops some
  where
    go : (from : ℕ) (stops : List PlannedStop) → 0 < length stops
        → 0 < length (stop_rows_from from plan.vehicle plan.day stops)
    go from [] some = absurd (omega arith)
    go from (stop ∷ stops) some = omega arith

-- the places of the stops ascend
stops-above : (below from vehicle day : ℕ) (stops : List PlannedStop) → below < from
    → Each (λ row. below < number_in 2 row) (stop_rows_from from vehicle day stops)
stops-above below from vehicle day [] above = tt
stops-above below from vehicle day (stop ∷ stops) above =
    (above, stops-above below (from + 1) vehicle day stops (omega arith))

pub stops-in_order : (from vehicle day : ℕ) (stops : List PlannedStop)
    → IsInOrder (number_in 2) (stop_rows_from from vehicle day stops)
stops-in_order from vehicle day [] = tt
stops-in_order from vehicle day (stop ∷ stops) =
    (stops-above from (from + 1) vehicle day stops (omega arith), stops-in_order (from + 1) vehicle day stops)

pub kind-told : (one other : StopKind) → stop_number one ≡ stop_number other → one ≡ other
kind-told Pickup Pickup same = refl
kind-told Drop Drop same = refl
kind-told one other same = absurd (omega arith)

stop-told : (one other : PlannedStop) (from vehicle day bus date : ℕ) (stops later : List PlannedStop)
    → stop_rows_from from vehicle day (one ∷ stops) ≡ stop_rows_from from bus date (other ∷ later) → one ≡ other
stop-told one other from vehicle day bus date stops later same =
    let kind = kind-told one.kind other.kind (ap (λ (rows : List Row). number_in 4 (get_or rows 0 [])) same) in
    λ i. record { trip = number_in 3 (get_or (same i) 0 []); kind = kind i }

stops-told : (from vehicle day bus date : ℕ) (one other : List PlannedStop)
    → stop_rows_from from vehicle day one ≡ stop_rows_from from bus date other → one ≡ other
stops-told from vehicle day bus date [] [] same = refl
stops-told from vehicle day bus date [] (t ∷ other) same = absurd (cc)
stops-told from vehicle day bus date (s ∷ one) [] same = absurd (cc)
stops-told from vehicle day bus date (s ∷ one) (t ∷ other) same =
    ap₂ ◌∷◌ (stop-told s t from vehicle day bus date one other same)
    (stops-told (from + 1) vehicle day bus date one other (ap (λ (rows : List Row). drop 1 rows) same))

-- the first row has the vehicle and the day
first-told : (one other : Plan) → 0 < length one.stops → 0 < length other.stops → stop_rows one ≡ stop_rows other
    → (one.vehicle ≡ other.vehicle) × (one.day ≡ other.day)
first-told one other some others_some same = go one.stops other.stops some others_some same
  where
    go : (stops later : List PlannedStop) → 0 < length stops → 0 < length later
        → stop_rows_from 0 one.vehicle one.day stops ≡ stop_rows_from 0 other.vehicle other.day later
        → (one.vehicle ≡ other.vehicle) × (one.day ≡ other.day)
    go [] later some others_some same = absurd (omega arith)
    go (s ∷ stops) [] some others_some same = absurd (omega arith)
    go (s ∷ stops) (t ∷ later) some others_some same = (
      ap (λ (rows : List Row). number_in 0 (get_or rows 0 [])) same,
      ap (λ (rows : List Row). number_in 1 (get_or rows 0 [])) same,
    )

pub plan-told : (one other : Plan) → 0 < length one.stops → 0 < length other.stops
    → IsPermutation (stop_rows one) (stop_rows other) → one ≡ other
plan-told one other some others_some alike =
    let same = in_one_order (number_in 2) (stop_rows one) (stop_rows other)
    (stops-in_order 0 one.vehicle one.day one.stops) (stops-in_order 0 other.vehicle other.day other.stops) alike in
    let first = first-told one other some others_some same in
    let stops = stops-told 0 one.vehicle one.day other.vehicle other.day one.stops other.stops same in
    λ i. record { vehicle = first.0 i; day = first.1 i; stops = stops i }

-- ---- travel tables

-- a row of a travel table by its columns
abbrev pub drive_in : Row → travel.Row
drive_in row = (number_in 1 row, number_in 2 row, number_in 3 row)

pub drives-back : (from_day : ℕ) (rows : List travel.Row) → map drive_in (map (travel_row from_day) rows) ≡ rows
drives-back from_day [] = refl
drives-back from_day (row ∷ rows) = ap (λ (l : List travel.Row). row ∷ l) (drives-back from_day rows)

-- a row of zeros
abbrev is_all_zero : travel.Row → Bool
is_all_zero row = row.0 == 0 && row.1 == 0 && row.2 == 0

all_zero-only : (row : travel.Row) → is_all_zero row ≡ true → row ≡ (0, 0, 0)
all_zero-only row is =
    let parts = and_parts _ _ is in
    let first = and_parts _ _ parts.0 in
    let a : row.0 ≡ 0 = eqb-true row.0 0 first.0 in
    let b : row.1 ≡ 0 = eqb-true row.1 0 first.1 in
    let c : row.2 ≡ 0 = eqb-true row.2 0 parts.1 in
    λ i. (a i, b i, c i)

-- a number above the second places of the rows
abbrev past : List travel.Row → ℕ
past [] = 1
past (row ∷ rows) = row.1 + past rows

some-past : (rows : List travel.Row) → 0 < past rows
some-past [] = omega arith
some-past (row ∷ rows) = let some = some-past rows in omega arith

all-past : (n : ℕ) (rows : List travel.Row) → past rows ≤ n → (k : ℕ) → k < length rows
    → (get_or rows k (0, 0, 0)).1 < n
all-past n [] most k inside = absurd (omega arith)
all-past n (row ∷ rows) most zero inside = let some = some-past rows in omega arith
all-past n (row ∷ rows) most (suc k) inside = all-past n rows (omega arith) k (omega arith)

-- the places of a row as one number
abbrev scaled : ℕ → travel.Row → ℕ
scaled n row = row.0 * n + row.1

scaled-rises : (n : ℕ) (row other : travel.Row) → row.1 < n → ComesBefore row other → scaled n row < scaled n other
scaled-rises n row other inside (inl lower) =
    let more : suc row.0 * n ≤ other.0 * n = mul-le-mul_right n lower in
    let one = suc-mul row.0 n in
    omega arith
scaled-rises n row other inside (inr later) =
    let first : row.0 * n ≡ other.0 * n = ap (λ (k : ℕ). k * n) later.0 in
    let second = later.1 in
    omega arith

rises-in_order : (n : ℕ) (rows : List travel.Row) → past rows ≤ n → Rises rows → IsInOrder (scaled n) rows
rises-in_order n rows most rises =
    steps-in_order (scaled n) (0, 0, 0) rows
    (λ k inside. scaled-rises n (get_or rows k (0, 0, 0)) (get_or rows (k + 1) (0, 0, 0))
    (all-past n rows most k (omega arith)) (rises k inside))

drives-told : (one other : List travel.Row) → Rises one → Rises other → IsPermutation one other → one ≡ other
drives-told one other ones others alike =
    let n : ℕ = past one + past other in
    in_one_order (scaled n) one other (rises-in_order n one (omega arith) ones)
    (rises-in_order n other (omega arith) others) alike

-- a row of a travel table has its day
pub drives-keyed : (from_day : ℕ) (rows : List travel.Row)
    → AllByRecursion (λ row. number_in 0 row ≡ from_day) (map (travel_row from_day) rows)
drives-keyed from_day [] = tt
drives-keyed from_day (row ∷ rows) = (refl, drives-keyed from_day rows)

pub table-told : (one other : TravelTable) → Rises one.rows → Rises other.rows
    → IsPermutation (travel_rows one) (travel_rows other) → one ≡ other
table-told one other ones others alike =
    let zeros : travel.Row = (0, 0, 0) in
    let days = all-permutation (λ row. number_in 0 row ≡ one.from_day) (travel_rows one) (travel_rows other) alike
    (drives-keyed one.from_day (zeros ∷ one.rows)) in
    let day : one.from_day ≡ other.from_day = sym days.0 in
    let drives = IsPermutation-map drive_in (travel_rows one) (travel_rows other) alike in
    let from_one = subst (λ l. IsPermutation l (map drive_in (travel_rows other)))
    (drives-back one.from_day (zeros ∷ one.rows)) drives in
    let both = subst (IsPermutation (zeros ∷ one.rows))
    (drives-back other.from_day (zeros ∷ other.rows)) from_one in
    let rows = drives-told one.rows other.rows ones others
    (same_rest is_all_zero zeros refl all_zero-only one.rows other.rows both) in
    λ i. record { from_day = day i; rows = rows i }
