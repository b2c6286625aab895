-- What the statements on the stops of vehicles mean.
use denote.Enum.Bare.{same_true, sameb}
use Rattle.std.proofs.Common.{◌≡◌, ◌≢◌, ℕ, ◌+◌, ◌-◌, ◌==◌, ◌&&◌, ◌<◌, ◌≤◌, ◌^◌, ℤ, pos, zero, suc, Bool, true, false}
use Rattle.std.proofs.Common.{not, cond, List, [], ◌∷◌, drop, drop-cons, add-one, ◌++◌, length, map, filter, flat_map}
use Rattle.std.proofs.Common.{Ok, get_or, take, refl, sym, ap, ap₂, subst, ◌∙◌, arith}
use Rattle.std.specs.Prelude.{nat_le}
use Rattle.std.specs.List.{AllByRecursion}
use Rattle.std.proofs.lemmas.Bool.Decides.{nat_tests}
use Rattle.std.proofs.lemmas.List.{take_more, take-take, drop-take, drop-drop, drop_all}
use Rattle.std.proofs.lemmas.List.Elements.{filter-append}
use Rattle.sqlite.specs.declared.types.Value.TheVariants.{Null}
use Rattle.sqlite.specs.Cast.{cast_row}
use Rattle.sqlite.specs.Collation.TheVariants.{Binary}
use Rattle.sqlite.specs.Edit.{numbered, with_rowid}
use Rattle.sqlite.specs.Effect.{Database}
use Rattle.sqlite.specs.Listing.{understood}
use Rattle.sqlite.specs.Order.{Row}
use Rattle.sqlite.specs.Rowids.TheVariants.{Chosen}
use Rattle.sqlite.specs.State.{State, Executes}
use Rattle.sqlite.specs.Term.{lit, col, op2}
use Rattle.pt_tables_rows.specs.BinaryOp.TheVariants.{Compare}
use Rattle.pt_tables_rows.specs.CompareOp.TheVariants.{Eq, Ge}
use Rattle.pt_tables_rows.specs.Compute.{everything}
use Rattle.sqlite_keyed.proofs.ListLemmas.{filter_all}
use Rattle.pt_base_records.specs.Keys.{pair_key}
use Rattle.pt_base_records.specs.Records.{Each}
use Rattle.pt_desk_scheduling.proofs.PlanLemmas.{found_key}
use Rattle.pt_desk_scheduling.proofs.RouteLemmas.{Each-found}
use Rattle.pt_feasible.specs.contracts.stop.StopKind.{the_type}
use Rattle.pt_desk_scheduling.specs.Plan.{Plan, plan_key}
use Rattle.pt_desk_scheduling.specs.declared.planned.PlannedStop.{PlannedStop}
use Rattle.pt_tables_writing.specs.Grouped.{Adds, KeepsStops}
use Rattle.pt_tables_rows.specs.Rows.{stop_row, number_value, stop_rows, stop_rows_from}
use Rattle.pt_tables_rows.specs.Schema.{desk_schema, stops_table}
use Rattle.pt_tables_rows.specs.Tables.{IsStoredPlan}
use Rattle.pt_tables_writing.specs.Writes.{Replaces, Rewrites, Takes}
use Rattle.pt_tables_writing.specs.declared.grouped.stops.TheConstants.{DELETE_LATER_STOPS, DELETE_STOPS, INSERT_STOP, INSERT_TWO_STOPS}
use Rattle.pt_tables_writing.proofs.AppendLemmas.{adds, behind_all}
use Rattle.pt_tables_writing.proofs.CastLemmas.{cast_null, cast_int}
use Rattle.pt_tables_writing.proofs.DeleteLemmas.{IsDelete, has_columns, has_columns_from, removes}
use Rattle.pt_tables_writing.proofs.InsertLemmas.{IsInsert}
use Rattle.pt_tables_writing.proofs.KeyLemmas.{from-told, pair-told}
use Rattle.pt_tables_writing.proofs.RecordRows.{replaces, takes}
use Rattle.pt_tables_rows.proofs.SameRows.{day-word}

module _ (vehicle day : ℕ) (place : ℤ) (stop : PlannedStop) where
  abbrev row : Row
  row = stop_row vehicle day place stop

  stop_cast : cast_row stops_table (Null ∷ row) ≡ Null ∷ row
  stop_cast = simp (cast_null, cast_int)

  stop_insert : IsInsert INSERT_STOP.now row stops_table (behind_all (row ∷ []))
  unfolding understood everything desk_schema
  stop_insert = record {
    at = 9;
    terms = lit Null ∷ col 0 0 ∷ col 0 1 ∷ col 0 2 ∷ col 0 3 ∷ col 0 4 ∷ [];
    width = 6;
    source = (Null ∷ row) ∷ [];
    there = refl;
    is = refl;
    plain = (refl, refl);
    uncounted = refl;
    values = refl;
    news = λ rows. ap (λ r. with_rowid Chosen rows r ∷ []) stop_cast;
    quiet = λ rows. refl;
  }

  pub stop-added : (old new : State) (count : ℕ) → old.now.schema ≡ desk_schema → Executes INSERT_STOP.now row old new (Ok count) → Adds stops_table (row ∷ []) old.now new.now
  stop-added = adds stops_table (row ∷ []) (λ id. refl, tt) INSERT_STOP.now row stop_insert

-- two stops, the second at a place of its own
module _ (vehicle day : ℕ) (place next : ℤ) (stop later : PlannedStop) where
  abbrev pub two_rows : List Row
  two_rows = stop_row vehicle day place stop ∷ stop_row vehicle day next later ∷ []

  abbrev pub two_params : Row
  two_params = stop_row vehicle day place stop ++ drop 2 (stop_row vehicle day next later)

  two_insert : IsInsert INSERT_TWO_STOPS.now two_params stops_table (behind_all two_rows)
  unfolding understood everything desk_schema
  two_insert = record {
    at = 9;
    terms = lit Null ∷ col 0 0 ∷ col 0 1 ∷ col 0 2 ∷ col 0 3 ∷ col 0 4 ∷ lit Null ∷ col 0 0 ∷ col 0 1 ∷ col 0 5 ∷ col 0 6 ∷ col 0 7 ∷ [];
    width = 6;
    source = map (λ r. Null ∷ r) two_rows;
    there = refl;
    is = refl;
    plain = (refl, refl);
    uncounted = refl;
    values = refl;
    news = λ rows. ap₂ (λ r s. numbered Chosen rows (r ∷ s ∷ [])) (stop_cast vehicle day place stop) (stop_cast vehicle day next later);
    quiet = λ rows. refl;
  }

  pub two-added : (old new : State) (count : ℕ) → old.now.schema ≡ desk_schema → Executes INSERT_TWO_STOPS.now two_params old new (Ok count) → Adds stops_table two_rows old.now new.now
  two-added = adds stops_table two_rows (λ id. refl, (λ id. refl, tt)) INSERT_TWO_STOPS.now two_params two_insert

stops_delete : (vehicle day : ℕ) → IsDelete DELETE_STOPS.now (number_value vehicle ∷ number_value day ∷ []) stops_table (has_columns (number_value vehicle ∷ number_value day ∷ []))
unfolding understood everything desk_schema
stops_delete vehicle day = record {
  at = 9;
  test = op2 (Compare Eq Binary) (col 1 1) (col 0 0) ∷ op2 (Compare Eq Binary) (col 1 2) (col 0 1) ∷ [];
  there = refl;
  is = refl;
  plain = (refl, refl);
  says = λ r. refl;
}

-- the rows of a plan are not those of another
told : (gone : Plan) → gone.day < 2 ^ 32 → (vehicle day : ℕ) → day < 2 ^ 32 → (place : ℕ) (stops : List PlannedStop)
    → AllByRecursion (λ r. has_columns (number_value gone.vehicle ∷ number_value gone.day ∷ []) r ≡ (pair_key vehicle day == plan_key gone)) (stop_rows_from place vehicle day stops)
told gone low vehicle day fits place [] = tt
told gone low vehicle day fits place (stop ∷ later) = (
  pair-told vehicle day gone.vehicle gone.day (drop 2 (stop_row vehicle day (pos place) stop)) fits low,
  told gone
      low vehicle day fits (place + 1) later,
)

pub plan-taken : (gone : Plan) → gone.day < 2 ^ 32 → (old new : State) (count : ℕ) → old.now.schema ≡ desk_schema
    → Executes DELETE_STOPS.now (number_value gone.vehicle ∷ number_value gone.day ∷ []) old new (Ok count) → Takes stops_table plan_key IsStoredPlan stop_rows gone old.now new.now
plan-taken gone low old new count has h =
    let params = number_value gone.vehicle ∷ number_value gone.day ∷ [] in
    takes plan_key stop_rows stops_table IsStoredPlan gone (has_columns params)
    (λ x fits. told gone low x.vehicle x.day (day-word x.day fits.0.day) 0 x.stops) old.now new.now
    (removes DELETE_STOPS.now params stops_table (has_columns params) (stops_delete gone.vehicle gone.day) old new count has h)

-- ---- stops that two plans share

and_first : (a b : Bool) → (a && b) ≡ true → a ≡ true
and_first true b is = refl
and_first false b is = absurd (let no = is in cc)

and_second : (a b : Bool) → (a && b) ≡ true → b ≡ true
and_second true b is = is
and_second false b is = absurd (let no = is in cc)

same_number : (a b : ℕ) → (a == b) ≡ true → a ≡ b
same_number a b is = grind (arith, nat_tests)

-- the test of a stop's trip and kind shows whether it is the same
pub same-stop : (a b : PlannedStop) → (((a.trip == b.trip) && true) && sameb the_type a.kind b.kind) ≡ true → a ≡ b
same-stop a b is =
    let first = and_first ((a.trip == b.trip) && true) (sameb the_type a.kind b.kind) is in
    let trip : a.trip ≡ b.trip = same_number a.trip b.trip (and_first (a.trip == b.trip) true first) in
    let kind : a.kind ≡ b.kind = same_true the_type tt a.kind b.kind (and_second ((a.trip == b.trip) && true) (sameb the_type a.kind b.kind) is) in
    ap₂ (λ t k. record { trip = t; kind = k }) trip kind

-- one more
pub shared-more : (place : ℕ) (one other : List PlannedStop) (a b : PlannedStop) → place < length one → place < length other → a ≡ get_or one place a → b ≡ get_or other place b
    → a ≡ b → take place one ≡ take place other → take (place + 1) one ≡ take (place + 1) other
shared-more place one other a b low other_low a_is b_is same so_far =
    take_more one place a low ∙ ap₂ (λ l s. l ++ s ∷ []) so_far (sym a_is ∙ same ∙ b_is) ∙ sym (take_more other place b other_low)

-- ---- stops from a place on

next_stop : (place : ℕ) (stops : List PlannedStop) (stop : PlannedStop) → place < length stops → stop ≡ get_or stops place stop → drop place stops ≡ stop ∷ drop (place + 1) stops
next_stop place stops stop low is =
    drop-cons stops place stop low ∙ ap (λ s. s ∷ drop (suc place) stops) (sym is) ∙ ap (λ n. stop ∷ drop n stops) (sym (add-one place))

-- those before a place, and those from there on
stops-split : (place count vehicle day : ℕ) (stops : List PlannedStop)
    → stop_rows_from place vehicle day stops ≡ stop_rows_from place vehicle day (take count stops) ++ stop_rows_from (place + count) vehicle day (drop count stops)
stops-split place zero vehicle day stops = ap (λ n. stop_rows_from n vehicle day stops) (omega arith)
stops-split place (suc count) vehicle day [] = refl
stops-split place (suc count) vehicle day (stop ∷ later) =
    ap (λ l. stop_row vehicle day (pos place) stop ∷ l)
    (stops-split (place + 1) count vehicle day later
    ∙ ap (λ n. stop_rows_from (place + 1) vehicle day (take count later) ++ stop_rows_from n vehicle day (drop count later)) (omega arith))

-- two stops more, or the last one
pub stops-more : (first place vehicle day : ℕ) (stops : List PlannedStop) → first ≤ place
    → stop_rows_from first vehicle day (take (place - first) (drop first stops)) ++ stop_rows_from place vehicle day (take 2 (drop place stops))
    ≡ stop_rows_from first vehicle day (take (place + 2 - first) (drop first stops))
stops-more first place vehicle day stops low =
    let count = place - first in
    let rest = drop first stops in
    let along : first + count ≡ place = omega (arith, low) in
    let all : take (count + 2) rest ≡ take (place + 2 - first) rest = ap (λ n. take n rest) (omega (arith, low)) in
    let front : take count (take (count + 2) rest) ≡ take count rest = take-take count (count + 2) rest (omega arith) in
    let back : drop count (take (count + 2) rest) ≡ take 2 (drop place stops) =
    drop-take count 2 rest ∙ ap (take 2) (drop-drop count first stops ∙ ap (λ n. drop n stops) along) in
    sym (stops-split first count vehicle day (take (count + 2) rest)
    ∙ ap₂ ◌++◌ (ap (stop_rows_from first vehicle day) front) (ap₂ (λ n l. stop_rows_from n vehicle day l) along back))
    ∙ ap (stop_rows_from first vehicle day) all

-- the last stop
pub last-row : (place vehicle day : ℕ) (stops : List PlannedStop) (stop : PlannedStop) → place + 1 ≡ length stops → stop ≡ get_or stops place stop
    → stop_rows_from place vehicle day (take 2 (drop place stops)) ≡ stop_row vehicle day (pos place) stop ∷ []
last-row place vehicle day stops stop last is =
    ap (λ l. stop_rows_from place vehicle day (take 2 l))
    (next_stop place stops stop (omega (arith, last)) is ∙ ap (λ l. stop ∷ l) (drop_all (place + 1) stops (omega (arith, last))))

-- a stop and the next
pub next-rows : (place vehicle day : ℕ) (stops : List PlannedStop) (stop later : PlannedStop) → place + 1 < length stops → stop ≡ get_or stops place stop
    → later ≡ get_or stops (place + 1) later
    → stop_rows_from place vehicle day (take 2 (drop place stops)) ≡ two_rows vehicle day (pos place) (pos (place + 1)) stop later
next-rows place vehicle day stops stop later low is next_is =
    ap (λ l. stop_rows_from place vehicle day (take 2 l))
    (next_stop place stops stop (omega (arith, low)) is ∙ ap (λ l. stop ∷ l) (next_stop (place + 1) stops later low next_is))

later_delete : (vehicle day first : ℕ)
    → IsDelete DELETE_LATER_STOPS.now (number_value vehicle ∷ number_value day ∷ number_value first ∷ []) stops_table
    (has_columns_from (number_value vehicle ∷ number_value day ∷ []) (number_value first))
unfolding understood everything desk_schema
later_delete vehicle day first = record {
  at = 9;
  test = op2 (Compare Eq Binary) (col 1 1) (col 0 0) ∷ op2 (Compare Eq Binary) (col 1 2) (col 0 1) ∷ op2 (Compare Ge Binary) (col 1 3) (col 0 2) ∷ [];
  there = refl;
  is = refl;
  plain = (refl, refl);
  says = λ r. refl;
}

none_taken : (n : ℕ) → take {A = PlannedStop} n [] ≡ []
none_taken zero = refl
none_taken (suc n) = refl

and_false : (a b : Bool) → a ≡ false → (a && b) ≡ false
and_false true b is = absurd (cc)
and_false false b is = refl

apart_test : (a b : ℕ) → a ≢ b → (a == b) ≡ false
apart_test a b apart = grind (arith, nat_tests)

same_test : (a : ℕ) → (a == a) ≡ true
same_test a = grind (arith, nat_tests)

module _ (plan : Plan) (low : plan.day < 2 ^ 32) (first : ℕ) where
  abbrev is_later : Row → Bool
  is_later = has_columns_from (number_value plan.vehicle ∷ number_value plan.day ∷ []) (number_value first)

  -- its own stops are found by their places
  own : (place : ℕ) (stop : PlannedStop) → is_later (stop_row plan.vehicle plan.day (pos place) stop) ≡ nat_le first place
  own place stop =
      from-told plan.vehicle plan.day place plan.vehicle plan.day first (drop 3 (stop_row plan.vehicle plan.day (pos place) stop)) low low
      ∙ ap (λ b. b && nat_le first place) (same_test (plan_key plan))

  own_kept : (place : ℕ) (stops : List PlannedStop)
      → filter (λ r. not (is_later r)) (stop_rows_from place plan.vehicle plan.day stops) ≡ stop_rows_from place plan.vehicle plan.day (take (first - place) stops)
  own_kept place [] = ap (λ l. stop_rows_from place plan.vehicle plan.day l) (sym (none_taken (first - place)))
  own_kept place (stop ∷ later) =
      ap (λ b. cond (not b) (stop_row plan.vehicle plan.day (pos place) stop ∷ rest) rest) (own place stop)
      ∙ go (nat_le first place) refl (own_kept (place + 1) later)
    where
      rest : List Row
      rest = filter (λ r. not (is_later r)) (stop_rows_from (place + 1) plan.vehicle plan.day later)

      go : (b : Bool) → nat_le first place ≡ b → rest ≡ stop_rows_from (place + 1) plan.vehicle plan.day (take (first - (place + 1)) later)
          → cond (not b) (stop_row plan.vehicle plan.day (pos place) stop ∷ rest) rest ≡ stop_rows_from place plan.vehicle plan.day (take (first - place) (stop ∷ later))
      go true is left =
          let none : first - place ≡ 0 = grind (arith, nat_tests) in
          let later_none : first - (place + 1) ≡ 0 = grind (arith, nat_tests) in
          left ∙ ap (λ n. stop_rows_from (place + 1) plan.vehicle plan.day (take n later)) later_none
          ∙ sym (ap (λ n. stop_rows_from place plan.vehicle plan.day (take n (stop ∷ later))) none)
      go false is left =
          let more : first - place ≡ suc (first - (place + 1)) = grind (arith, nat_tests) in
          ap (λ l. stop_row plan.vehicle plan.day (pos place) stop ∷ l) left
          ∙ sym (ap (λ n. stop_rows_from place plan.vehicle plan.day (take n (stop ∷ later))) more)

  -- and those of other plans are none of them
  other : (vehicle day : ℕ) → day < 2 ^ 32 → pair_key vehicle day ≢ plan_key plan → (place : ℕ) (stops : List PlannedStop)
      → AllByRecursion (λ r. not (is_later r) ≡ true) (stop_rows_from place vehicle day stops)
  other vehicle day fits apart place [] = tt
  other vehicle day fits apart place (stop ∷ later) = (
    ap not (from-told vehicle day place plan.vehicle plan.day first (drop 3 (stop_row vehicle day (pos place) stop)) fits low
        ∙ and_false (pair_key vehicle day == plan_key plan) (nat_le first place) (apart_test (pair_key vehicle day) (plan_key plan) apart)),
    other vehicle day fits apart (place + 1) later,
  )

  others_kept : (others : List Plan) → Each (λ x. plan_key x ≢ plan_key plan) others → Each IsStoredPlan others
      → filter (λ r. not (is_later r)) (flat_map stop_rows others) ≡ flat_map stop_rows others
  others_kept [] apart fits = refl
  others_kept (x ∷ xs) apart fits =
      filter-append (λ r. not (is_later r)) (stop_rows x) (flat_map stop_rows xs)
      ∙ ap₂ ◌++◌ (filter_all (λ r. not (is_later r)) (stop_rows x) (other x.vehicle x.day (day-word x.day fits.0.0.day) apart.0 0 x.stops)) (others_kept xs apart.1 fits.1)

  pub stops-kept : (old new : State) (count : ℕ) → old.now.schema ≡ desk_schema
      → Executes DELETE_LATER_STOPS.now (number_value plan.vehicle ∷ number_value plan.day ∷ number_value first ∷ []) old new (Ok count)
      → KeepsStops plan first old.now new.now
  stops-kept old new count has h stops others apart fits =
      let params = number_value plan.vehicle ∷ number_value plan.day ∷ number_value first ∷ [] in
      let mine = stop_rows_from 0 plan.vehicle plan.day stops in
      subst (λ l. Rewrites stops_table (mine ++ flat_map stop_rows others) l old.now new.now)
      (filter-append (λ r. not (is_later r)) mine (flat_map stop_rows others)
      ∙ ap₂ ◌++◌ (own_kept 0 stops ∙ ap (λ n. stop_rows_from 0 plan.vehicle plan.day (take n stops)) (omega arith)) (others_kept others apart fits))
      (removes DELETE_LATER_STOPS.now params stops_table is_later (later_delete plan.vehicle plan.day first) old new count has h (mine ++ flat_map stop_rows others))

same_vehicle : (v d w e : ℕ) → d < 2 ^ 32 → e < 2 ^ 32 → pair_key v d ≡ pair_key w e → v ≡ w
same_vehicle v d w e low other_low same = omega (arith, low, other_low, same)

same_day : (v d w e : ℕ) → d < 2 ^ 32 → e < 2 ^ 32 → pair_key v d ≡ pair_key w e → d ≡ e
same_day v d w e low other_low same = omega (arith, low, other_low, same)

pub plan-replaced : (before plan : Plan) (n : ℕ) → take n before.stops ≡ take n plan.stops → (a b c : Database) → KeepsStops plan n a b
    → Adds stops_table (stop_rows_from n plan.vehicle plan.day (drop n plan.stops)) b c → Replaces stops_table plan_key IsStoredPlan stop_rows before plan a c
plan-replaced before plan n same a b c kept added fit xs order fits there =
    let key : plan_key before ≡ plan_key plan = found_key plan_key (plan_key plan) before xs there in
    let own = Each-found IsStoredPlan plan_key (plan_key plan) before xs fits there in
    let vehicle : before.vehicle ≡ plan.vehicle = same_vehicle before.vehicle before.day plan.vehicle plan.day (day-word before.day own.0.day) (day-word plan.day fit.0.day) key in
    let day : before.day ≡ plan.day = same_day before.vehicle before.day plan.vehicle plan.day (day-word before.day own.0.day) (day-word plan.day fit.0.day) key in
    let rows : stop_rows before ≡ stop_rows_from 0 plan.vehicle plan.day before.stops = ap₂ (λ v d. stop_rows_from 0 v d before.stops) vehicle day in
    let front = stop_rows_from 0 plan.vehicle plan.day (take n before.stops) in
    replaces plan_key stop_rows stops_table IsStoredPlan before plan front (stop_rows_from n plan.vehicle plan.day (drop n plan.stops)) a b c
    (stops-split 0 n plan.vehicle plan.day plan.stops
    ∙ ap (λ m. stop_rows_from 0 plan.vehicle plan.day (take n plan.stops) ++ stop_rows_from m plan.vehicle plan.day (drop n plan.stops)) (omega arith)
    ∙ ap (λ l. stop_rows_from 0 plan.vehicle plan.day l ++ stop_rows_from n plan.vehicle plan.day (drop n plan.stops)) (sym same))
    (λ others apart all. subst (λ l. Rewrites stops_table (l ++ flat_map stop_rows others) (front ++ flat_map stop_rows others) a b) (sym rows) (kept before.stops others apart all))
    added xs order fits key there
