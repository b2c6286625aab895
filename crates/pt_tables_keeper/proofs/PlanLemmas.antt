-- The plans that are known of a content by their keys, and the vehicles that carry them after a change.
use Rattle.std.proofs.Common.{◌≡◌, ◌++◌, ◌<◌, ◌&&◌, ◌==◌, ◌⊎◌, inl, inr, ℕ, IsTrue, List, [], ◌∷◌, filter, map, Option, None, Some, true, false, Bor, refl, sym, ap, subst, ◌∙◌, arith}
use Rattle.std.specs.Prelude.{is_some, nat_le}
use Rattle.std.specs.Option.{option_copied, option_to_list}
use Rattle.std.proofs.lemmas.Bool.Decides.{nat_tests}
use Rattle.std.proofs.lemmas.Option.{same_Some}
use Rattle.pt_base_values.specs.declared.vehicle.Vehicle.{Vehicle}
use Rattle.pt_desk_rules.specs.Fleet.{has_version}
use Rattle.pt_desk_rules.specs.Parts as part
use Rattle.pt_desk_rules.specs.Sound.{HasFirstDay}
use Rattle.pt_desk_rules.specs.State.{State, applied, vehicle_key}
use Rattle.pt_desk_rules.specs.declared.change.Change.{Change}
use Rattle.pt_desk_rules.proofs.FleetLemmas.{version_stays}
use Rattle.pt_desk_rules.proofs.RangeLemmas.{each-edited}
use Rattle.pt_base_records.specs.Records.{Each, Edit, IsInOrder, edited, put, record_at, within}
use Rattle.pt_base_records.specs.declared.span.Span.{Span}
use Rattle.pt_base_records.proofs.OrderLemmas.{compared, Each-weaker, IsInOrder-put, record_at-above, record_at-here, record_at-past}
use Rattle.pt_base_records.proofs.OrderLemmas.{record_at-put_other, record_at-put_same}
use Rattle.pt_base_records.proofs.RecordLemmas.{put_over, put_past}
use Rattle.pt_base_records.proofs.TableLemmas.{same_or_other}
use Rattle.pt_desk_scheduling.specs.Plan.{Plan, plan_key}
use Rattle.pt_desk_scheduling.proofs.PlanLemmas.{found_key}
use Rattle.pt_desk_spelling.specs.Ranges.{IsVehicle}
use Rattle.pt_tables_asking.specs.Plans.{HasVersionAmong}
use Rattle.pt_tables_asking.proofs.StopLemmas.{filter_found}
use Rattle.pt_tables_rows.specs.Tables.{IsWellFormed}
use Rattle.pt_tables_writing.specs.Groups.{KnowsEdited, KnowsReplaced, KnowsTaken}
use Rattle.pt_tables_keeper.specs.Plans.{ArePlansOf, IsOneKey, keys_of, plans_at, plans_with}
use Rattle.pt_tables_keeper.specs.Writable.{IsWritable}

-- a record that is there is put where it is
put_there : {A : Type 0} (key : A → ℕ) (one : A) (xs : List A) → IsInOrder key xs → record_at key (key one) xs ≡ Some one → put key one xs ≡ xs
put_there key one [] order found = absurd (cc)
put_there key one (x ∷ xs) order found = elim (compared (key x) (key one)) [
  | inl lt ↦
      put_past key one x xs lt
      ∙ ap (λ l. x ∷ l) (put_there key one xs order.1 (sym (record_at-past key (key one) x xs (λ same. absurd (omega (arith, lt, same)))) ∙ found))
  | inr (inl is) ↦
      put_over key one x xs is ∙ ap (λ y. y ∷ xs) (sym (same_Some x one (sym (record_at-here key (key one) x xs is) ∙ found)))
  | inr (inr gt) ↦
      let above : Each (λ y. key one < key y) xs = Each-weaker (λ y. key x < key y) (λ y. key one < key y) (λ y more. omega (arith, gt, more)) xs order.0 in
      absurd (let none = sym (record_at-above key (key one) (x ∷ xs) (gt, above)) ∙ found in cc)
]

-- ---- the plans of some keys

module _ (there : List Plan) where
  -- the known plan with this key is the stored one
  abbrev Knows : ℕ → List Plan → Type 0
  Knows k known = record_at plan_key k known ≡ record_at plan_key k there

  -- for each key the known plan is the stored one, or none is known
  abbrev IsPart : List Plan → Type 0
  IsPart known = (k : ℕ) → (record_at plan_key k known ≡ None) ⊎ Knows k known

  put_knows : (k j : ℕ) (plan : Plan) (known : List Plan) → record_at plan_key k there ≡ Some plan → plan_key plan ≡ j → Knows j (put plan_key plan known)
  put_knows k j plan known is own =
      let key : plan_key plan ≡ k = found_key plan_key k plan there is in
      subst (λ n. record_at plan_key n (put plan_key plan known) ≡ record_at plan_key n there) own
      (record_at-put_same plan_key plan known ∙ sym is ∙ ap (λ n. record_at plan_key n there) (sym key))

  put_leaves : (j : ℕ) (plan : Plan) (known : List Plan) → (plan_key plan ≡ j → ⊥) → Knows j known → Knows j (put plan_key plan known)
  put_leaves j plan known other knows = record_at-put_other plan_key j plan known other ∙ knows

  module _ (k : ℕ) (known : List Plan) where
    part_by : (found : Option Plan) → record_at plan_key k there ≡ found → IsPart known → IsPart (plans_with found known)
    part_by None is part = part
    part_by (Some plan) is part = λ j. elim (same_or_other (plan_key plan) j) [
      | inl own ↦ inr (put_knows k j plan known is own)
      | inr other ↦ elim (part j) [
        | inl none ↦ inl (record_at-put_other plan_key j plan known other ∙ none)
        | inr knows ↦ inr (put_leaves j plan known other knows)
      ]
    ]

    stays_by : (found : Option Plan) → record_at plan_key k there ≡ found → (j : ℕ) → Knows j known → Knows j (plans_with found known)
    stays_by None is j knows = knows
    stays_by (Some plan) is j knows = elim (same_or_other (plan_key plan) j) [
      | inl own ↦ put_knows k j plan known is own
      | inr other ↦ put_leaves j plan known other knows
    ]

    own_by : (found : Option Plan) → record_at plan_key k there ≡ found → IsPart known → Knows k (plans_with found known)
    own_by None is part = elim (part k) [ inl none ↦ none ∙ sym is | inr knows ↦ knows ]
    own_by (Some plan) is part = put_knows k k plan known is (found_key plan_key k plan there is)

  all_part : (keys : List ℕ) (known : List Plan) → IsPart known → IsPart (plans_at there keys known)
  all_part [] known part = part
  all_part (k ∷ keys) known part = all_part keys (plans_with (record_at plan_key k there) known) (part_by k known (record_at plan_key k there) refl part)

  all_stay : (keys : List ℕ) (known : List Plan) (j : ℕ) → Knows j known → Knows j (plans_at there keys known)
  all_stay [] known j knows = knows
  all_stay (k ∷ keys) known j knows = all_stay keys (plans_with (record_at plan_key k there) known) j (stays_by k known (record_at plan_key k there) refl j knows)

  all_known : (keys : List ℕ) (known : List Plan) → IsPart known → Each (λ k. Knows k (plans_at there keys known)) keys
  all_known [] known part = tt
  all_known (k ∷ keys) known part =
      let next = plans_with (record_at plan_key k there) known in
      (all_stay keys next k (own_by k known (record_at plan_key k there) refl part), all_known keys next (part_by k known (record_at plan_key k there) refl part))

  with_order : (found : Option Plan) (known : List Plan) → IsInOrder plan_key known → IsInOrder plan_key (plans_with found known)
  with_order None known order = order
  with_order (Some plan) known order = IsInOrder-put plan_key plan known order

  all_order : (keys : List ℕ) (known : List Plan) → IsInOrder plan_key known → IsInOrder plan_key (plans_at there keys known)
  all_order [] known order = order
  all_order (k ∷ keys) known order =
      all_order keys (plans_with (record_at plan_key k there) known) (with_order (record_at plan_key k there) known order)

  -- the stored plan of a key beside others
  pub still_plans : (k : ℕ) (known : List Plan) → ArePlansOf there known → ArePlansOf there (plans_with (record_at plan_key k there) known)
  still_plans k known are = record {
    order = with_order (record_at plan_key k there) known are.order;
    part = part_by k known (record_at plan_key k there) refl are.part;
  }

  -- the stored plans of some keys
  pub plans_are : (keys : List ℕ) → ArePlansOf there (plans_at there keys [])
  plans_are keys = record { order = all_order keys [] tt; part = all_part keys [] (λ k. inl refl) }

  -- a plan that is known is there already
  pub known_already : (k : ℕ) (known : List Plan) (plan : Plan) → ArePlansOf there known → record_at plan_key k known ≡ Some plan
      → known ≡ plans_with (record_at plan_key k there) known
  known_already k known plan are found =
      let own : plan_key plan ≡ k = found_key plan_key k plan known found in
      let here : record_at plan_key k there ≡ Some plan = elim (are.part k) [
        | inl none ↦ absurd (let both = sym none ∙ found in cc)
        | inr same ↦ sym same ∙ found
      ] in
      sym (ap (λ o. plans_with o known) here
      ∙ put_there plan_key plan known are.order (subst (λ (n : ℕ). record_at plan_key n known ≡ Some plan) (sym own) found))

copied_some : {A : Type 0} (o : Option (Bor A)) → is_some (option_copied o) ≡ is_some o
copied_some None = refl
copied_some (Some x) = refl

-- a plan that was looked for and found
pub found_already : (there known : List Plan) (k : ℕ) (o : Option (Bor Plan)) → ArePlansOf there known → option_copied o ≡ record_at plan_key k known → is_some o ≡ true
    → known ≡ plans_with (record_at plan_key k there) known
found_already there known k o are same some =
    elim (record_at plan_key k known) as (λ found. record_at plan_key k known ≡ found → known ≡ plans_with (record_at plan_key k there) known) [
      | None ↦ λ is. absurd (let no : is_some o ≡ false = sym (copied_some o) ∙ ap (λ (p : Option Plan). is_some p) (same ∙ is) in let both = sym some ∙ no in cc)
      | Some plan ↦ λ is. known_already there k known plan are is
    ] refl

-- ---- what an edit asks for

one_key : (n k : ℕ) → (nat_le k n && nat_le n k) ≡ (n == k)
one_key n k = grind (arith, nat_tests)

within_one : (span : Span) → IsOneKey span → (plans : List Plan) → IsInOrder plan_key plans → within plan_key span plans ≡ option_to_list (record_at plan_key span.from plans)
within_one span one plans order =
    (λ i. filter (λ plan. (ap (λ to. nat_le span.from (plan_key plan) && nat_le (plan_key plan) to) (sym one) ∙ one_key (plan_key plan) span.from) i) plans)
    ∙ filter_found plan_key span.from plans order

taken_known : (there known : List Plan) → IsInOrder plan_key there → IsInOrder plan_key known → (spans : List Span) (later : List ℕ) → Each IsOneKey spans
    → Each (λ k. record_at plan_key k known ≡ record_at plan_key k there) (map (λ (span : Span). span.from) spans ++ later) → KnowsTaken plan_key spans known there
taken_known there known order rises [] later one each = tt
taken_known there known order rises (span ∷ spans) later one each = (
  within_one span one.0 known rises ∙ ap option_to_list each.0 ∙ sym (within_one span one.0 there order),
  taken_known there known order rises spans later one.1 each.1,
)

replaced_known : (there known : List Plan) → ((k : ℕ) → (record_at plan_key k known ≡ None) ⊎ (record_at plan_key k known ≡ record_at plan_key k there)) → (puts : List Plan)
    → KnowsReplaced plan_key puts known there
replaced_known there known part [] = tt
replaced_known there known part (new ∷ puts) = (part (plan_key new), replaced_known there known part puts)

-- the plans of its keys are all that an edit asks for
pub knows_edited : (edit : Edit Plan) (there known : List Plan) → IsInOrder plan_key there → Each IsOneKey edit.away → known ≡ plans_at there (keys_of edit) [] → KnowsEdited plan_key edit known there
knows_edited edit there known order one is =
    let none : (k : ℕ) → (record_at plan_key k [] ≡ None) ⊎ (record_at plan_key k [] ≡ record_at plan_key k there) = λ k. inl refl in
    subst (λ l. KnowsEdited plan_key edit l there) (sym is) (record {
      taken = taken_known there (plans_at there (keys_of edit) []) order (all_order there (keys_of edit) [] tt) edit.away (map plan_key edit.puts) one (all_known there (keys_of edit) [] none);
      replaced = replaced_known there (plans_at there (keys_of edit) []) (all_part there (keys_of edit) [] none) edit.puts;
    })

-- keys after others
pub plans_then : (there : List Plan) (one other : List ℕ) (plans : List Plan) → plans_at there (one ++ other) plans ≡ plans_at there other (plans_at there one plans)
plans_then there [] other plans = refl
plans_then there (k ∷ one) other plans = plans_then there one other (plans_with (record_at plan_key k there) plans)

-- ---- vehicles

module _ (change : Change) (s : State) (readable : IsWellFormed s) (may : IsWritable s.vehicles change) where
  first_days : (vehicles : List Vehicle) → Each IsVehicle vehicles → Each HasFirstDay vehicles
  first_days vehicles each = Each-weaker IsVehicle HasFirstDay (λ version fits. fits.from_day) vehicles each

  still_there : (id : ℕ) → IsTrue (has_version id s.vehicles) → IsTrue (has_version id (applied change s).vehicles)
  still_there id there = elim may.fleet [
    | inl none ↦ subst (λ e. IsTrue (has_version id (edited vehicle_key e s.vehicles))) (sym none) there
    | inr one ↦
        let version = one.0 in
        let fits = subst (λ (e : Edit Vehicle). Each IsVehicle e.puts) one.1 (may.told.ranges.parts part.vehicles) in
        subst (λ e. IsTrue (has_version id (edited vehicle_key e s.vehicles))) (sym one.1)
        (version_stays version id s.vehicles fits.0.from_day (first_days s.vehicles (readable.ranges.parts part.vehicles)) there)
  ]

  carried_still : (plans : List Plan) → Each (HasVersionAmong s.vehicles) plans → Each (HasVersionAmong (applied change s).vehicles) plans
  carried_still plans each = Each-weaker (HasVersionAmong s.vehicles) (HasVersionAmong (applied change s).vehicles) (λ plan. still_there plan.vehicle) plans each

  -- after the change the vehicle of each plan is there
  pub carried_after : Each (HasVersionAmong s.vehicles) s.planned → Each (HasVersionAmong (applied change s).vehicles) (applied change s).planned
  carried_after each =
      each-edited (HasVersionAmong (applied change s).vehicles) plan_key change.planned s.planned (carried_still change.planned.puts may.plans_put) (carried_still s.planned each)
