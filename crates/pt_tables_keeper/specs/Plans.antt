-- The known plans of a content, by their keys, and changes that keep each plan's vehicle.
use Rattle.std.specs.Prelude.{◌≡◌, ◌⊎◌, ℕ, List, [], ◌∷◌, ◌++◌, map, Option, None, Some}
use Rattle.pt_base_values.specs.declared.vehicle.Vehicle.{Vehicle}
use Rattle.pt_desk_rules.specs.State.{no_edit, replaces, versions_from}
use Rattle.pt_base_records.specs.Records.{Edit, IsInOrder, put, record_at}
use Rattle.pt_base_records.specs.declared.span.Span.{Span}
use Rattle.pt_desk_scheduling.specs.Plan.{Plan, plan_key}

-- the plan, if one was found, put among the others
abbrev pub plans_with : Option Plan → List Plan → List Plan
plans_with None plans = plans
plans_with (Some plan) plans = put plan_key plan plans

-- the stored plans with these keys, put among the others
abbrev pub plans_at : List Plan → List ℕ → List Plan → List Plan
plans_at there [] plans = plans
plans_at there (key ∷ keys) plans = plans_at there keys (plans_with (record_at plan_key key there) plans)

-- plans in the order of their keys, each of them one of these
pub record ArePlansOf (there plans : List Plan) : Type 0 where
  pub order : IsInOrder plan_key plans
  pub part : (k : ℕ) → (record_at plan_key k plans ≡ None) ⊎ (record_at plan_key k plans ≡ record_at plan_key k there)

-- the keys that an edit removes, the first of each span, and those that it puts
abbrev pub keys_of : Edit Plan → List ℕ
keys_of edit = map (λ span. span.from) edit.away ++ map plan_key edit.puts

-- a single key
abbrev pub IsOneKey : Span → Type 0
IsOneKey span = span.from ≡ span.to

-- vehicles stay as they are, or one version replaces those of its vehicle from its day on
abbrev pub IsFleetEdit : Edit Vehicle → Type 0
IsFleetEdit edit =
    (edit ≡ no_edit) ⊎ ((version : Vehicle) × (edit ≡ replaces (versions_from version.id version.from_day) version))
