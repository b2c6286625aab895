-- The fixed route that a body spells. Fields are read in order, and the first bad field is the fault.
use Rattle.std.specs.Prelude.{ℕ, ◌-◌, nat_le, ◌==◌, ◌&&◌, ◌||◌, Bool, false, List, [], ◌∷◌, length, Option, Some, None}
use Rattle.std.specs.Prelude.{Result, Ok, Err, option_map, option_and_then, if◌then◌else◌, ⊤}
use Rattle.pt_base_values.specs.Ranges.{last_minute}
use Rattle.pt_base_values.specs.declared.place.Point.{Point}
use Rattle.pt_corridor.specs.Route.{FixedRoute, route_of}
use Rattle.serde_json.specs.Data.{Data, Items, no_items, item}
use Rattle.serde_json.specs.Find.{get, as_array, as_number, as_u64}
use Rattle.pt_http_request.specs.Fields.{truth_at, id_at, within, number_within, needed, ◌>>=◌}
use Rattle.pt_http_request.specs.Names.{field_name}
use Rattle.pt_http_request.specs.declared.field_name.FieldName.{FieldName}
use Rattle.pt_http_request.specs.declared.field_name.FieldName.TheVariants as field
use Rattle.pt_http_request.specs.Places.{coordinate_from}

-- the values of a list
abbrev pub values_in : Items → List Data
values_in no_items = []
values_in (item value values) = value ∷ values_in values

abbrev pub values_of : Data → Option (List Data)
values_of value = option_map values_in (as_array value)

-- the results of all values; None if one of them has none
abbrev pub each : {A : Type 0} → (Data → Option A) → List Data → Option (List A)
each from [] = Some []
each from (value ∷ values) =
    option_and_then (λ first. option_map (λ rest. first ∷ rest) (each from values)) (from value)

-- the point of these two coordinates
abbrev pub point_of : List Data → Option Point
point_of (east ∷ north ∷ []) =
    option_and_then (λ x. option_map (λ y. record { x = x; y = y }) (coordinate_from north)) (coordinate_from east)
point_of _ = None

-- the point that a pair `[x, y]` spells
abbrev pub point_from : Data → Option Point
point_from value = option_and_then point_of (values_of value)

-- the points, if they are 2 to 200
abbrev pub enough : List Point → Option (List Point)
enough points = if nat_le 2 (length points) && nat_le (length points) 200 then Some points else None

-- the 2 to 200 points that a body lists
abbrev pub points_at : Data → Option (List Point)
points_at body =
    option_and_then enough (option_and_then (each point_from) (option_and_then values_of (get (field_name
    field.Points) body)))

-- the days since Monday of the weekday with this number: 1 is Monday, 7 is Sunday
abbrev pub weekday_from : Data → Option ℕ
weekday_from value =
    option_map (λ number. number - 1) (option_and_then (within 1 7) (option_and_then as_u64 (as_number value)))

-- whether the day is in the list
abbrev pub is_among : List ℕ → ℕ → Bool
is_among [] day = false
is_among (first ∷ days) day = first == day || is_among days day

-- the set of these days, as a mark for each weekday from Monday on
abbrev pub set_of : List ℕ → List Bool
set_of days =
    is_among days 0 ∷ is_among days 1 ∷ is_among days 2 ∷ is_among days 3 ∷ is_among days 4 ∷ is_among days 5 ∷
    is_among days 6 ∷ []

-- the set of the weekdays that a body lists; the order is free, the list may be empty, and a day may come twice
abbrev pub days_at : Data → Option (List Bool)
days_at body =
    option_map set_of (option_and_then (each weekday_from) (option_and_then values_of (get (field_name field.Days)
    body)))

-- the first minute is not after the last
abbrev pub ordered : ℕ → ℕ → Result ⊤ FieldName
ordered first last = if nat_le first last then Ok tt else Err field.First

-- the fixed route that a body spells: id, width, points, accessible, days, first, last
abbrev pub route_in : Data → Result FixedRoute FieldName
route_in body = do
  id ← id_at field.Id body
  width ← number_within field.Width 3_960 7_920 body
  points ← needed (points_at body) field.Points
  accessible ← truth_at field.Accessible body
  days ← needed (days_at body) field.Days
  first ← number_within field.First 0 last_minute body
  last ← number_within field.Last 0 last_minute body
  hours ← ordered first last
  Ok (route_of id width points accessible days first last)
