-- The target of a request's path, by the desk's routes as `matchit` finds them.
use Rattle.std.specs.Prelude.{◌==◌, ℕ, List, [], ◌∷◌, codes, map, slice_get, Option, Some, None, Result, Ok, Err}
use Rattle.std.specs.Prelude.{IsUtf8}
use Rattle.std.specs.Prelude.{option_and_then, option_map, if◌then◌else◌}
use Rattle.std.specs.Char.{is_ascii}
use Rattle.std.specs.List.{before_first, list_all}
use Rattle.matchit.specs.Order.{placed}
use Rattle.matchit.specs.Params.{walk}
use Rattle.matchit.specs.Route.{Scan, parse_route}
use Rattle.matchit.specs.Router.{RouteOf, route_from}
use Rattle.matchit.specs.Rows.{RowsOf}
use Rattle.matchit.specs.Seek.{first}
use Rattle.matchit.specs.declared.error.InsertError.{InsertError}
use Rattle.pt_base_values.specs.SpelledDay.{day_from}
use Rattle.pt_desk_requests.specs.declared.request.Read.TheVariants as read
use Rattle.pt_http_request.specs.Numbers.{id_from, position_from}
use Rattle.pt_http_request.specs.declared.targets.Path.{Path}
use Rattle.pt_http_request.specs.declared.targets.Path.TheVariants as path
use Rattle.pt_http_request.specs.declared.targets.Target.{Target}
use Rattle.pt_http_request.specs.declared.targets.Target.TheVariants as target
use Rattle.pt_http_request.specs.declared.targets.WriteTarget.TheVariants as writes

-- the rows with one more route, unless the route has an error
abbrev pub with_route : Result Scan InsertError → Path → RowsOf (RouteOf Path) → RowsOf (RouteOf Path)
with_route (Ok scanned) value rows = placed (scanned.pattern, route_from scanned value) rows
with_route (Err error) value rows = rows

-- the rows with these routes added, in order
abbrev pub with_routes : List (List ℕ × Path) → RowsOf (RouteOf Path) → RowsOf (RouteOf Path)
with_routes [] rows = rows
with_routes (route ∷ later) rows = with_routes later (with_route (parse_route route.0) route.1 rows)

-- the paths of the desk, each with its route
abbrev pub desk_paths : List (List ℕ × Path)
desk_paths =
    (codes "/callers", path.Callers) ∷ (codes "/policy", path.Policy) ∷ (codes "/places", path.Places)
    ∷ (codes "/routes", path.Routes) ∷ (codes "/riders", path.Riders) ∷ (codes "/vehicles", path.Vehicles)
    ∷ (codes "/riders/{rider}/entries", path.Entries) ∷ (codes "/riders/{rider}/standing/{day}", path.Standing)
    ∷ (codes "/riders/{rider}/trips", path.RiderTrips) ∷ (codes "/trips", path.Trips)
    ∷ (codes "/trips/{trip}/change", path.Change) ∷ (codes "/trips/{trip}/cancel", path.Cancel)
    ∷ (codes "/trips/{trip}/outcome", path.Outcome) ∷ (codes "/riders/{rider}/letters/{entry}", path.Letter)
    ∷ (codes "/vehicles/{vehicle}/manifest/{day}", path.Manifest) ∷ (codes "/days/{day}/sheet", path.DaySheet)
    ∷ (codes "/days/{day}/trips.csv", path.Export) ∷ []

-- the routes of the desk
abbrev pub desk_routes : RowsOf (RouteOf Path)
desk_routes = with_routes desk_paths []

-- the parts of a path that the parameters of its route took, in order
abbrev pub parts_of : RouteOf Path → List ℕ → List (List ℕ)
parts_of route text = map (λ part. part.1) (walk route.pattern route.text text route.names 0 0)

-- each part is text
abbrev pub AreTexts : List (List ℕ × List ℕ) → Type 0
AreTexts [] = Unit {0}
AreTexts (part ∷ parts) = IsUtf8 part.1 × AreTexts parts

-- the number of a record, the position in a case file, or the day, that a part spells, if the part exists
abbrev pub id_in : Option (List ℕ) → Option ℕ
id_in part = option_and_then id_from part

abbrev pub position_in : Option (List ℕ) → Option ℕ
position_in part = option_and_then position_from part

abbrev pub day_in : Option (List ℕ) → Option ℕ
day_in part = option_and_then day_from part

-- the target of a route with these first two parts
abbrev pub target_from : Path → Option (List ℕ) → Option (List ℕ) → Option Target
target_from path.Callers one two = Some (target.Write writes.Callers)
target_from path.Policy one two = Some (target.Write writes.Policy)
target_from path.Places one two = Some (target.Write writes.Places)
target_from path.Routes one two = Some (target.Write writes.Routes)
target_from path.Riders one two = Some (target.Write writes.Riders)
target_from path.Vehicles one two = Some (target.Write writes.Vehicles)
target_from path.Entries one two = option_map (λ rider. target.Write (writes.Entries rider)) (id_in one)
target_from path.Standing one two =
    option_and_then (λ rider. option_map (λ day. target.Read (read.Standing rider day)) (day_in two)) (id_in one)
target_from path.RiderTrips one two = option_map (λ rider. target.Read (read.Trips rider)) (id_in one)
target_from path.Trips one two = Some (target.Write writes.Trips)
target_from path.Change one two = option_map (λ trip. target.Write (writes.Change trip)) (id_in one)
target_from path.Cancel one two = option_map (λ trip. target.Write (writes.Cancel trip)) (id_in one)
target_from path.Outcome one two = option_map (λ trip. target.Write (writes.Outcome trip)) (id_in one)
target_from path.Letter one two =
    option_and_then (λ rider. option_map (λ position. target.Read (read.Letter rider position)) (position_in two))
    (id_in one)
target_from path.Manifest one two =
    option_and_then (λ vehicle. option_map (λ day. target.Read (read.Manifest vehicle day)) (day_in two)) (id_in one)
target_from path.DaySheet one two = option_map (λ day. target.Read (read.DaySheet day)) (day_in one)
target_from path.Export one two = option_map (λ day. target.Read (read.Export day)) (day_in one)

-- the target of a path by the route that it takes
abbrev pub target_by : List ℕ → RouteOf Path → Option Target
target_by text route = target_from route.value (slice_get (parts_of route text) 0) (slice_get (parts_of route text) 1)

-- the target of a path, which must be ASCII
abbrev pub target_in : RowsOf (RouteOf Path) → List ℕ → Option Target
target_in routes text = if list_all is_ascii text then option_and_then (target_by text) (first routes text) else None

-- the path of a request's target: the bytes before the first `?`
abbrev pub path_of : List ℕ → List ℕ
path_of whole = before_first (λ byte. byte == 63) whole
