-- Planned routes, by their stops and by their vehicles.
use Rattle.std.specs.Prelude.{ℕ, ◌≤◌, ◌^◌, IsTrue, if◌then◌else◌, List, [], ◌∷◌, length, map, Option, None, Some}
use Rattle.pt_base_values.specs.declared.vehicle.Vehicle.{Vehicle}
use Rattle.pt_desk_rules.specs.Fleet.{has_version}
use Rattle.pt_desk_scheduling.specs.Plan.{Plan}
use Rattle.pt_tables_reading.specs.declared.stops.StopAt.{StopAt}

-- the plan of these stops, if there are any; the first stop gives its vehicle and its day
abbrev pub plan_by_stops : List StopAt → Option Plan
plan_by_stops [] = None
plan_by_stops (first ∷ later) =
    Some (record { vehicle = first.vehicle; day = first.day; stops = map (λ at. at.stop) (first ∷ later) })

-- the place of each of its stops is a 32-bit number
abbrev pub HasFewStops : Plan → Type 0
HasFewStops plan = length plan.stops ≤ 2 ^ 32

-- some version of its vehicle is among these
abbrev pub HasVersionAmong : List Vehicle → Plan → Type 0
HasVersionAmong vehicles plan = IsTrue (has_version plan.vehicle vehicles)

-- the numbers of the vehicles, each once, where its last version is
abbrev pub vehicle_ids : List Vehicle → List ℕ
vehicle_ids [] = []
vehicle_ids (version ∷ later) =
    if has_version version.id later then vehicle_ids later else version.id ∷ vehicle_ids later
