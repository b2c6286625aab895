-- The loads aboard never exceed the vehicle's room, in seats and in wheelchair places.
use Rattle.std.specs.Prelude.{ℕ, ◌≤◌, List, [], ◌∷◌, length, take, filter}
use Rattle.pt_base_values.specs.Load.{no_load, load_sum, load_difference, FitsWithin}
use Rattle.pt_base_values.specs.declared.load.Load.{Load}
use Rattle.pt_base_values.specs.declared.vehicle.Vehicle.{Vehicle}
use Rattle.pt_feasible.specs.declared.stop.Stop.{Stop}
use Rattle.pt_feasible.specs.Stop.{is_pickup, is_drop}

-- the sum of the loads of these stops
abbrev pub total_load : List Stop → Load
total_load [] = no_load
total_load (stop ∷ stops) = load_sum stop.load (total_load stops)

-- the load aboard after these stops: those picked up less those dropped
abbrev pub load_aboard : List Stop → Load
load_aboard stops = load_difference (total_load (filter is_pickup stops)) (total_load (filter is_drop stops))

-- after each stop the load aboard fits within the vehicle
abbrev pub LoadsFit : Vehicle → List Stop → Type 0
LoadsFit vehicle stops = (k : ℕ) → k ≤ length stops → FitsWithin (load_aboard (take k stops)) vehicle
