-- The list of a route's visits, place by place.
use Rattle.std.proofs.Common.{◌≡◌, ℕ, ◌+◌, zero, suc, List, [], ◌∷◌, ◌++◌, length, map, Some, slice_get, arith, refl}
use Rattle.std.proofs.lemmas.Grind.{common_steps}
use Rattle.std.proofs.lemmas.Option.{slice_get-map}
use Rattle.pt_base_values.specs.declared.vehicle.Vehicle.{Vehicle}
use Rattle.pt_feasible.specs.declared.stop.Stop.{Stop}
use Rattle.pt_feasible.specs.Visit.{visits, depot_visit, stop_visit}

-- an element of a list stays where it is when something is appended
pub slice_get-append : {A : Type 0} (xs ys : List A) (k : ℕ) (x : A) → slice_get xs k ≡ Some x → slice_get (xs ++ ys) k ≡ Some x
slice_get-append [] ys k x here = cc
slice_get-append (w ∷ xs) ys zero x here = here
slice_get-append (w ∷ xs) ys (suc k) x here = slice_get-append xs ys k x here

-- how many visits there are
pub length-visits : (vehicle : Vehicle) (stops : List Stop) → length (visits vehicle stops) ≡ length stops + 2
length-visits vehicle stops = grind (arith, common_steps)

-- the visits between the two to the depot are those to the stops
pub visits-stop : (vehicle : Vehicle) (stops : List Stop) (k : ℕ) (stop : Stop) → slice_get stops k ≡ Some stop → slice_get (visits vehicle stops) (suc k) ≡ Some (stop_visit stop)
visits-stop vehicle stops k stop here =
    slice_get-append (map stop_visit stops) (depot_visit vehicle ∷ []) k (stop_visit stop) (rw slice_get-map (rw here refl))
