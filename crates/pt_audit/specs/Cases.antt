-- The places at which a trip may be put into the routes of a day, one case for each.
use Rattle.std.specs.Prelude.{ℕ, zero, suc, ◌+◌, ◌-◌, List, [], ◌∷◌, length, map}
use Rattle.std.specs.List.{flat_map}
use Rattle.pt_base_values.specs.declared.vehicle.Vehicle.{Vehicle}
use Rattle.pt_feasible.specs.declared.stop.Stop.{Stop}
use Rattle.pt_feasible.specs.Route.{stops_of}
use Rattle.pt_insertion_search.specs.declared.asked.Asked.{Asked}
use Rattle.pt_insertion_search.specs.declared.duty.Duty.{Duty}
use Rattle.pt_insertion_search.specs.Insertion.{with_trip}

-- a vehicle, a place of the pickup and one of the drop, and the route with the trip put in there
pub record Case : Type 0 where
  pub vehicle : Vehicle
  pub pickup : ℕ
  pub drop : ℕ
  pub stops : List Stop

-- the pickup after i old stops and the drop after j
abbrev pub case_at : Asked → Vehicle → List Stop → ℕ → ℕ → Case
case_at asked vehicle stops i j = record { vehicle = vehicle; pickup = i; drop = j; stops = with_trip asked i j stops }

-- `count` successive numbers, from the first on
abbrev pub numbers_from : ℕ → ℕ → List ℕ
numbers_from first zero = []
numbers_from first (suc count) = first ∷ numbers_from (first + 1) count

-- the cases of one pickup, by their drops
abbrev pub cases_of_pickup : Asked → Vehicle → List Stop → ℕ → List Case
cases_of_pickup asked vehicle stops i = map (case_at asked vehicle stops i) (numbers_from i (length stops + 1 - i))

-- all cases of a vehicle, by their pickups and then by their drops
abbrev pub cases_of_vehicle : Asked → Vehicle → List Stop → List Case
cases_of_vehicle asked vehicle stops =
    flat_map (cases_of_pickup asked vehicle stops) (numbers_from 0 (length stops + 1))

-- all cases of a day, vehicle by vehicle
abbrev pub cases_of_day : Asked → List Duty → List Case
cases_of_day asked duties = flat_map (λ duty. cases_of_vehicle asked duty.vehicle.now (stops_of duty.route.now)) duties
