-- The facts behind a denial `no vehicle`: a refusal.
use Rattle.std.specs.Prelude.{ℕ, ◌<◌, List, All, AllPairs}
use Rattle.pt_desk_booking.specs.Planning.{OnDuty}
use Rattle.pt_insertion_search.specs.Insertion.{IsWithout}
use Rattle.pt_insertion_search.specs.declared.asked.Asked.{Asked}
use Rattle.pt_travel.specs.Chain.{Row}

-- the vehicles on duty on the day with their stops, the trip that they are asked for, and the rows of driving times
pub record Refusal : Type 0 where
  pub vehicles : List OnDuty
  pub asked : Asked
  pub rows : List Row

-- the vehicles are in order of rising number, and none has a stop of this trip
pub record AreWithout (trip : ℕ) (vehicles : List OnDuty) : Type 0 where
  pub rising : AllPairs (λ first second. first.vehicle.id < second.vehicle.id) vehicles
  pub new_trip : All (λ duty. IsWithout trip duty.stops) vehicles
