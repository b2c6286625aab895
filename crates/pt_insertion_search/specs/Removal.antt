-- A route's stops, loads and service times with a trip taken out, the others kept in their order.
use Rattle.std.specs.Prelude.{ℕ, ◌≤◌, Bool, not, ◌==◌, if◌then◌else◌, List, [], ◌∷◌, filter, Option}
use Rattle.pt_base_values.specs.Ranges.{last_minute}
use Rattle.pt_base_values.specs.declared.vehicle.Vehicle.{Vehicle}
use Rattle.pt_feasible.specs.declared.stop.Stop.{Stop}
use Rattle.pt_feasible.specs.Loads.{LoadsFit}
use Rattle.pt_feasible.specs.ServiceTimes.{TimesFit}
use Rattle.pt_insertion_search.specs.TravelTimes.{KeepsTriangleLaw}

-- the stop belongs to another trip
abbrev pub is_of_another : ℕ → Stop → Bool
is_of_another trip stop = not (stop.trip == trip)

-- the stops of all other trips
abbrev pub without_trip : ℕ → List Stop → List Stop
without_trip trip stops = filter (is_of_another trip) stops

-- of a list of times that begins with one for each of these stops: those at the stops of other trips, and all later
-- ones
abbrev pub times_at_others : ℕ → List Stop → List ℕ → List ℕ
times_at_others trip [] b = b
times_at_others trip (stop ∷ stops) [] = []
times_at_others trip (stop ∷ stops) (time ∷ b) =
    if is_of_another trip stop then time ∷ times_at_others trip stops b else times_at_others trip stops b

-- of the service times of a route, those at the depot and at the stops of other trips
abbrev pub times_without_trip : ℕ → List Stop → List ℕ → List ℕ
times_without_trip trip stops [] = []
times_without_trip trip stops (leaving ∷ b) = leaving ∷ times_at_others trip stops b

-- service times that fit a vehicle's route still fit at the stops that stay
abbrev pub KeepsFittingTimes : ℕ → List Stop → List Stop → Type 0
KeepsFittingTimes trip old new = (minutes : ℕ → ℕ → Option ℕ) (vehicle : Vehicle) (b : List ℕ) →
    KeepsTriangleLaw minutes → vehicle.closes ≤ last_minute →
    TimesFit minutes vehicle old b → TimesFit minutes vehicle new (times_without_trip trip old b)

-- loads that fit a vehicle still fit
abbrev pub KeepsFittingLoads : List Stop → List Stop → Type 0
KeepsFittingLoads old new = (vehicle : Vehicle) → LoadsFit vehicle old → LoadsFit vehicle new
