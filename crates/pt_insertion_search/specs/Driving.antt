-- The driving minutes of a route: the driving times from each visit to the next, from the depot and back to it.
use Rattle.std.specs.Prelude.{◌≡◌, ℕ, ◌+◌, ◌-◌, List, [], ◌∷◌, ◌++◌, map, Option, Some, slice_get, unwrap_or}
use Rattle.pt_base_values.specs.declared.vehicle.Vehicle.{Vehicle}
use Rattle.pt_feasible.specs.declared.stop.Stop.{Stop}
use Rattle.pt_feasible.specs.declared.visit.Visit.{Visit}
use Rattle.pt_feasible.specs.Visit.{visits}

-- the minutes from a place through these places in turn; a drive counts 0 if there is no way
unfoldable pub driving_through : (ℕ → ℕ → Option ℕ) → ℕ → List ℕ → ℕ
driving_through minutes from [] = 0
driving_through minutes from (place ∷ places) =
    unwrap_or (minutes from place) 0 + driving_through minutes place places

-- the places of these stops, and the depot at the end
abbrev pub places_to_depot : Vehicle → List Stop → List ℕ
places_to_depot vehicle stops = map (λ stop. stop.place) stops ++ vehicle.depot ∷ []

-- from the depot to each stop in turn, and back to the depot
abbrev pub driving : (ℕ → ℕ → Option ℕ) → Vehicle → List Stop → ℕ
driving minutes vehicle stops = driving_through minutes vehicle.depot (places_to_depot vehicle stops)

-- the minutes of a drive; 0 if there is no way
abbrev pub leg : (ℕ → ℕ → Option ℕ) → ℕ → ℕ → ℕ
leg minutes from to = unwrap_or (minutes from to) 0

-- the minutes that the way over a place takes more than the way without it
abbrev pub detour : (ℕ → ℕ → Option ℕ) → (from place to : ℕ) → ℕ
detour minutes from place to = leg minutes from place + leg minutes place to - leg minutes from to

-- the drives from the k-th visit to the next one take this many minutes more by way of this place
abbrev pub IsDetour : (ℕ → ℕ → Option ℕ) → Vehicle → List Stop → (k place more : ℕ) → Type 0
IsDetour minutes vehicle stops k place more = (here next : Visit) →
    slice_get (visits vehicle stops) k ≡ Some here → slice_get (visits vehicle stops) (k + 1) ≡ Some next →
    more ≡ detour minutes here.place place next.place
