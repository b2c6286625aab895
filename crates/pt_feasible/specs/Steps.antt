-- The steps of a route from one visit to the next.
use Rattle.std.specs.Prelude.{ℕ, ◌+◌, ◌<◌, ◌≤◌, List, length, Option, slice_index}
use Rattle.pt_base_values.specs.declared.vehicle.Vehicle.{Vehicle}
use Rattle.pt_feasible.specs.declared.stop.Stop.{Stop}
use Rattle.pt_feasible.specs.ServiceTimes.{TimesFit}

-- in all service times that fit, at least these minutes pass from each visit to the next
abbrev pub AreSteps : (ℕ → ℕ → Option ℕ) → Vehicle → List Stop → List ℕ → Type 0
AreSteps minutes vehicle stops steps = (b : List ℕ) (k : ℕ) → TimesFit minutes vehicle stops b →
    k < length stops + 1 → slice_index b k + slice_index steps k ≤ slice_index b (k + 1)
