-- Latest times, one visit back.
use Rattle.std.proofs.Common.{◌≡◌, ℕ, ◌+◌, ◌<◌, ◌≤◌, List, Option, Some, length, slice_get, slice_index, slice_set, arith}
use Rattle.std.proofs.lemmas.Grind.{elements}
use Rattle.std.proofs.lemmas.List.{get_or_past}
use Rattle.pt_base_values.specs.declared.vehicle.Vehicle.{Vehicle}
use Rattle.pt_feasible.specs.declared.stop.Stop.{Stop}
use Rattle.pt_feasible.specs.declared.visit.Visit.{Visit}
use Rattle.pt_feasible.specs.ServiceTimes.{TimesFit}
use Rattle.pt_feasible.specs.Steps.{AreSteps}
use Rattle.pt_feasible.specs.Visit.{visits}

-- from a visit on, no times that fit are later than these, where they keep the steps
abbrev pub IsLatestFrom : Vehicle → List Stop → List ℕ → List ℕ → ℕ → Type 0
IsLatestFrom vehicle stops steps latest k = (minutes : ℕ → ℕ → Option ℕ) (b : List ℕ) →
    AreSteps minutes vehicle stops steps → TimesFit minutes vehicle stops b →
    (m : ℕ) → k ≤ m → slice_index b m ≤ slice_index latest m

-- one place of a list is set
set_lower : (latest b : List ℕ) (k m bound : ℕ) → k < length latest → (k < m → slice_index b m ≤ slice_index latest m) →
    slice_index b k ≤ bound → k ≤ m → slice_index b m ≤ slice_index (slice_set latest k bound) m
set_lower latest b k m bound inside after here from = grind (arith, elements)

-- one visit more
pub latest_more : (vehicle : Vehicle) (stops : List Stop) (steps latest : List ℕ) (k bound : ℕ) (this : Visit) →
    slice_get (visits vehicle stops) k ≡ Some this → k < length stops + 1 → k < length latest →
    ((t : ℕ) → t ≤ this.hi → t + slice_index steps k ≤ slice_index latest (k + 1) → t ≤ bound) →
    IsLatestFrom vehicle stops steps latest (k + 1) → IsLatestFrom vehicle stops steps (slice_set latest k bound) k
latest_more vehicle stops steps latest k bound this here within inside least after minutes b are fits m from =
    let late : slice_index b (k + 1) ≤ slice_index latest (k + 1) = after minutes b are fits (k + 1) (omega arith) in
    let (low, high) = fits.time_windows k this here in
    let step = are b k fits within in
    set_lower latest b k m bound inside (λ more. after minutes b are fits m (omega arith)) (least (slice_index b k) high (omega arith)) from

-- the last visit
pub latest_home : (vehicle : Vehicle) (stops : List Stop) (steps latest : List ℕ) (last bound : ℕ) (home : Visit) →
    last ≡ length stops + 1 → last < length latest → slice_get (visits vehicle stops) last ≡ Some home → home.hi ≤ bound →
    IsLatestFrom vehicle stops steps (slice_set latest last bound) last
latest_home vehicle stops steps latest last bound home end inside there capped minutes b are fits m from =
    let (low, high) = fits.time_windows last home there in
    set_lower latest b last m bound inside
    (λ more. let past : slice_index b m ≡ 0 = get_or_past b m 0 (omega (arith, fits.one_each)) in omega arith) (omega arith) from
