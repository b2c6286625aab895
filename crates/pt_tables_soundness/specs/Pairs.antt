-- A trip's stops in a plan, in their order.
use Rattle.std.specs.Prelude.{◌≡◌, ℕ, ◌==◌, if◌then◌else◌, List, [], ◌∷◌, Option, Some, None}
use Rattle.pt_feasible.specs.declared.stop.StopKind.{StopKind}
use Rattle.pt_feasible.specs.declared.stop.StopKind.TheVariants.{Pickup, Drop}
use Rattle.pt_desk_scheduling.specs.Plan.{IsPair}
use Rattle.pt_desk_scheduling.specs.declared.planned.PlannedStop.{PlannedStop}
use Rattle.pt_tables_soundness.specs.declared.pairs.Met.{Met}
use Rattle.pt_tables_soundness.specs.declared.pairs.Met.TheVariants as met

-- after one more stop of the trip; None if it may not come here
abbrev pub met_with : Met → StopKind → Option Met
met_with met.Nothing Pickup = Some met.Pickup
met_with met.Pickup Drop = Some met.Both
met_with _ _ = None

-- after one more stop of any trip
abbrev pub met_after : ℕ → Met → PlannedStop → Option Met
met_after trip met stop = if stop.trip == trip then met_with met stop.kind else Some met

-- what the rest of the trip's stops may be
abbrev pub IsRestAfter : Met → List PlannedStop → Type 0
IsRestAfter met.Nothing stops = IsPair stops
IsRestAfter met.Pickup [] = ⊥
IsRestAfter met.Pickup (stop ∷ []) = stop.kind ≡ Drop
IsRestAfter met.Pickup (stop ∷ other ∷ later) = ⊥
IsRestAfter met.Both [] = Unit {0}
IsRestAfter met.Both (stop ∷ later) = ⊥
