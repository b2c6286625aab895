use Rattle.std.proofs.Common.{◌≡◌, ◌++◌, drop}
use Rattle.std.specs.Prelude.{filter}
use Rattle.pt_desk_store.specs.Wished.{works_in_window}
use Rattle.pt_desk_store.proofs.wished.vehicles_for.Given as goal

abbrev pub invariant-loop-vehicle : goal.invariant-loop-vehicle
invariant-loop-vehicle l =
    l.found.items ++ filter (works_in_window l.wish) (drop l.vehicle-index l.vehicle-items) ≡ filter (works_in_window l.wish) l.vehicle-items
