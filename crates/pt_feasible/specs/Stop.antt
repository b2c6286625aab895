-- The two kinds of stops of a trip.
use Rattle.std.specs.Prelude.{Bool, true, false}
use Rattle.pt_feasible.specs.declared.stop.Stop.{Stop}
use Rattle.pt_feasible.specs.declared.stop.StopKind.{StopKind}
use Rattle.pt_feasible.specs.declared.stop.StopKind.TheVariants.{Pickup, Drop}

-- the kind at which a party comes aboard
abbrev pub takes_aboard : StopKind → Bool
takes_aboard Pickup = true
takes_aboard Drop = false

-- the kind at which a party leaves
abbrev pub lets_leave : StopKind → Bool
lets_leave Pickup = false
lets_leave Drop = true

-- a pickup
abbrev pub is_pickup : Stop → Bool
is_pickup stop = takes_aboard stop.kind

-- a drop
abbrev pub is_drop : Stop → Bool
is_drop stop = lets_leave stop.kind
