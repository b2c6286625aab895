-- The load of a party, or of all parties aboard: how many seats it takes, and how many wheelchair places.
use Rattle.std.specs.Prelude.{◌+◌, ◌-◌, ◌≤◌}
use Rattle.pt_base_values.specs.declared.load.Load.{Load}
use Rattle.pt_base_values.specs.declared.vehicle.Vehicle.{Vehicle}

-- nobody
abbrev pub no_load : Load
no_load = record { seats = 0; chairs = 0 }

-- the sum of both loads
abbrev pub load_sum : Load → Load → Load
load_sum a b = record { seats = a.seats + b.seats; chairs = a.chairs + b.chairs }

-- the first without the second
abbrev pub load_difference : Load → Load → Load
load_difference a b = record { seats = a.seats - b.seats; chairs = a.chairs - b.chairs }

-- the load is at most the room, in seats and in wheelchair places
pub record IsWithin (load room : Load) : Type 0 where
  pub seats : load.seats ≤ room.seats
  pub chairs : load.chairs ≤ room.chairs

-- the load is in the range that the program counts
abbrev pub IsLoad : Load → Type 0
IsLoad load = IsWithin load (record { seats = 65_535; chairs = 65_535 })

-- the seats and the wheelchair places of the vehicle
abbrev pub room_of : Vehicle → Load
room_of vehicle = record { seats = vehicle.capacity; chairs = vehicle.chairs }

-- the vehicle has room for the load
abbrev pub FitsWithin : Load → Vehicle → Type 0
FitsWithin load vehicle = IsWithin load (room_of vehicle)
