-- The life of a trip.
use Rattle.std.specs.Prelude.{Bool, true, false}
use Rattle.pt_base_values.specs.declared.trip_status.TripStatus.{TripStatus}
use Rattle.pt_base_values.specs.declared.trip_status.TripStatus.TheVariants.{Booked, Cancelled, Ridden, MissedRider}
use Rattle.pt_base_values.specs.declared.trip_status.TripStatus.TheVariants.{MissedOperator}

-- whether the trip was not cancelled, whatever came of it
abbrev pub stands : TripStatus → Bool
stands Booked = true
stands Cancelled = false
stands Ridden = true
stands MissedRider = true
stands MissedOperator = true
