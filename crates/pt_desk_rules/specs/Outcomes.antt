-- How trips end, and which of a rider's trips count as a pattern of missed trips (49 CFR 37.125(h)).
use Rattle.std.specs.Prelude.{ℕ, nat_le, Bool, false, List, Option, Some, None}
use Rattle.std.specs.List.{filter_map}
use Rattle.std.specs.Option.{option_map}
use Rattle.pt_base_values.specs.declared.trip.Trip.{Trip}
use Rattle.pt_base_values.specs.declared.trip_status.TripStatus.{TripStatus}
use Rattle.pt_base_values.specs.declared.trip_status.TripStatus.TheVariants as status
use Rattle.pt_rights_files.specs.declared.tally.Outcome.{Outcome}
use Rattle.pt_rights_files.specs.declared.tally.Outcome.TheVariants as outcome
use Rattle.pt_rights_files.specs.declared.tally.Tally.{Tally}
use Rattle.pt_desk_rules.specs.Trips.{is_booked}

-- the status of a trip with this outcome
abbrev pub status_of : Outcome → TripStatus
status_of outcome.Ridden = status.Ridden
status_of outcome.MissedRider = status.MissedRider
status_of outcome.MissedOperator = status.MissedOperator

-- the trip with this outcome
abbrev pub ended : Outcome → Trip → Trip
ended end trip = record trip { status = status_of end }

-- a trip that exists awaits its outcome: it is booked, and has neither ended nor been cancelled
abbrev pub awaits_outcome : Option Trip → Bool
awaits_outcome None = false
awaits_outcome (Some trip) = is_booked trip.status

-- the day of a trip that exists has come
abbrev pub has_come : ℕ → Option Trip → Bool
has_come today None = false
has_come today (Some trip) = nat_le trip.wish.day today

-- the outcome of a trip with this status, if it has one
abbrev pub outcome_of : TripStatus → Option Outcome
outcome_of status.Booked = None
outcome_of status.Cancelled = None
outcome_of status.Ridden = Some outcome.Ridden
outcome_of status.MissedRider = Some outcome.MissedRider
outcome_of status.MissedOperator = Some outcome.MissedOperator

abbrev pub tally_of : Trip → Option Tally
tally_of trip = option_map (λ end. record { day = trip.wish.day; outcome = end }) (outcome_of trip.status)

-- the outcomes of those trips that have one
abbrev pub tallies_of : List Trip → List Tally
tallies_of trips = filter_map tally_of trips
