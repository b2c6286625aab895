-- The days on which a visitor uses the service (49 CFR 37.127(e)): those of the trips that are booked or ridden.
use Rattle.std.specs.Prelude.{◌≡◌, ℕ, ◌==◌, ◌&&◌, Bool, true, false, not, List, Option, Some, None}
use Rattle.std.specs.List.{list_any}
use Rattle.std.specs.List.Sorted.{IsStrictlyIncreasing}
use Rattle.pt_base_values.specs.declared.trip.Trip.{Trip}
use Rattle.pt_base_values.specs.declared.trip_status.TripStatus.{TripStatus}
use Rattle.pt_base_values.specs.declared.trip_status.TripStatus.TheVariants.{Booked, Ridden}

-- the trip is booked or was ridden
abbrev pub is_used : TripStatus → Bool
is_used Booked = true
is_used Ridden = true
is_used _ = false

-- the trip is not the one that is left out
abbrev pub is_other : Option ℕ → ℕ → Bool
is_other None trip = true
is_other (Some left_out) trip = not (trip == left_out)

-- the trip makes the day a day of use
abbrev pub is_use_of : Option ℕ → ℕ → Trip → Bool
is_use_of left_out day trip = (is_other left_out trip.id && is_used trip.status) && trip.wish.day == day

-- the days of use by these trips, in rising order, each once
pub record AreUses (left_out : Option ℕ) (trips : List Trip) (days : List ℕ) : Type 0 where
  pub rising : IsStrictlyIncreasing days
  pub members : (day : ℕ) → list_any (λ use_day. use_day == day) days ≡ list_any (is_use_of left_out day) trips
