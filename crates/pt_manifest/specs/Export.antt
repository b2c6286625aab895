-- The export of trips: lines of fields with commas between them.
use Rattle.std.specs.Prelude.{◌≡◌, ℕ, List, [], ◌∷◌, ◌++◌, false, codes, decimal}
use Rattle.std.specs.List.{flat_map, join_with_byte}
use Rattle.std.specs.Global.{Vec}
use Rattle.csv.specs.Writing.{default_writer, writer_setup, fields_written, has_written}
use Rattle.csv.specs.Writing.{writer_under, writer_pending}
use Rattle.csv.specs.declared.writer.Writer.{Writer}
use Rattle.pt_base_values.specs.declared.trip.Trip.{Trip}
use Rattle.pt_base_values.specs.declared.trip_status.TripStatus.{TripStatus}
use Rattle.pt_base_values.specs.declared.trip_status.TripStatus.TheVariants.{Booked, Cancelled, Ridden}
use Rattle.pt_base_values.specs.declared.trip_status.TripStatus.TheVariants.{MissedRider, MissedOperator}
use Rattle.pt_desk_booking.specs.Request.{party_of}
use Rattle.pt_party.specs.Fare.{due_of}
use Rattle.pt_manifest.specs.Days.{day_text}

-- the word for a trip's status
abbrev pub status_text : TripStatus → List ℕ
status_text Booked = codes "booked"
status_text Cancelled = codes "cancelled"
status_text Ridden = codes "ridden"
status_text MissedRider = codes "missed-rider"
status_text MissedOperator = codes "missed-operator"

-- the names of the fields
abbrev pub header : List ℕ
header = codes "trip,rider,day,wish,from,to,vehicle,window_from,window_to,due,status\n"

-- the fields of a trip: minutes as whole numbers, what is due in cents
abbrev pub trip_fields : Trip → List (List ℕ)
trip_fields trip =
    decimal trip.id
    ∷ decimal trip.rider
    ∷ day_text trip.wish.day
    ∷ decimal trip.wish.pickup
    ∷ decimal trip.wish.from
    ∷ decimal trip.wish.to
    ∷ decimal trip.vehicle
    ∷ decimal trip.window_from
    ∷ decimal trip.window_to
    ∷ decimal (due_of trip.fare (party_of trip.wish))
    ∷ status_text trip.status
    ∷ []

-- a trip: its fields with a comma (byte 44) between each two, and a newline
abbrev pub trip_line : Trip → List ℕ
trip_line trip = join_with_byte 44 (trip_fields trip) ++ codes "\n"

-- the header and the trips, each a line
abbrev pub trips_text : List Trip → List ℕ
trips_text trips = header ++ flat_map trip_line trips

-- the bytes of a CSV writer: those that it passed on, and those that it still holds
abbrev pub written : Writer (Vec ℕ) → List ℕ
written writer = (writer_under writer).items ++ writer_pending writer

-- the writer has the default settings of CSV, and is at the beginning of a record
pub record IsBetweenRows (writer : Writer (Vec ℕ)) : Type 0 where
  pub setup : writer_setup writer ≡ default_writer
  pub no_field : fields_written writer ≡ 0
  pub no_byte : has_written writer ≡ false
