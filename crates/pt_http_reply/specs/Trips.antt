-- Trips in replies: compact JSON with keys in byte order.
use Rattle.std.specs.Prelude.{◌≡◌, ℕ, List, [], ◌∷◌, ◌++◌, Option, Some, None, codes, decimal, pos}
use Rattle.std.specs.List.{join_with_byte}
use Rattle.pt_base_values.specs.DateText.{IsDateText}
use Rattle.pt_base_values.specs.declared.trip.Trip.{Trip}
use Rattle.pt_base_values.specs.declared.trip_status.TripStatus.{TripStatus}
use Rattle.pt_base_values.specs.declared.trip_status.TripStatus.TheVariants as status
use Rattle.pt_desk_booking.specs.Request.{party_of}
use Rattle.pt_desk_requests.specs.declared.request.Confirmation.{Confirmation}
use Rattle.pt_http_request.specs.declared.field_name.FieldName.TheVariants as field
use Rattle.pt_party.specs.Fare.{due_of}
use Rattle.pt_http_reply.specs.Json.{truth_text, quoted, member, object}

-- the name of a trip's status
abbrev pub status_name : TripStatus → List ℕ
status_name status.Booked = codes "booked"
status_name status.Cancelled = codes "cancelled"
status_name status.Ridden = codes "ridden"
status_name status.MissedRider = codes "missed-rider"
status_name status.MissedOperator = codes "missed-operator"

-- a minute, or null if there is none
abbrev pub minute_or_null : Option ℕ → List ℕ
minute_or_null None = codes "null"
minute_or_null (Some minute) = decimal minute

-- a booked trip: what its party owes and the fare of one person, in cents; its vehicle and the promised window
abbrev pub confirmation_body : Confirmation → List ℕ
confirmation_body told = object (
    member field.Due (decimal told.due)
    ∷ member field.Fare (decimal told.fare)
    ∷ member field.Trip (decimal told.trip)
    ∷ member field.Vehicle (decimal told.vehicle)
    ∷ member field.WindowFrom (decimal told.window_from)
    ∷ member field.WindowTo (decimal told.window_to)
    ∷ [])

-- one of a rider's trips; `day` is the text of its day
abbrev pub trip_object : Trip → List ℕ → List ℕ
trip_object trip day = object (
    member field.Attendant (truth_text trip.wish.attendant)
    ∷ member field.By (minute_or_null trip.wish.by)
    ∷ member field.Companions (decimal trip.wish.companions)
    ∷ member field.Day (quoted day)
    ∷ member field.Due (decimal (due_of trip.fare (party_of trip.wish)))
    ∷ member field.Fare (decimal trip.fare)
    ∷ member field.From (decimal trip.wish.from)
    ∷ member field.Status (quoted (status_name trip.status))
    ∷ member field.To (decimal trip.wish.to)
    ∷ member field.Trip (decimal trip.id)
    ∷ member field.Vehicle (decimal trip.vehicle)
    ∷ member field.WindowFrom (decimal trip.window_from)
    ∷ member field.WindowTo (decimal trip.window_to)
    ∷ member field.Wish (decimal trip.wish.pickup)
    ∷ [])

-- the text is that of the trip
abbrev pub IsTripText : Trip → List ℕ → Type 0
IsTripText trip text = (day : List ℕ) × IsDateText (pos trip.wish.day) day × (text ≡ trip_object trip day)

-- the texts are those of the trips, in their order
abbrev pub AreTripTexts : List Trip → List (List ℕ) → Type 0
AreTripTexts [] [] = Unit {0}
AreTripTexts (trip ∷ trips) (text ∷ texts) = IsTripText trip text × AreTripTexts trips texts
AreTripTexts _ _ = ⊥

-- the text lists the trips, with a comma (byte 44) between each two
abbrev pub IsTripList : List Trip → List ℕ → Type 0
IsTripList trips text = (texts : List (List ℕ)) × AreTripTexts trips texts × (text ≡ join_with_byte 44 texts)

-- the body with a rider's trips
abbrev pub IsTripsBody : List Trip → List ℕ → Type 0
IsTripsBody trips body =
    (text : List ℕ) × IsTripList trips text × (body ≡ codes "{\"trips\":[" ++ text ++ codes "]}")
