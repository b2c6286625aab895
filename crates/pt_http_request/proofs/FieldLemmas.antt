-- The values of fields, with the proofs that records need.
use mathlib.Core.HLevel.{is_prop→PathP}
use Rattle.std.proofs.Common.{◌≡◌, refl, sym, ap, subst, ℕ, ◌≤◌, ℤ, Bool, true, false, List, length, Option, Some, None}
use Rattle.std.proofs.Props.{props}
use Rattle.std.proofs.lemmas.Bool.{leb-true, le-leb}
use Rattle.std.proofs.lemmas.Bool.Decides.{Decides-and, Decides-by_and, Decides-like}
use Rattle.std.specs.Int.{IsInRange}
use Rattle.std.specs.List.{list_all}
use Rattle.std.specs.Prelude.{Decides, Result, Ok, Err, IfOk, IfErr, IsSome, IfSome, ◌↔◌, nat_le, if◌then◌else◌}
use Rattle.std.specs.Prelude.{option_and_then}
use Rattle.serde_json.specs.Data.{Data}
use Rattle.serde_json.specs.Find.{get}
use Rattle.pt_base_values.specs.Place.{IsCoordinate}
use Rattle.pt_base_values.specs.declared.place.Place.{Place}
use Rattle.pt_base_values.specs.declared.policy.Policy.{Policy}
use Rattle.pt_base_values.specs.declared.vehicle.Vehicle.{Vehicle}
use Rattle.pt_base_values.proofs.ChoiceLemmas.{Decides-within, test-read}
use Rattle.pt_base_values.specs.SpelledNumber.{is_within}
use Rattle.pt_rights_files.specs.Reasons.{IsPrintable, IsReasons}
use Rattle.pt_http_request.specs.Names.{field_name}
use Rattle.pt_http_request.specs.declared.field_name.FieldName.{FieldName}
use Rattle.pt_http_request.specs.declared.field_name.FieldName.TheVariants as field
use Rattle.pt_http_request.specs.Fields.{◌>>=◌, needed, tested, text_at, id_at, truth_at, day_at, reasons_at}
use Rattle.pt_http_request.specs.Fields.{are_reasons, holds_nothing, within, whole_at, number_within, ranged, ranged_at, in_range}
use Rattle.pt_http_request.specs.Places.{is_on_plane, integer_from, coordinate_from, coordinate, coordinate_at}
use Rattle.pt_http_request.specs.Places.{on_plane, place_in}
use Rattle.pt_http_request.specs.Policy.{policy_in}
use Rattle.pt_http_request.specs.Routes.{days_at}
use Rattle.pt_http_request.specs.Vehicles.{chairs_at, vehicle_in}

-- ---- tests

le-prop : (a b : ℕ) → IsProp (a ≤ b)
le-prop a b = hlevel props

range-prop : (least most n : ℕ) → IsProp (IsInRange least most n)
range-prop least most n = hlevel props

few-prop : (n : ℕ) → IsProp (n ≤ 10)
few-prop n = hlevel props

coordinate-prop : (z : ℤ) → IsProp (IsCoordinate z)
coordinate-prop z = hlevel props

-- what a test gives that passed
tested-passed : {A E : Type 0} (test : Bool) (make : test ≡ true → A) (fault : E) (x : A) → test ≡ true
    → ((t : test ≡ true) → make t ≡ x) → tested test make fault ≡ Ok x
tested-passed true make fault x e same = ap Ok (same refl)
tested-passed false make fault x e same = cc e

ordered-known : {E : Type 0} (a b : ℕ) (fault : E) (le : a ≤ b) → tested (nat_le a b) (leb-true a b) fault ≡ Ok le
ordered-known a b fault le = tested-passed (nat_le a b) (leb-true a b) fault le (le-leb a b le) (λ t. le-prop a b
    (leb-true a b t) le)

-- ---- numbers of a range

ranged-same : (least most a b : ℕ) (p : IsInRange least most a) (q : IsInRange least most b) → a ≡ b
    → ranged a p ≡ ranged b q
ranged-same least most a b p q same = λ i. record {
  number = same i;
  in_range = is_prop→PathP (λ j. IsInRange least most (same j)) (λ j. range-prop _ _ _) p q i;
}

ranged-test : (name : FieldName) (least most n number : ℕ) (test : Bool) (make : test ≡ true
    → IsInRange least most n) (is : IsInRange least most number)
    → needed (if test then Some n else None) name ≡ Ok number
    → tested test (λ t. ranged n (make t)) name ≡ Ok (ranged number is)
ranged-test name least most n number true make is e =
    let same : n ≡ number = cc e in
    ap Ok (ranged-same least most n number (make refl) is same)
ranged-test name least most n number false make is e = cc e

ranged-of : (name : FieldName) (least most number : ℕ) (found : Result ℕ FieldName)
    (is : IsInRange least most number) → (found >>= (λ n. needed (within least most n) name)) ≡ Ok number
    → (found >>= (λ n. tested (is_within least most n) (λ t. ranged n (in_range least most n t)) name)) ≡ Ok
    (ranged number is)
ranged-of name least most number (Ok n) is e = ranged-test name least most n number (is_within least most n)
    (in_range least most n) is e
ranged-of name least most number (Err bad) is e = cc e

fault-test : (name bad : FieldName) (least most n : ℕ) (test : Bool) (make : test ≡ true → IsInRange least most n)
    → needed (if test then Some n else None) name ≡ Err bad → tested test (λ t. ranged n (make t)) name ≡ Err bad
fault-test name bad least most n true make e = cc e
fault-test name bad least most n false make e = ap Err (cc e)

fault-of : (name bad : FieldName) (least most : ℕ) (found : Result ℕ FieldName)
    → (found >>= (λ n. needed (within least most n) name)) ≡ Err bad
    → (found >>= (λ n. tested (is_within least most n) (λ t. ranged n (in_range least most n t)) name)) ≡ Err bad
fault-of name bad least most (Ok n) e = fault-test name bad least most n (is_within least most n)
    (in_range least most n) e
fault-of name bad least most (Err other) e = ap Err (cc e)

pub ranged-known : (name : FieldName) (least most : ℕ) (body : Data) (result : Result ℕ FieldName)
    → result ≡ number_within name least most body → IfOk result (IsInRange least most)
    → IfOk result (λ number. (is : IsInRange least most number) × (ranged_at name least most body ≡ Ok
    (ranged number is)))
ranged-known name least most body (Ok number) e is = (
  is,
  ranged-of name least most number (whole_at name body) is
      (sym e),
)
ranged-known name least most body (Err bad) e is = tt

pub ranged-fault : (name : FieldName) (least most : ℕ) (body : Data) (result : Result ℕ FieldName)
    → result ≡ number_within name least most body → IfErr result (λ bad. ranged_at name least most body ≡ Err bad)
ranged-fault name least most body (Ok number) e = tt
ranged-fault name least most body (Err bad) e = fault-of name bad least most (whole_at name body) (sym e)

-- ---- coordinates

coordinate-same : (a b : ℤ) (p : IsCoordinate a) (q : IsCoordinate b) → a ≡ b → coordinate a p ≡ coordinate b q
coordinate-same a b p q same = λ i. record {
  feet = same i;
  on_plane = is_prop→PathP (λ j. IsCoordinate (same j)) (λ j. coordinate-prop _) p q i;
}

-- the integer at a field, whether or not it is on the plane
abbrev pub plain_feet : FieldName → Option Data → Result ℤ FieldName
plain_feet name found = needed (option_and_then coordinate_from found) name

placed-test : (name : FieldName) (feet known : ℤ) (test : Bool) (make : test ≡ true
    → IsCoordinate feet) (is : IsCoordinate known) → needed (if test then Some feet else None) name ≡ Ok known
    → tested test (λ t. coordinate feet (make t)) name ≡ Ok (coordinate known is)
placed-test name feet known true make is e =
    let same : feet ≡ known = cc e in
    ap Ok (coordinate-same feet known (make refl) is same)
placed-test name feet known false make is e = cc e

placed-number : (name : FieldName) (found : Option ℤ) (known : ℤ) (is : IsCoordinate known)
    → needed (option_and_then (λ feet. if is_on_plane feet then Some feet else None) found) name ≡ Ok known
    → (needed found name >>= (λ feet. tested (is_on_plane feet) (λ t. coordinate feet (on_plane feet t)) name)) ≡ Ok
    (coordinate known is)
placed-number name (Some feet) known is e = placed-test name feet known (is_on_plane feet) (on_plane feet) is e
placed-number name None known is e = cc e

placed-of : (name : FieldName) (found : Option Data) (known : ℤ) (is : IsCoordinate known)
    → plain_feet name found ≡ Ok known → (needed (option_and_then integer_from found) name >>= (λ feet. tested
    (is_on_plane feet) (λ t. coordinate feet (on_plane feet t)) name)) ≡ Ok (coordinate known is)
placed-of name (Some value) known is e = placed-number name (integer_from value) known is e
placed-of name None known is e = cc e

pub coordinate-known : (name : FieldName) (body : Data) (result : Result ℤ FieldName)
    → result ≡ plain_feet name (get (field_name name) body) → IfOk result IsCoordinate
    → IfOk result (λ feet. (is : IsCoordinate feet) × (coordinate_at name body ≡ Ok (coordinate feet is)))
coordinate-known name body (Ok feet) e is = (is, placed-of name (get (field_name name) body) feet is (sym e))
coordinate-known name body (Err bad) e is = tt

-- ---- reasons

Decides-reasons : (text : List ℕ) → Decides (are_reasons text) (IsReasons text)
Decides-reasons text =
    Decides-like (are_reasons text) (λ is. (is.0.0, is.0.1, is.1)) (λ is. ((is.0, is.1), is.2))
    (Decides-and (is_within 1 500 (length text)) (list_all (λ byte. is_within 0x20 0x7E byte) text)
    (Decides-within 1 500 (length text))
    (Decides-by_and (λ byte. is_within 0x20 0x7E byte) IsPrintable (λ bytes. list_all
    (λ byte. is_within 0x20 0x7E byte) bytes) (λ byte. Decides-within 0x20 0x7E byte) refl (λ x xs. refl) text))

pub reasons-read : (name : FieldName) (body : Data) (text : List ℕ) (found : Option (List ℕ))
    → text_at name body ≡ Ok text → (IsSome found ↔ IsReasons text) → IfSome found (λ reasons. reasons ≡ text)
    → reasons_at name body ≡ needed found name
reasons-read name body text found held some is =
    let same = sym (test-read (are_reasons text) text found (Decides-reasons text) some is) in
    rw held (ap (λ (o : Option (List ℕ)). needed o name) same)

-- ---- records

-- the number of a field, with the proof that it is in its range
abbrev pub Held : FieldName → ℕ → ℕ → Data → ℕ → Type 0
Held name least most body number = (is : IsInRange least most number) × (ranged_at name least most body ≡ Ok
    (ranged number is))

pub policy-read : (body : Data) (policy : Policy) → Held field.Base 0 100_000 body policy.base
    → Held field.Transfer 0 100_000 body policy.transfer → Held field.Fare 0 100_000 body policy.fare
    → Held field.Service 0 30 body policy.service → Held field.ExtraRide 0 240 body policy.extra_ride
    → Held field.MinMissed 1 1_000 body policy.min_missed
    → Held field.Percent 1 100 body policy.percent → Held field.SpanDays 1 366 body policy.span_days
    → Ok policy ≡ policy_in body
policy-read body policy base transfer fare service extra_ride min_missed percent span_days =
    rw (base.1, transfer.1, fare.1, service.1, extra_ride.1, min_missed.1, percent.1, span_days.1) (λ i. Ok (record {
      base = policy.base;
      transfer = policy.transfer;
      fare = policy.fare;
      service = policy.service;
      extra_ride = policy.extra_ride;
      min_missed = policy.min_missed;
      percent = policy.percent;
      span_days = policy.span_days;
      base_in_range = le-prop _ _ policy.base_in_range base.0.1 i;
      transfer_in_range = le-prop _ _ policy.transfer_in_range transfer.0.1 i;
      fare_in_range = le-prop _ _ policy.fare_in_range fare.0.1 i;
      service_in_range = le-prop _ _ policy.service_in_range service.0.1 i;
      extra_ride_in_range = le-prop _ _ policy.extra_ride_in_range extra_ride.0.1 i;
      min_missed_in_range = range-prop _ _ _ policy.min_missed_in_range min_missed.0 i;
      percent_in_range = range-prop _ _ _ policy.percent_in_range percent.0 i;
      span_days_in_range = range-prop _ _ _ policy.span_days_in_range span_days.0 i;
    }))

-- the coordinate of a field, with the proof that it is on the plane
abbrev pub Placed : FieldName → Data → ℤ → Type 0
Placed name body feet = (is : IsCoordinate feet) × (coordinate_at name body ≡ Ok (coordinate feet is))

pub placed-same : (name : FieldName) (body : Data) (feet same : ℤ) → same ≡ feet → Placed name body feet
    → Placed name body same
placed-same name body feet same e placed = subst (Placed name body) (sym e) placed

pub place-read : (body : Data) (place : Place) → id_at field.Id body ≡ Ok place.id → Placed field.X body place.at.x
    → Placed field.Y body place.at.y → truth_at field.Core body ≡ Ok place.core → Ok place ≡ place_in body
place-read body place id x y core = rw (id, x.1, y.1, core) (λ i. Ok (record {
  id = place.id;
  at = place.at;
  core = place.core;
  on_plane = (coordinate-prop _ place.on_plane.0 x.0 i, coordinate-prop _ place.on_plane.1 y.0 i);
}))

pub vehicle-read : (body : Data) (vehicle : Vehicle) → id_at field.Id body ≡ Ok vehicle.id
    → day_at field.FromDay body ≡ Ok vehicle.from_day → days_at body ≡ Some vehicle.days
    → id_at field.Depot body ≡ Ok vehicle.depot → Held field.Capacity 1 30 body vehicle.capacity
    → number_within field.Opens 0 1_439 body ≡ Ok vehicle.opens
    → number_within field.Closes 0 1_439 body ≡ Ok vehicle.closes → Held field.Duration 1 1_439 body vehicle.duration
    → (chairs : IsInRange 0 10 vehicle.chairs) × (chairs_at body ≡ Ok (ranged vehicle.chairs chairs))
    → Ok vehicle ≡ vehicle_in body
vehicle-read body vehicle id from_day days depot capacity opens closes duration chairs =
    let ordered = ordered-known {E = FieldName} vehicle.opens vehicle.closes field.Opens vehicle.hours_ordered in
    rw (id, from_day, days, depot, capacity.1, opens, closes, ordered, duration.1, chairs.1) (λ i. Ok (record {
      id = vehicle.id;
      from_day = vehicle.from_day;
      days = vehicle.days;
      depot = vehicle.depot;
      capacity = vehicle.capacity;
      chairs = vehicle.chairs;
      opens = vehicle.opens;
      closes = vehicle.closes;
      duration = vehicle.duration;
      capacity_in_range = range-prop _ _ _ vehicle.capacity_in_range capacity.0 i;
      chairs_in_range = few-prop _ vehicle.chairs_in_range chairs.0.1 i;
      hours_ordered = vehicle.hours_ordered;
      duration_in_range = range-prop _ _ _ vehicle.duration_in_range duration.0 i;
    }))

-- ---- a field that may be missing or null

pub chairs-none : (body : Data) → holds_nothing (get (field_name field.Chairs) body) ≡ true → chairs_at body ≡ Ok (ranged 0 (in_range 0 10 0 refl))
chairs-none body nothing =
    ap (λ b. if b then Ok (ranged 0 (in_range 0 10 0 refl)) else ranged_at field.Chairs 0 10 body) nothing

pub chairs-some : (body : Data) → holds_nothing (get (field_name field.Chairs) body) ≡ false → chairs_at body ≡ ranged_at field.Chairs 0 10 body
chairs-some body something =
    ap (λ b. if b then Ok (ranged 0 (in_range 0 10 0 refl)) else ranged_at field.Chairs 0 10 body) something
