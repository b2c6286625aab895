-- CSV records whose fields need no quotes.
use Rattle.std.proofs.Common.{◌≡◌, refl, ap, ℕ, zero, suc, ◌+◌, ◌/◌, ◌%◌, ◌≤◌, ◌==◌, Bool, true, false, List, ◌++◌, [], ◌∷◌, arith, codes, decimal}
use Rattle.std.proofs.lemmas.Bool.Decides.{nat_tests}
use Rattle.std.proofs.lemmas.List.{append-nil}
use Rattle.std.specs.Fmt.{digit_glyph, digits, digits_onto}
use Rattle.std.specs.List.{join_with_byte, list_any}
use Rattle.std.specs.Prelude.{nat_lt, if◌then◌else◌}
use Rattle.csv.specs.Writing.{default_writer, field_text, fields_text, is_blank, needs_byte, row_text}
use Rattle.pt_base_values.specs.declared.trip.Trip.{Trip}
use Rattle.pt_base_values.specs.declared.trip_status.TripStatus.{TripStatus}
use Rattle.pt_base_values.specs.declared.trip_status.TripStatus.TheVariants.{Booked, Cancelled, Ridden, MissedRider, MissedOperator}
use Rattle.pt_manifest.specs.Days.{day_text}
use Rattle.pt_manifest.specs.Export.{header, status_text, trip_fields, trip_line}

-- no byte of the field needs quotes
abbrev IsPlain : List ℕ → Type 0
IsPlain field = list_any (needs_byte default_writer) field ≡ false

unfoldable ArePlain : List (List ℕ) → Type 0
ArePlain [] = Unit {0}
ArePlain (field ∷ fields) = IsPlain field × ArePlain fields

-- digits, letters and the hyphen come from 45 on
unfoldable AreFromHyphen : List ℕ → Type 0
AreFromHyphen [] = Unit {0}
AreFromHyphen (byte ∷ bytes) = (45 ≤ byte) × AreFromHyphen bytes

either : {A : Type 0} (P : A → Type 0) (test : Bool) (one other : A) → P one → P other → P (if test then one else other)
either P true one other first second = first
either P false one other first second = second

plain_byte : (byte : ℕ) → 45 ≤ byte → needs_byte default_writer byte ≡ false
plain_byte byte from = grind (arith, nat_tests)

IsPlain-from_hyphen : (field : List ℕ) → AreFromHyphen field → IsPlain field
unfolding AreFromHyphen
IsPlain-from_hyphen [] from = refl
IsPlain-from_hyphen (byte ∷ bytes) from = rw (plain_byte byte from.0) (IsPlain-from_hyphen bytes from.1)

glyph-from_hyphen : (digit : ℕ) → 45 ≤ digit_glyph false digit
glyph-from_hyphen digit = either (λ glyph. 45 ≤ glyph) (nat_lt digit 10) (48 + digit) (87 + digit) (omega arith) (omega arith)

digits-from_hyphen : (count number : ℕ) (after : List ℕ) → AreFromHyphen after → AreFromHyphen (digits_onto count 10 false number after)
unfolding AreFromHyphen
digits-from_hyphen zero number after from = from
digits-from_hyphen (suc count) number after from =
    either AreFromHyphen (number / 10 == 0) _ _ (glyph-from_hyphen (number % 10), from)
    (digits-from_hyphen count (number / 10) (digit_glyph false (number % 10) ∷ after) (glyph-from_hyphen (number % 10), from))

decimal-plain : (number : ℕ) → IsPlain (decimal number)
unfolding digits AreFromHyphen
decimal-plain number = IsPlain-from_hyphen (decimal number) (digits-from_hyphen 64 number [] tt)

day_text-plain : (day : ℕ) → IsPlain (day_text day)
unfolding day_text AreFromHyphen
day_text-plain day =
    IsPlain-from_hyphen (day_text day)
    (omega arith, (omega arith, (omega arith, (omega arith, (omega arith, (omega arith, (omega arith, (omega arith, (omega arith, (omega arith, tt))))))))))

status_text-plain : (status : TripStatus) → IsPlain (status_text status)
status_text-plain Booked = refl
status_text-plain Cancelled = refl
status_text-plain Ridden = refl
status_text-plain MissedRider = refl
status_text-plain MissedOperator = refl

field_text-plain : (field : List ℕ) → IsPlain field → field_text default_writer field ≡ field
field_text-plain field plain = rw plain refl

-- the fields of a record, with commas between them
fields_text-plain : (field : List ℕ) (fields : List (List ℕ)) → ArePlain (field ∷ fields)
    → field_text default_writer field ++ fields_text default_writer fields ≡ join_with_byte 44 (field ∷ fields)
unfolding fields_text ArePlain
fields_text-plain field [] plain = rw (field_text-plain field plain.0) (append-nil field)
fields_text-plain field (next ∷ fields) plain = rw (field_text-plain field plain.0, fields_text-plain next fields plain.1) refl

row_text-plain : (one other : List ℕ) (fields : List (List ℕ)) → ArePlain (one ∷ other ∷ fields)
    → row_text default_writer (one ∷ other ∷ fields) ≡ join_with_byte 44 (one ∷ other ∷ fields) ++ codes "\n"
unfolding is_blank
row_text-plain one other fields plain = ap (λ text. text ++ codes "\n") (fields_text-plain one (other ∷ fields) plain)

pub row_text-trip : (trip : Trip) → row_text default_writer (trip_fields trip) ≡ trip_line trip
unfolding ArePlain
row_text-trip trip =
    row_text-plain _ _ _ (
      decimal-plain _,
      (
        decimal-plain _,
        (
          day_text-plain _,
          (
            decimal-plain _,
            (
              decimal-plain _,
              (
                decimal-plain _,
                (decimal-plain _, (decimal-plain _, (decimal-plain _, (decimal-plain _, (status_text-plain _, tt))))),
              ),
            ),
          ),
        ),
      ),
    )

pub row_text-header : row_text default_writer (codes "trip" ∷ codes "rider" ∷ codes "day" ∷ codes "wish" ∷ codes "from" ∷ codes "to" ∷ codes "vehicle"
    ∷ codes "window_from" ∷ codes "window_to" ∷ codes "due" ∷ codes "status" ∷ []) ≡ header
unfolding fields_text is_blank
row_text-header = refl
