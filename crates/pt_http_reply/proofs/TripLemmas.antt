-- A rider's trips have one text.
use Rattle.std.proofs.Common.{◌≡◌, ℕ, ◌+◌, ◌<◌, ◌≤◌, List, [], ◌∷◌, ◌++◌, codes, length, get_or, take, ℤ, pos, refl, sym, ap, subst, ◌∙◌, arith, append_assoc, length-take}
use Rattle.std.specs.List.{join_with_byte}
use Rattle.std.proofs.lemmas.List.{take_more, nil_from_length}
use Rattle.pt_base_values.proofs.CalendarLemmas.{IsDateText-text}
use Rattle.pt_base_values.specs.DateText.{IsDateText}
use Rattle.pt_base_values.specs.declared.trip.Trip.{Trip}
use Rattle.pt_http_reply.specs.Trips.{trip_object, IsTripText, AreTripTexts, IsTripsBody}

-- a day has one text
pub IsDateText-unique : (number : ℤ) (a b : List ℕ) → IsDateText number a → IsDateText number b → a ≡ b
IsDateText-unique number a b is other = sym is.spelled ∙ IsDateText-text is.date number b is.day other

-- a trip has one text
IsTripText-unique : (trip : Trip) (a b : List ℕ) → IsTripText trip a → IsTripText trip b → a ≡ b
IsTripText-unique trip a b is other =
    is.2 ∙ ap (trip_object trip) (IsDateText-unique (pos trip.wish.day) is.0 other.0 is.1 other.1) ∙ sym other.2

-- a list of trips has one list of texts
AreTripTexts-unique : (trips : List Trip) (a b : List (List ℕ)) → AreTripTexts trips a → AreTripTexts trips b → a ≡ b
AreTripTexts-unique [] [] [] is other = refl
AreTripTexts-unique [] [] (text ∷ b) is other = absurd other
AreTripTexts-unique [] (text ∷ a) b is other = absurd is
AreTripTexts-unique (trip ∷ trips) [] b is other = absurd is
AreTripTexts-unique (trip ∷ trips) (text ∷ a) [] is other = absurd other
AreTripTexts-unique (trip ∷ trips) (text ∷ a) (same ∷ b) is other =
    let first = IsTripText-unique trip text same is.0 other.0 in
    let rest = AreTripTexts-unique trips a b is.1 other.1 in cc

pub trips_body-unique : (trips : List Trip) (a b : List ℕ) → IsTripsBody trips a → IsTripsBody trips b → a ≡ b
trips_body-unique trips a b is other =
    let texts = AreTripTexts-unique trips is.1.0 other.1.0 is.1.1 other.1.1 in
    let text : is.0 ≡ other.0 = is.1.2 ∙ ap (join_with_byte 44) texts ∙ sym other.1.2 in
    is.2 ∙ ap (λ t. codes "{\"trips\":[" ++ t ++ codes "]}") text ∙ sym other.2

-- ---- one more trip

AreTripTexts-more : (trips : List Trip) (texts : List (List ℕ)) (trip : Trip) (text : List ℕ) → AreTripTexts trips texts → IsTripText trip text
    → AreTripTexts (trips ++ trip ∷ []) (texts ++ text ∷ [])
AreTripTexts-more [] [] trip text are is = (is, tt)
AreTripTexts-more [] (t ∷ texts) trip text are is = absurd are
AreTripTexts-more (x ∷ trips) [] trip text are is = absurd are
AreTripTexts-more (x ∷ trips) (t ∷ texts) trip text are is = (are.0, AreTripTexts-more trips texts trip text are.1 is)

join-more : (t : List ℕ) (texts : List (List ℕ)) (text : List ℕ) → join_with_byte 44 (t ∷ texts ++ text ∷ []) ≡ join_with_byte 44 (t ∷ texts) ++ 44 ∷ text
join-more t [] text = refl
join-more t (u ∷ texts) text =
    ap (λ rest. t ++ 44 ∷ rest) (join-more u texts text) ∙ sym (append_assoc t (44 ∷ join_with_byte 44 (u ∷ texts)) (44 ∷ text))

-- the bytes are a front and then the texts of these trips
pub record AreWritten (front out : List ℕ) (trips : List Trip) : Type 0 where
  pub texts : List (List ℕ)
  pub are : AreTripTexts trips texts
  pub written : out ≡ front ++ join_with_byte 44 texts

-- one more text after a comma
after_comma : (front out new : List ℕ) (trips : List Trip) (texts : List (List ℕ)) (trip : Trip) (text : List ℕ) → 0 < length trips → AreTripTexts trips texts
    → out ≡ front ++ join_with_byte 44 texts → IsTripText trip text → new ≡ (out ++ 44 ∷ []) ++ text → AreWritten front new (trips ++ trip ∷ [])
after_comma front out new [] texts trip text some are written is is_new = absurd (omega arith)
after_comma front out new (x ∷ trips) [] trip text some are written is is_new = absurd are
after_comma front out new (x ∷ trips) (t ∷ texts) trip text some are written is is_new = record {
  texts = t ∷ texts ++ text ∷ [];
  are = AreTripTexts-more (x ∷ trips) (t ∷ texts) trip text are is;
  written = rw (is_new, written, join-more t texts text) (simp append_assoc);
}

-- the first text, without a comma
as_first : (front out new : List ℕ) (trips : List Trip) (texts : List (List ℕ)) (trip : Trip) (text : List ℕ) → trips ≡ [] → AreTripTexts trips texts
    → out ≡ front ++ join_with_byte 44 texts → IsTripText trip text → new ≡ out ++ text → AreWritten front new (trips ++ trip ∷ [])
as_first front out new [] [] trip text none are written is is_new = record {
  texts = text ∷ [];
  are = (is, tt);
  written = rw (is_new, written) (simp append_assoc);
}
as_first front out new [] (t ∷ texts) trip text none are written is is_new = absurd are
as_first front out new (x ∷ trips) texts trip text none are written is is_new = absurd (cc)

-- one step of writing trips after a front
pub written_after_comma : (front out parted new : List ℕ) (trips : List Trip) (index : ℕ) (trip : Trip) (text : List ℕ) → AreWritten front out (take index trips) → 0 < index
    → index < length trips → trip ≡ get_or trips index trip → IsTripText trip text → parted ≡ out ++ 44 ∷ [] → new ≡ parted ++ text → AreWritten front new (take (index + 1) trips)
written_after_comma front out parted new trips index trip text so_far above inside there is with_comma is_new =
    let some : 0 < length (take index trips) = omega (arith, length-take index trips) in
    let more : take (index + 1) trips ≡ take index trips ++ trip ∷ [] = take_more trips index trip inside ∙ ap (λ t. take index trips ++ t ∷ []) (sym there) in
    subst (AreWritten front new) (sym more)
    (after_comma front out new (take index trips) so_far.texts trip text some so_far.are so_far.written is (is_new ∙ ap (λ t. t ++ text) with_comma))

pub written_first : (front out parted new : List ℕ) (trips : List Trip) (index : ℕ) (trip : Trip) (text : List ℕ) → AreWritten front out (take index trips) → index ≤ 0
    → index < length trips → trip ≡ get_or trips index trip → IsTripText trip text → parted ≡ out → new ≡ parted ++ text → AreWritten front new (take (index + 1) trips)
written_first front out parted new trips index trip text so_far zero inside there is same is_new =
    let none : take index trips ≡ [] = nil_from_length (take index trips) (omega (arith, length-take index trips)) in
    let more : take (index + 1) trips ≡ take index trips ++ trip ∷ [] = take_more trips index trip inside ∙ ap (λ t. take index trips ++ t ∷ []) (sym there) in
    subst (AreWritten front new) (sym more)
    (as_first front out new (take index trips) so_far.texts trip text none so_far.are so_far.written is (is_new ∙ ap (λ t. t ++ text) same))
