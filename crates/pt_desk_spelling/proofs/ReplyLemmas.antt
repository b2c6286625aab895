-- What the bytes of a reply spell.
use mathlib.Core.HLevel.{is_prop→PathP}
use Rattle.std.proofs.Common.{◌≡◌, ℕ, ◌+◌, ◌*◌, ◌≤◌, List, [], ◌∷◌, ◌++◌, append-nil, length, length-append, get_or, take, drop, Option, Some, refl, sym, ap, ◌∙◌, arith}
use Rattle.std.specs.List.{AllByRecursion}
use Rattle.std.proofs.Props.{props}
use Rattle.std.proofs.lemmas.List.{take-append-drop, drop-drop, drop_all}
use Rattle.pt_desk_requests.specs.declared.request.Confirmation.{Confirmation}
use Rattle.pt_desk_spelling.specs.Fields.{number_bytes, numbers_bytes}
use Rattle.pt_desk_spelling.specs.Ranges.{IsWord}
use Rattle.pt_desk_spelling.specs.Replies.{confirmation_numbers, IsTold, SpellsReply}
use Rattle.pt_desk_spelling.specs.declared.replies.KeptReply.{KeptReply}
use Rattle.pt_desk_spelling.specs.declared.replies.KeptReply.TheVariants.{Done, Entered, Booked}
use Rattle.pt_desk_spelling.proofs.FieldLemmas.{length-number, number-same, numbers-same}

-- ---- numbers

pub length-numbers : (numbers : List ℕ) → length (numbers_bytes numbers) ≡ 4 * length numbers
length-numbers [] = refl
length-numbers (n ∷ numbers) = omega (arith, length-append (number_bytes n) (numbers_bytes numbers), length-number n, length-numbers numbers)

-- the bytes from one place on are a number and the bytes after it
pub piece : (bytes rest : List ℕ) (at next n : ℕ) → number_bytes n ≡ take 4 (drop at bytes) → next ≡ at + 4 → drop next bytes ≡ rest → drop at bytes ≡ number_bytes n ++ rest
piece bytes rest at next n number step after =
    sym (take-append-drop 4 (drop at bytes)) ∙ ap (λ (p : List ℕ). p ++ drop 4 (drop at bytes)) (sym number)
    ∙ ap (λ (q : List ℕ). number_bytes n ++ q) (drop-drop 4 at bytes ∙ ap (λ (k : ℕ). drop k bytes) (sym step) ∙ after)

pub six_numbers : (bytes : List ℕ) (a b c d e f : ℕ) → length bytes ≡ 24
    → number_bytes a ≡ take 4 (drop 0 bytes) → number_bytes b ≡ take 4 (drop 4 bytes) → number_bytes c ≡ take 4 (drop 8 bytes)
    → number_bytes d ≡ take 4 (drop 12 bytes) → number_bytes e ≡ take 4 (drop 16 bytes) → number_bytes f ≡ take 4 (drop 20 bytes)
    → bytes ≡ numbers_bytes (a ∷ b ∷ c ∷ d ∷ e ∷ f ∷ [])
six_numbers bytes a b c d e f size is_a is_b is_c is_d is_e is_f =
    piece bytes _ 0 4 a is_a refl (piece bytes _ 4 8 b is_b refl
    (piece bytes _ 8 12 c is_c refl (piece bytes _ 12 16 d is_d refl
    (piece bytes _ 16 20 e is_e refl (piece bytes [] 20 24 f is_f refl (drop_all 24 bytes (omega arith)))))))

-- ---- the reply to a booking

pub at_most-prop : (most n : ℕ) → IsProp (n ≤ most)
at_most-prop most n = hlevel props

-- replies to bookings with the same numbers are the same
pub told-same : (a b : Confirmation) → confirmation_numbers a ≡ confirmation_numbers b → a ≡ b
told-same a b same = λ i. record {
  trip = get_or (same i) 0 0;
  vehicle = get_or (same i) 1 0;
  window_from = get_or (same i) 2 0;
  window_to = get_or (same i) 3 0;
  fare = get_or (same i) 4 0;
  due = get_or (same i) 5 0;
  fare_in_range = is_prop→PathP (λ j. get_or (same j) 4 0 ≤ 100_000) (λ j. at_most-prop _ _) a.fare_in_range b.fare_in_range i;
  due_in_range = is_prop→PathP (λ j. get_or (same j) 5 0 ≤ 200_000) (λ j. at_most-prop _ _) a.due_in_range b.due_in_range i;
}

pub told-is : (numbers : List ℕ) (told : Confirmation) (trip vehicle from to : ℕ) → confirmation_numbers told ≡ numbers
    → trip ≡ get_or numbers 0 0 → vehicle ≡ get_or numbers 1 0 → from ≡ get_or numbers 2 0 → to ≡ get_or numbers 3 0
    → (trip ∷ vehicle ∷ from ∷ to ∷ get_or numbers 4 0 ∷ get_or numbers 5 0 ∷ []) ≡ confirmation_numbers told
told-is numbers told trip vehicle from to same is_trip is_vehicle is_from is_to =
    let a : told.trip ≡ get_or numbers 0 0 = ap (λ (t : List ℕ). get_or t 0 0) same in
    let b : told.vehicle ≡ get_or numbers 1 0 = ap (λ (t : List ℕ). get_or t 1 0) same in
    let c : told.window_from ≡ get_or numbers 2 0 = ap (λ (t : List ℕ). get_or t 2 0) same in
    let d : told.window_to ≡ get_or numbers 3 0 = ap (λ (t : List ℕ). get_or t 3 0) same in
    let e : told.fare ≡ get_or numbers 4 0 = ap (λ (t : List ℕ). get_or t 4 0) same in
    let f : told.due ≡ get_or numbers 5 0 = ap (λ (t : List ℕ). get_or t 5 0) same in
    cc

pub told-words : (told : Confirmation) → IsTold told → AllByRecursion IsWord (confirmation_numbers told)
told-words told fits =
    let trip = fits.0.1 in
    let vehicle = fits.1.1 in
    let from = fits.2 in
    let to = fits.3 in
    let fare = told.fare_in_range in
    let due = told.due_in_range in
    (trip, (vehicle, (omega arith, (omega arith, (omega arith, (omega arith, tt))))))

-- the numbers that were read are the numbers of whatever has these bytes
pub numbers-read : (bytes numbers : List ℕ) (told : Confirmation) → AllByRecursion IsWord numbers
    → bytes ≡ numbers_bytes numbers → IsTold told → bytes ≡ numbers_bytes (confirmation_numbers told)
    → confirmation_numbers told ≡ numbers
numbers-read bytes numbers told fits read is_told spelled =
    let size = length-numbers numbers in
    let others_size = length-numbers (confirmation_numbers told) in
    let same = ap length (sym read ∙ spelled) in
    let few : length (confirmation_numbers told) ≡ length numbers = omega arith in
    numbers-same (confirmation_numbers told) numbers few (told-words told is_told) fits (sym spelled ∙ read)

-- ---- replies

pub entered-only : (bytes fields : List ℕ) (n : ℕ) (reply : KeptReply) → bytes ≡ 1 ∷ fields → length fields ≡ 4
    → number_bytes n ≡ take 4 (drop 0 fields) → IsWord n → SpellsReply bytes reply → Entered n ≡ reply
entered-only bytes fields n Done whole size number word spelled = absurd (omega (arith, ap (λ (t : List ℕ). get_or t 0 0) (sym whole ∙ spelled.1)))
entered-only bytes fields n (Entered m) whole size number word spelled =
    let rest : fields ≡ number_bytes m = ap (drop 1) (sym whole ∙ spelled.1) in
    let all = piece fields [] 0 4 n number refl (drop_all 4 fields (omega arith)) in
    let same : number_bytes n ++ [] ≡ number_bytes m = sym all ∙ rest in
    ap (λ (k : ℕ). Entered k) (number-same n m word spelled.0 (rw append-nil at same))
entered-only bytes fields n (Booked told) whole size number word spelled = absurd (omega (arith, ap (λ (t : List ℕ). get_or t 0 0) (sym whole ∙ spelled.1)))

-- any reply with the bytes of a booking is the one that the numbers give
pub booked-only : (bytes fields numbers : List ℕ) (reply : KeptReply) (found : Option Confirmation) → bytes ≡ 2 ∷ fields → fields ≡ numbers_bytes numbers → AllByRecursion IsWord numbers
    → ((told : Confirmation) → IsTold told → confirmation_numbers told ≡ numbers → found ≡ Some told) → SpellsReply bytes reply → (told : Confirmation) × (found ≡ Some told) × (reply ≡ Booked told)
booked-only bytes fields numbers Done found whole read fits only spelled = absurd (omega (arith, ap (λ (t : List ℕ). get_or t 0 0) (sym whole ∙ spelled.1)))
booked-only bytes fields numbers (Entered m) found whole read fits only spelled = absurd (omega (arith, ap (λ (t : List ℕ). get_or t 0 0) (sym whole ∙ spelled.1)))
booked-only bytes fields numbers (Booked told) found whole read fits only spelled =
    let rest : fields ≡ numbers_bytes (confirmation_numbers told) = ap (drop 1) (sym whole ∙ spelled.1) in
    (told, only told spelled.0 (numbers-read fields numbers told fits read spelled.0 rest), refl)

-- a reply has one of three beginnings, and as many bytes after it as its kind has
pub none-only : (bytes fields : List ℕ) (kind : ℕ) (reply : KeptReply) → bytes ≡ kind ∷ fields → SpellsReply bytes reply
    → (kind ≡ 0 → length fields ≡ 0 → ⊥) → (kind ≡ 1 → length fields ≡ 4 → ⊥) → (kind ≡ 2 → length fields ≡ 24 → ⊥) → ⊥
none-only bytes fields kind Done whole spelled done entered booked =
    let e = sym whole ∙ spelled.1 in
    done (ap (λ (t : List ℕ). get_or t 0 0) e) (ap (λ (t : List ℕ). length (drop 1 t)) e)
none-only bytes fields kind (Entered m) whole spelled done entered booked =
    let e = sym whole ∙ spelled.1 in
    entered (ap (λ (t : List ℕ). get_or t 0 0) e) (ap (λ (t : List ℕ). length (drop 1 t)) e ∙ length-number m)
none-only bytes fields kind (Booked told) whole spelled done entered booked =
    let e = sym whole ∙ spelled.1 in
    booked (ap (λ (t : List ℕ). get_or t 0 0) e) (ap (λ (t : List ℕ). length (drop 1 t)) e ∙ length-numbers (confirmation_numbers told))
