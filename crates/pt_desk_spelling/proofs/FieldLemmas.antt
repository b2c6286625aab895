-- Different fields have different bytes, whatever follows, and so has what follows.
use Rattle.std.proofs.Common.{◌≡◌, ℕ, ◌+◌, ◌*◌, ◌≤◌, Bool, true, false, List, [], ◌∷◌, ◌++◌, length, get_or, take, drop, Option, Some, None, refl, sym, ap, ◌∙◌, append_assoc, arith}
use Rattle.std.specs.Prelude.{ℤ, pos, negsuc, IfSome, flat_map, FitsSigned}
use Rattle.std.specs.Int.{w32, from_be_bytes, from_bool, cast_unsigned, cast_signed}
use Rattle.std.specs.List.{All, AllByRecursion}
use Rattle.std.proofs.lemmas.Int.{ints, to_z-of_z}
use Rattle.std.proofs.lemmas.List.{take_at, drop_at}
use Rattle.std.proofs.lemmas.List.Elements.{recursion_from_All}
use Rattle.std.proofs.lemmas.Nat.{from_be_bytes-to_be_bytes_4}
use Rattle.pt_base_values.specs.Day.{IsDay}
use Rattle.pt_base_values.specs.Place.{IsCoordinate}
use Rattle.pt_base_values.specs.Ranges.{last_minute}
use Rattle.pt_desk_spelling.specs.Fields.{number_bytes, numbers_bytes, signed_bytes, truth_bytes, days_byte, optional_bytes, text_bytes, list_bytes}
use Rattle.pt_desk_spelling.specs.Ranges.{IsWord, IsWeek}

-- joined parts, with the first part split off
pub four_parts : (a b c d : List ℕ) → ((a ++ b) ++ c) ++ d ≡ a ++ (b ++ (c ++ d))
four_parts a b c d = simp append_assoc

pub five_parts : (a b c d f : List ℕ) → (((a ++ b) ++ c) ++ d) ++ f ≡ a ++ (b ++ (c ++ (d ++ f)))
five_parts a b c d f = simp append_assoc

-- first parts of the same length
pub parts-then : (n : ℕ) (p q x y : List ℕ) → length p ≡ n → length q ≡ n → p ++ x ≡ q ++ y → (p ≡ q) × (x ≡ y)
parts-then n p q x y one other e =
    (sym (take_at p x n one) ∙ ap (take n) e ∙ take_at q y n other, sym (drop_at p x n one) ∙ ap (drop n) e ∙ drop_at q y n other)

pub byte-then : (a b : ℕ) (x y : List ℕ) → a ∷ x ≡ b ∷ y → (a ≡ b) × (x ≡ y)
byte-then a b x y e = (ap (λ (bytes : List ℕ). get_or bytes 0 0) e, ap (drop 1) e)

-- ---- numbers

pub day-word : (n : ℕ) → IsDay n → IsWord n
day-word n day = let last = day.1 in omega arith

pub minute-word : (n : ℕ) → n ≤ last_minute → IsWord n
minute-word n last = omega arith

pub length-number : (n : ℕ) → length (number_bytes n) ≡ 4
unfolding number_bytes
length-number n = refl

pub number-same : (a b : ℕ) → IsWord a → IsWord b → number_bytes a ≡ number_bytes b → a ≡ b
unfolding number_bytes
number-same a b one other e =
    sym (from_be_bytes-to_be_bytes_4 a one) ∙ ap (from_be_bytes w32) e ∙ from_be_bytes-to_be_bytes_4 b other

pub number-then : (a b : ℕ) (x y : List ℕ) → IsWord a → IsWord b → number_bytes a ++ x ≡ number_bytes b ++ y → (a ≡ b) × (x ≡ y)
number-then a b x y one other e =
    let parts = parts-then 4 (number_bytes a) (number_bytes b) x y (length-number a) (length-number b) e in
    (number-same a b one other parts.0, parts.1)

-- ---- items

-- different values that meet P have different bytes, whatever follows
abbrev pub IsCode : {A : Type 0} → (A → Type 0) → (A → List ℕ) → Type 0
IsCode {A} P bytes = (a b : A) (x y : List ℕ) → P a → P b → bytes a ++ x ≡ bytes b ++ y → (a ≡ b) × (x ≡ y)

pub items-then : {A : Type 0} (P : A → Type 0) (bytes : A → List ℕ) → IsCode P bytes
    → (one other : List A) (x y : List ℕ) → length one ≡ length other → AllByRecursion P one → AllByRecursion P other
    → flat_map bytes one ++ x ≡ flat_map bytes other ++ y → (one ≡ other) × (x ≡ y)
items-then P bytes apart [] [] x y size ones others e = (refl, e)
items-then P bytes apart [] (b ∷ other) x y size ones others e = absurd (omega arith)
items-then P bytes apart (a ∷ one) [] x y size ones others e = absurd (omega arith)
items-then {A} P bytes apart (a ∷ one) (b ∷ other) x y size ones others e =
    let grouped : bytes a ++ (flat_map bytes one ++ x) ≡ bytes b ++ (flat_map bytes other ++ y) = sym
    (append_assoc (bytes a) (flat_map bytes one) x) ∙ e ∙ append_assoc (bytes b) (flat_map bytes other) y in
    let first = apart a b (flat_map bytes one ++ x) (flat_map bytes other ++ y) ones.0 others.0 grouped in
    let rest = items-then P bytes apart one other x y (omega arith) ones.1 others.1 first.1 in
    (ap (λ (h : A). h ∷ one) first.0 ∙ ap (λ (t : List A). b ∷ t) rest.0, rest.1)

pub numbers-then : (one other : List ℕ) (x y : List ℕ) → length one ≡ length other → AllByRecursion IsWord one
    → AllByRecursion IsWord other → numbers_bytes one ++ x ≡ numbers_bytes other ++ y → (one ≡ other) × (x ≡ y)
numbers-then = items-then IsWord number_bytes number-then

pub numbers-same : (one other : List ℕ) → length one ≡ length other → AllByRecursion IsWord one → AllByRecursion IsWord other → numbers_bytes one ≡ numbers_bytes other → one ≡ other
numbers-same one other size ones others e = (numbers-then one other [] [] size ones others (ap (λ (t : List ℕ). t ++ []) e)).0

pub list-then : {A : Type 0} (P : A → Type 0) (bytes : A → List ℕ) → IsCode P bytes
    → (one other : List A) (x y : List ℕ) → IsWord (length one) → IsWord (length other) → All P one → All P other
    → list_bytes bytes one ++ x ≡ list_bytes bytes other ++ y → (one ≡ other) × (x ≡ y)
list-then P bytes apart one other x y few others_few ones others e =
    let grouped : number_bytes (length one) ++ (flat_map bytes one ++ x) ≡ number_bytes (length other) ++
    (flat_map bytes other ++ y) = sym (append_assoc (number_bytes (length one)) (flat_map bytes one) x) ∙ e
    ∙ append_assoc (number_bytes (length other)) (flat_map bytes other) y in
    let count = number-then (length one) (length other) (flat_map bytes one ++ x) (flat_map bytes other ++ y) few others_few grouped in
    items-then P bytes apart one other x y count.0 (recursion_from_All P one ones) (recursion_from_All P other others) count.1

pub list-same : {A : Type 0} (P : A → Type 0) (bytes : A → List ℕ) → IsCode P bytes → (one other : List A)
    → IsWord (length one) → IsWord (length other) → All P one → All P other
    → list_bytes bytes one ≡ list_bytes bytes other → one ≡ other
list-same P bytes apart one other few others_few ones others e =
    (list-then P bytes apart one other [] [] few others_few ones others (ap (λ (t : List ℕ). t ++ []) e)).0

-- ---- texts

pub text-then : (one other x y : List ℕ) → IsWord (length one) → IsWord (length other) → text_bytes one ++ x ≡ text_bytes other ++ y → (one ≡ other) × (x ≡ y)
text-then one other x y short others_short e =
    let grouped : number_bytes (length one) ++ (one ++ x) ≡ number_bytes (length other) ++ (other ++ y) = sym
    (append_assoc (number_bytes (length one)) one x) ∙ e
    ∙ append_assoc (number_bytes (length other)) other y in
    let size = number-then (length one) (length other) (one ++ x) (other ++ y) short others_short grouped in
    parts-then (length other) one other x y size.0 refl size.1

pub text-same : (one other : List ℕ) → IsWord (length one) → IsWord (length other) → text_bytes one ≡ text_bytes other → one ≡ other
text-same one other short others_short e = (text-then one other [] [] short others_short (ap (λ (t : List ℕ). t ++ []) e)).0

-- ---- coordinates

pub coordinate-fits : (z : ℤ) → IsCoordinate z → FitsSigned w32 z
coordinate-fits (pos n) on_plane = record { sfits = omega (arith, ints) }
coordinate-fits (negsuc n) on_plane = record { sfits = omega (arith, ints) }

pub coordinate-word : (z : ℤ) → IsCoordinate z → IsWord (cast_unsigned w32 z)
coordinate-word (pos n) on_plane = omega (arith, ints)
coordinate-word (negsuc n) on_plane = omega (arith, ints)

pub signed-then : (a b : ℤ) (x y : List ℕ) → IsCoordinate a → IsCoordinate b → signed_bytes a ++ x ≡ signed_bytes b ++ y → (a ≡ b) × (x ≡ y)
signed-then a b x y one other e =
    let bits = number-then (cast_unsigned w32 a) (cast_unsigned w32 b) x y (coordinate-word a one) (coordinate-word b other) e in
    (sym (to_z-of_z w32 a (coordinate-fits a one)) ∙ ap (cast_signed w32) bits.0 ∙ to_z-of_z w32 b (coordinate-fits b other), bits.1)

-- ---- truth values, weekdays and minutes that may be absent

pub bool-same : (a b : Bool) → from_bool a ≡ from_bool b → a ≡ b
bool-same false false e = refl
bool-same true true e = refl
bool-same false true e = absurd (omega arith)
bool-same true false e = absurd (omega arith)

pub bool-small : (a : Bool) → from_bool a ≤ 1
bool-small false = omega arith
bool-small true = omega arith

pub truth-then : (a b : Bool) (x y : List ℕ) → truth_bytes a ++ x ≡ truth_bytes b ++ y → (a ≡ b) × (x ≡ y)
truth-then a b x y e = let parts = byte-then (from_bool a) (from_bool b) x y e in (bool-same a b parts.0, parts.1)

-- the marks as bits of a number, the first at bit 0
abbrev bits_of : List Bool → ℕ
bits_of [] = 0
bits_of (mark ∷ marks) = from_bool mark + 2 * bits_of marks

pub bits-same : (one other : List Bool) → length one ≡ length other → bits_of one ≡ bits_of other → one ≡ other
bits-same [] [] size e = refl
bits-same [] (b ∷ other) size e = absurd (omega arith)
bits-same (a ∷ one) [] size e = absurd (omega arith)
bits-same (a ∷ one) (b ∷ other) size e =
    let small = bool-small a in
    let others_small = bool-small b in
    let first : from_bool a ≡ from_bool b = omega arith in
    let rest : bits_of one ≡ bits_of other = omega arith in
    ap (λ (h : Bool). h ∷ one) (bool-same a b first) ∙ ap (λ (t : List Bool). b ∷ t) (bits-same one other (omega arith) rest)

pub days-bits : (days : List Bool) → IsWeek days → days_byte days ≡ bits_of days
days-bits (a ∷ b ∷ c ∷ d ∷ e ∷ f ∷ g ∷ []) week = omega arith
days-bits days week = absurd (omega arith)

pub days-same : (one other : List Bool) → IsWeek one → IsWeek other → days_byte one ≡ days_byte other → one ≡ other
days-same one other ones others e =
    bits-same one other (ones ∙ sym others) (sym (days-bits one ones) ∙ e ∙ days-bits other others)

pub optional-then : (one other : Option ℕ) (x y : List ℕ) → IfSome one (λ n. n ≤ last_minute)
    → IfSome other (λ n. n ≤ last_minute) → optional_bytes one ++ x ≡ optional_bytes other ++ y → (one ≡ other)
    × (x ≡ y)
optional-then None None x y ones others e = (refl, ap (drop 1) e)
optional-then None (Some b) x y ones others e = absurd (omega (arith, ap (λ (bytes : List ℕ). get_or bytes 0 0) e))
optional-then (Some a) None x y ones others e = absurd (omega (arith, ap (λ (bytes : List ℕ). get_or bytes 0 0) e))
optional-then (Some a) (Some b) x y ones others e =
    let parts = number-then a b x y (minute-word a ones) (minute-word b others) (ap (drop 1) e) in
    (ap (λ (n : ℕ). Some n) parts.0, parts.1)
