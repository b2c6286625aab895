-- The bytes of a column determine its value: the points of a line, a reply, the conditions of a grant.
use Rattle.std.proofs.Common.{◌≡◌, ℕ, ◌<◌, ◌≤◌, List, [], ◌∷◌, length, length-append, map, flat_map, get_or, drop}
use Rattle.std.proofs.Common.{decimal, refl, sym, ap, ap₂, ◌∙◌, arith}
use Rattle.std.specs.Char.{digit_value}
use Rattle.std.specs.Int.{w32, cast_unsigned, IsInRange}
use Rattle.std.specs.List.{All, AllByRecursion, slice_split, join_with_byte}
use Rattle.std.specs.Prelude.{◌==◌, false, codes}
use Rattle.std.specs.Str.Parse.{AllDigits}
use Rattle.std.proofs.lemmas.Bool.Decides.{nat_tests}
use Rattle.std.proofs.lemmas.Fmt.{decimal_is_IsNumeral}
use Rattle.std.proofs.lemmas.List.Elements.{recursion_from_All, All-from_recursion}
use Rattle.std.proofs.lemmas.List.Splits.{slice_split_none, slice_split_at}
use Rattle.sqlite_keyed.proofs.ListLemmas.{all-append}
use Rattle.pt_base_values.specs.Place.{IsOnPlane}
use Rattle.pt_base_values.specs.declared.place.Point.{Point}
use Rattle.pt_rights_conditions.specs.Texts.{condition_text, numbers_text}
use Rattle.pt_rights_conditions.proofs.NumbersLemmas.{months-from_set}
use Rattle.pt_rights_conditions.proofs.TextLemmas.{condition_text-injective}
use Rattle.pt_desk_requests.specs.declared.request.Confirmation.{Confirmation}
use Rattle.pt_desk_rules.specs.Conditions.{IsCondition}
use Rattle.pt_desk_rules.specs.Months.{numbers_of}
use Rattle.pt_desk_rules.specs.Condition.{Condition}
use Rattle.pt_desk_rules.specs.Condition.TheVariants.{Always, Months, Farther, NoLift}
use Rattle.pt_desk_rules.specs.Grant.{Grant}
use Rattle.pt_desk_spelling.specs.Fields.{number_bytes, numbers_bytes}
use Rattle.pt_desk_spelling.specs.Ranges.{IsWord}
use Rattle.pt_desk_spelling.specs.Replies.{reply_spelling, confirmation_numbers, IsTold, IsReply}
use Rattle.pt_desk_spelling.specs.Requests.{point_bytes}
use Rattle.pt_desk_spelling.specs.declared.replies.KeptReply.{KeptReply}
use Rattle.pt_desk_spelling.specs.declared.replies.KeptReply.TheVariants.{Done, Entered, Booked}
use Rattle.pt_desk_spelling.proofs.FieldLemmas.{length-number, number-same}
use Rattle.pt_desk_spelling.proofs.ReplyLemmas.{told-same, numbers-read}
use Rattle.pt_desk_spelling.proofs.SettingLemmas.{point-then}
use Rattle.pt_tables_rows.specs.Rows.{conditions_text}

-- ---- the points of a line, eight bytes each

abbrev pub AreOnPlane : List Point → Type 0
AreOnPlane points = AllByRecursion (λ p. IsOnPlane p.x p.y) points

length-point : (p : Point) → length (point_bytes p) ≡ 8
length-point p =
    let east = cast_unsigned w32 p.x in
    let north = cast_unsigned w32 p.y in
    omega (arith, length-append (number_bytes east) (number_bytes north), length-number east, length-number north)

pub line-told : (one other : List Point) → AreOnPlane one → AreOnPlane other
    → flat_map point_bytes one ≡ flat_map point_bytes other → one ≡ other
line-told [] [] ones others same = refl
line-told [] (q ∷ other) ones others same =
    let size = ap length same in
    absurd (omega (arith, size, length-append (point_bytes q) (flat_map point_bytes other), length-point q))
line-told (p ∷ one) [] ones others same =
    let size = ap length same in
    absurd (omega (arith, size, length-append (point_bytes p) (flat_map point_bytes one), length-point p))
line-told (p ∷ one) (q ∷ other) ones others same =
    let first = point-then p q (flat_map point_bytes one) (flat_map point_bytes other) ones.0 others.0 same in
    ap₂ ◌∷◌ first.0 (line-told one other ones.1 others.1 first.1)

-- ---- replies

told-words : (told : Confirmation) → IsTold told → AllByRecursion IsWord (confirmation_numbers told)
told-words told fits =
    let trip = fits.0.1 in
    let vehicle = fits.1.1 in
    let from = fits.2 in
    let to = fits.3 in
    let fare = told.fare_in_range in
    let due = told.due_in_range in
    (trip, (vehicle, (omega arith, (omega arith, (omega arith, (omega arith, tt))))))

confirmation-told : (one other : Confirmation) → IsTold one → IsTold other
    → numbers_bytes (confirmation_numbers one) ≡ numbers_bytes (confirmation_numbers other) → one ≡ other
confirmation-told one other ones others same =
    told-same one other
    (numbers-read (numbers_bytes (confirmation_numbers other)) (confirmation_numbers other) one (told-words other others) refl ones
    (sym same))

pub reply-told : (one other : KeptReply) → IsReply one → IsReply other → reply_spelling one ≡ reply_spelling other
    → one ≡ other
reply-told Done Done ones others same = refl
reply-told (Entered a) (Entered b) ones others same =
    ap (λ (n : ℕ). Entered n) (number-same a b ones others (ap (drop 1) same))
reply-told (Booked a) (Booked b) ones others same =
    ap (λ (c : Confirmation). Booked c) (confirmation-told a b ones others (ap (drop 1) same))
reply-told one other ones others same = absurd (omega (arith, ap (λ (bytes : List ℕ). get_or bytes 0 0) same))

-- ---- the conditions of a grant, which no semicolon (byte 59) is part of

abbrev pub NoSemicolon : ℕ → Type 0
NoSemicolon b = (b == 59) ≡ false

digit-apart : (c : ℕ) → digit_value c < 10 → NoSemicolon c
digit-apart c digit = grind (arith, nat_tests)

digits-apart : (text : List ℕ) → AllDigits 10 text → AllByRecursion NoSemicolon text
digits-apart [] digits = tt
digits-apart (c ∷ text) digits = (digit-apart c digits.0, digits-apart text digits.1)

decimal-apart : (n : ℕ) → n ≤ 100_000 → AllByRecursion NoSemicolon (decimal n)
decimal-apart n few = digits-apart (decimal n) (decimal_is_IsNumeral n (omega arith)).0.1

numbers-apart : (numbers : List ℕ) → AllByRecursion (IsInRange 1 12) numbers
    → AllByRecursion NoSemicolon (numbers_text numbers)
numbers-apart [] months = tt
numbers-apart (n ∷ []) months = let top = months.0.1 in decimal-apart n (omega arith)
numbers-apart (n ∷ m ∷ numbers) months =
    let top = months.0.1 in
    all-append NoSemicolon (decimal n) (44 ∷ numbers_text (m ∷ numbers)) (decimal-apart n (omega arith))
    (refl, numbers-apart (m ∷ numbers) months.1)

pub condition-apart : (condition : Condition) → IsCondition condition
    → AllByRecursion NoSemicolon (condition_text condition)
condition-apart Always fits = (refl, (refl, (refl, (refl, (refl, (refl, tt))))))
condition-apart (Months months) fits =
    all-append NoSemicolon (codes "months:") (numbers_text (numbers_of months))
    (refl, (refl, (refl, (refl, (refl, (refl, (refl, tt)))))))
    (numbers-apart (numbers_of months)
    (recursion_from_All (IsInRange 1 12) (numbers_of months) (months-from_set months fits).in_range))
condition-apart (Farther feet) fits =
    all-append NoSemicolon (codes "farther:") (decimal feet)
    (refl, (refl, (refl, (refl, (refl, (refl, (refl, (refl, tt)))))))) (decimal-apart feet fits.1)
condition-apart NoLift fits = (refl, (refl, (refl, (refl, (refl, (refl, tt))))))

condition-some : (condition : Condition) → 0 < length (condition_text condition)
condition-some Always = omega arith
condition-some (Months months) = omega (arith, length-append (codes "months:") (numbers_text (numbers_of months)))
condition-some (Farther feet) = omega (arith, length-append (codes "farther:") (decimal feet))
condition-some NoLift = omega arith

abbrev pub joined : List Condition → List ℕ
joined conditions = join_with_byte 59 (map condition_text conditions)

joined-some : (c : Condition) (conditions : List Condition) → 0 < length (joined (c ∷ conditions))
joined-some c [] = condition-some c
joined-some c (d ∷ conditions) =
    let some = condition-some c in
    omega (arith, length-append (condition_text c) (59 ∷ joined (d ∷ conditions)))

-- cut at the semicolons, it has the texts
pub split-joined : (c : Condition) (conditions : List Condition) → AllByRecursion IsCondition (c ∷ conditions)
    → slice_split (λ b. b == 59) (joined (c ∷ conditions)) ≡ map condition_text (c ∷ conditions)
split-joined c [] fit =
    slice_split_none (λ b. b == 59) (condition_text c)
    (All-from_recursion NoSemicolon (condition_text c) (condition-apart c fit.0))
split-joined c (d ∷ conditions) fit =
    slice_split_at (λ b. b == 59) (condition_text c) 59 (joined (d ∷ conditions))
    (All-from_recursion NoSemicolon (condition_text c) (condition-apart c fit.0)) refl
    ∙ ap (λ (parts : List (List ℕ)). condition_text c ∷ parts) (split-joined d conditions fit.1)

texts-told : (one other : List Condition) → AllByRecursion IsCondition one → AllByRecursion IsCondition other
    → map condition_text one ≡ map condition_text other → one ≡ other
texts-told [] [] ones others same = refl
texts-told [] (d ∷ other) ones others same = absurd (cc)
texts-told (c ∷ one) [] ones others same = absurd (cc)
texts-told (c ∷ one) (d ∷ other) ones others same =
    let head : condition_text c ≡ condition_text d = cc in
    let tail : map condition_text one ≡ map condition_text other = cc in
    ap₂ ◌∷◌ (condition_text-injective c d ones.0 others.0 head) (texts-told one other ones.1 others.1 tail)

conditions-told : (one other : List Condition) → AllByRecursion IsCondition one → AllByRecursion IsCondition other
    → joined one ≡ joined other → one ≡ other
conditions-told [] [] ones others same = refl
conditions-told [] (d ∷ other) ones others same =
    absurd (let size = ap length same in let some = joined-some d other in omega arith)
conditions-told (c ∷ one) [] ones others same =
    absurd (let size = ap length same in let some = joined-some c one in omega arith)
conditions-told (c ∷ one) (d ∷ other) ones others same =
    texts-told (c ∷ one) (d ∷ other) ones others
    (sym (split-joined c one ones) ∙ ap (slice_split (λ b. b == 59)) same ∙ split-joined d other others)

pub grant-told : (one other : Grant) → All IsCondition one.conditions → All IsCondition other.conditions
    → one.until ≡ other.until → conditions_text one ≡ conditions_text other → one ≡ other
grant-told one other ones others until same =
    let fit = recursion_from_All IsCondition one.conditions ones in
    let others_fit = recursion_from_All IsCondition other.conditions others in
    let conditions = conditions-told one.conditions other.conditions fit others_fit same in
    λ i. record { until = until i; conditions = conditions i }
