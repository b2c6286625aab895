-- Numbers of months as a text, and back.
use Rattle.std.proofs.Common.{◌≡◌, ℕ, ◌+◌, ◌≤◌, ◌<◌, Bool, true, false, List, [], ◌∷◌, map, length, decimal, get_or, Ok, Some, None, ◌↔◌, refl, sym, ap, ◌∙◌, arith}
use Rattle.std.proofs.lemmas.Bool.Decides.{nat_tests}
use Rattle.std.proofs.lemmas.List.{get_or-map}
use Rattle.std.proofs.Math.ListN.{length-map}
use Rattle.std.proofs.lemmas.Fmt.{parse-decimal, decimal_is_IsNumeral, decimal_injective, length-decimal-le}
use Rattle.std.proofs.lemmas.List.Elements.{All-nil, All-cons, All-head, All-tail, All-get_or}
use Rattle.std.proofs.lemmas.List.Splits.{slice_split_none, slice_split_at}
use Rattle.std.specs.Char.{digit_value}
use Rattle.std.specs.Int.{IsInRange}
use Rattle.std.specs.List.{All, slice_split}
use Rattle.std.specs.Prelude.{◌==◌, Result, Option, IsSome, IfSome}
use Rattle.std.specs.Str.Parse.{AllDigits, ParsesUnsigned}
use Rattle.pt_rights_files.proofs.MonthMarks.{AreMonths-numbers_of, length-numbers_from}
use Rattle.pt_rights_files.specs.Months.{numbers_from, numbers_of, AreMonths, IsMonthSet}
use Rattle.pt_rights_conditions.specs.Texts.{numbers_text}

-- a decimal digit is no comma
digit-apart : (c : ℕ) → digit_value c < 10 → (c == 44) ≡ false
digit-apart c digit = grind (arith, nat_tests)

digits-apart : (text : List ℕ) → AllDigits 10 text → All (λ b. (b == 44) ≡ false) text
digits-apart [] digits = All-nil (λ b. (b == 44) ≡ false)
digits-apart (c ∷ text) digits = All-cons (λ b. (b == 44) ≡ false) c text (digit-apart c digits.0) (digits-apart text digits.1)

decimal-apart : (n : ℕ) → IsInRange 1 12 n → All (λ b. (b == 44) ≡ false) (decimal n)
decimal-apart n month = digits-apart (decimal n) (decimal_is_IsNumeral n (let top = month.1 in omega arith)).0.1

-- cut at the commas, the text has the numbers
split_numbers : (n : ℕ) (numbers : List ℕ) → All (IsInRange 1 12) (n ∷ numbers)
    → slice_split (λ b. b == 44) (numbers_text (n ∷ numbers)) ≡ map decimal (n ∷ numbers)
split_numbers n [] months = slice_split_none (λ b. b == 44) (decimal n) (decimal-apart n (All-head (IsInRange 1 12) n [] months))
split_numbers n (m ∷ numbers) months =
    slice_split_at (λ b. b == 44) (decimal n) 44 (numbers_text (m ∷ numbers)) (decimal-apart n (All-head (IsInRange 1 12) n (m ∷ numbers) months)) refl
    ∙ ap (λ parts. decimal n ∷ parts) (split_numbers m numbers (All-tail (IsInRange 1 12) n (m ∷ numbers) months))

pub split_months : (numbers : List ℕ) → AreMonths numbers → slice_split (λ b. b == 44) (numbers_text numbers) ≡ map decimal numbers
split_months [] months = absurd (let some = months.some in omega arith)
split_months (n ∷ numbers) months = split_numbers n numbers months.in_range

-- numbers of months with the same text are the same
decimals-injective : (one other : List ℕ) → All (IsInRange 1 12) one → All (IsInRange 1 12) other → map decimal one ≡ map decimal other → one ≡ other
decimals-injective [] [] ones others e = refl
decimals-injective [] (m ∷ other) ones others e = absurd (cc)
decimals-injective (n ∷ one) [] ones others e = absurd (cc)
decimals-injective (n ∷ one) (m ∷ other) ones others e =
    let top = (All-head (IsInRange 1 12) n one ones).1 in
    let least = (All-head (IsInRange 1 12) m other others).1 in
    let head : decimal n ≡ decimal m = cc in
    let tail : map decimal one ≡ map decimal other = cc in
    let same = decimal_injective n m (omega arith) (omega arith) head in
    let rest = decimals-injective one other (All-tail (IsInRange 1 12) n one ones) (All-tail (IsInRange 1 12) m other others) tail in
    cc

numbers_text-injective : (one other : List ℕ) → AreMonths one → AreMonths other → numbers_text one ≡ numbers_text other → one ≡ other
numbers_text-injective one other ones others e =
    decimals-injective one other ones.in_range others.in_range
    (sym (split_months one ones) ∙ ap (slice_split (λ b. b == 44)) e ∙ split_months other others)

-- the first number of marks is at least that of the first mark
first_number : (n : ℕ) (marks : List Bool) (x : ℕ) (xs : List ℕ) → numbers_from n marks ≡ x ∷ xs → n ≤ x
first_number n [] x xs e = absurd (cc)
first_number n (true ∷ marks) x xs e = let same : n ≡ x = cc in omega arith
first_number n (false ∷ marks) x xs e = let later = first_number (n + 1) marks x xs e in omega arith

-- marks of one length with the same numbers are the same
numbers_from-injective : (n : ℕ) (one other : List Bool) → length one ≡ length other → numbers_from n one ≡ numbers_from n other → one ≡ other
numbers_from-injective n [] [] size e = refl
numbers_from-injective n [] (b ∷ other) size e = absurd (omega arith)
numbers_from-injective n (b ∷ one) [] size e = absurd (omega arith)
numbers_from-injective n (true ∷ one) (true ∷ other) size e =
    let rest : numbers_from (n + 1) one ≡ numbers_from (n + 1) other = cc in
    ap (λ marks. true ∷ marks) (numbers_from-injective (n + 1) one other (omega arith) rest)
numbers_from-injective n (false ∷ one) (false ∷ other) size e =
    ap (λ marks. false ∷ marks) (numbers_from-injective (n + 1) one other (omega arith) e)
numbers_from-injective n (true ∷ one) (false ∷ other) size e =
    absurd (let later = first_number (n + 1) other n (numbers_from (n + 1) one) (sym e) in omega arith)
numbers_from-injective n (false ∷ one) (true ∷ other) size e =
    absurd (let later = first_number (n + 1) one n (numbers_from (n + 1) other) e in omega arith)

-- sets with the same numbers are the same
pub numbers_of-injective : (one other : List Bool) → IsMonthSet one → IsMonthSet other → numbers_of one ≡ numbers_of other → one ≡ other
numbers_of-injective one other ones others e = numbers_from-injective 1 one other (ones.0 ∙ sym others.0) e

-- the numbers of a set are months
pub months-from_set : (marks : List Bool) → IsMonthSet marks → AreMonths (numbers_of marks)
months-from_set marks set = AreMonths-numbers_of marks (let size = set.0 in omega arith) set.1

-- no two sets have the same text
pub months_text-injective : (one other : List Bool) → IsMonthSet one → IsMonthSet other → numbers_text (numbers_of one) ≡ numbers_text (numbers_of other) → one ≡ other
months_text-injective one other ones others e =
    numbers_of-injective one other ones others
    (numbers_text-injective (numbers_of one) (numbers_of other) (months-from_set one ones) (months-from_set other others) e)

-- a month has one or two digits
pub length-month : (numbers : List ℕ) (index d : ℕ) → AreMonths numbers → index < length numbers → length (decimal (get_or numbers index d)) ≤ 2
length-month numbers index d months inside =
    let month = All-get_or (IsInRange 1 12) numbers index d inside months.in_range in
    let top = month.1 in
    length-decimal-le 2 (get_or numbers index d) (omega arith) (omega arith) (omega arith)

-- a part of the text of months is one of them, and is read so
pub month_read : {E : Type 0} (text part : List ℕ) (marks : List Bool) (index : ℕ) (r : Result ℕ E) → IsMonthSet marks → text ≡ numbers_text (numbers_of marks)
    → (index < length (slice_split (λ b. b == 44) text)) × (part ≡ get_or (slice_split (λ b. b == 44) text) index part) → ParsesUnsigned 8 10 part r
    → (index < length (numbers_of marks)) × (r ≡ Ok (get_or (numbers_of marks) index 0))
month_read text part marks index r set spelled next parsed =
    let numbers = numbers_of marks in
    let months = months-from_set marks set in
    let parts = ap (slice_split (λ b. b == 44)) spelled ∙ split_months numbers months in
    let inside : index < length numbers = (let within = next.0 in omega (arith, ap length parts, length-map numbers decimal)) in
    let top = (All-get_or (IsInRange 1 12) numbers index 0 inside months.in_range).1 in
    let digits : part ≡ decimal (get_or numbers index 0) = next.1 ∙ ap (λ ps. get_or ps index part) parts ∙ get_or-map decimal numbers index 0 part inside in
    (inside, parse-decimal 8 (get_or numbers index 0) part r (omega arith) (omega arith) digits parsed)

-- a set has at most twelve months
pub length-months : (marks : List Bool) → IsMonthSet marks → length (numbers_of marks) ≤ 12
length-months marks set = let few = length-numbers_from 1 marks in let size = set.0 in omega arith

-- the text of a set has as many parts as the set has months
pub length-parts : (text : List ℕ) (marks : List Bool) → IsMonthSet marks → text ≡ numbers_text (numbers_of marks)
    → length (slice_split (λ b. b == 44) text) ≡ length (numbers_of marks)
length-parts text marks set spelled =
    ap (λ t. length (slice_split (λ b. b == 44) t)) spelled ∙ ap length (split_months (numbers_of marks) (months-from_set marks set)) ∙ length-map (numbers_of marks) decimal

-- the set that the numbers make is the one that they came from
pub set_found : (found : Option (List Bool)) (marks : List Bool) (numbers : List ℕ) → IsMonthSet marks → numbers ≡ numbers_of marks
    → IsSome found ↔ AreMonths numbers → IfSome found (λ set. numbers_of set ≡ numbers) → IfSome found IsMonthSet → found ≡ Some marks
set_found None marks numbers set same in_range value sets =
    absurd (let there = in_range.1 (rw same (months-from_set marks set)) in cc)
set_found (Some other) marks numbers set same in_range value sets =
    ap Some (numbers_of-injective other marks sets set (value ∙ same))
