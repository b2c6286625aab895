-- Lines as texts: their words, and that no line's text begins another's.
use Rattle.std.proofs.Common.{◌≡◌, ℕ, ◌+◌, ◌≤◌, ◌<◌, false, List, [], ◌∷◌, ◌++◌, length, decimal, drop, get_or, Some}
use Rattle.std.proofs.Common.{suc, take, refl, sym, ap, ap₂, subst, ◌∙◌, arith, inl, inr, append_assoc, length-append}
use Rattle.std.specs.Prelude.{◌==◌, ◌&&◌, if◌then◌else◌, codes, None, Bool, true}
use Rattle.std.specs.Char.{digit_value}
use Rattle.std.specs.List.{All, AllByRecursion, flat_map, position, position_from}
use Rattle.std.proofs.lemmas.Bool.{cond-false, eqb-true}
use Rattle.std.proofs.lemmas.Option.{same_Some}
use Rattle.std.proofs.lemmas.Iterator.Adapters.{position_from-zero}
use Rattle.std.specs.Str.Parse.{AllDigits}
use Rattle.std.proofs.lemmas.Bool.Decides.{nat_tests}
use Rattle.std.proofs.lemmas.List.{take_at, drop_at, flat_map_more}
use Rattle.std.proofs.lemmas.Fmt.{decimal_is_IsNumeral}
use Rattle.std.proofs.lemmas.List.Elements.{All-from_recursion, All-nil, All-append, All-cons, All-head, All-tail}
use Rattle.pt_audit.specs.declared.line.Line.{Line}
use Rattle.pt_audit.specs.declared.line.Line.TheVariants as line
use Rattle.pt_audit.specs.declared.line.Raise.TheVariants as raise
use Rattle.pt_audit.specs.declared.line.End.TheVariants as end
use Rattle.pt_audit.specs.Letters.{count_after, line_with_one, line_with_two}
use Rattle.pt_audit.specs.Text.{keyword_of, numbers_of, number_text, words_of, line_text, opening, closing, IsNoLog, FailsAt, IsNumber, IsInForm}

-- the bytes that are letters or digits
abbrev pub IsWord : List ℕ → Type 0
IsWord bytes = All (λ b. (48 ≤ b) × (b < 91)) bytes

digit-among : (c : ℕ) → digit_value c < 10 → (48 ≤ c) × (c < 91)
digit-among c digit = grind (arith, nat_tests)

digits-word : (text : List ℕ) → AllDigits 10 text → IsWord text
digits-word [] digits = All-nil (λ b. (48 ≤ b) × (b < 91))
digits-word (c ∷ text) digits = All-cons (λ b. (48 ≤ b) × (b < 91)) c text (digit-among c digits.0) (digits-word text digits.1)

-- a number's digits are a word
pub decimal-word : (n : ℕ) → IsNumber n → IsWord (decimal n)
decimal-word n small = digits-word (decimal n) (decimal_is_IsNumeral n (omega arith)).0.1

-- letters or digits, one by one
letters : (bytes : List ℕ) → AllByRecursion (λ b. (48 ≤ b) × (b < 91)) bytes → IsWord bytes
letters bytes each = All-from_recursion (λ b. (48 ≤ b) × (b < 91)) bytes each

-- a line begins with a word
pub keyword-word : (line : Line) → IsWord (keyword_of line)
keyword-word line.NoDirect = letters (codes "NODIRECT") (
  (omega arith, omega arith),
  (
    (omega arith, omega arith),
    (
      (omega arith, omega arith),
      (
        (omega arith, omega arith),
        (
          (omega arith, omega arith),
          (
            (omega arith, omega arith),
            ((omega arith, omega arith), ((omega arith, omega arith), tt)),
          ),
        ),
      ),
    ),
  ),
)
keyword-word (line.Case v i j) = letters (codes "CASE") ((omega arith, omega arith), ((omega arith, omega arith), ((omega arith, omega arith), ((omega arith, omega arith), tt))))
keyword-word (line.Raise (raise.Window k n)) = letters (codes "F") ((omega arith, omega arith), tt)
keyword-word (line.Raise (raise.Drive k n)) = letters (codes "A") ((omega arith, omega arith), tt)
keyword-word (line.Raise (raise.Ride k n)) = letters (codes "P") ((omega arith, omega arith), tt)
keyword-word (line.Raise (raise.Duration n)) = letters (codes "T") ((omega arith, omega arith), tt)
keyword-word (line.End (end.Late k)) = letters (codes "W") ((omega arith, omega arith), tt)
keyword-word (line.End (end.Overloaded k)) = letters (codes "L") ((omega arith, omega arith), tt)
keyword-word (line.End (end.NoWay k)) = letters (codes "M") ((omega arith, omega arith), tt)
keyword-word (line.End end.TooLong) = letters (codes "S") ((omega arith, omega arith), tt)

-- a line has at most three numbers
pub few_numbers : (line : Line) → length (numbers_of line) ≤ 3
few_numbers line.NoDirect = omega arith
few_numbers (line.Case v i j) = omega arith
few_numbers (line.Raise (raise.Window k n)) = omega arith
few_numbers (line.Raise (raise.Drive k n)) = omega arith
few_numbers (line.Raise (raise.Ride k n)) = omega arith
few_numbers (line.Raise (raise.Duration n)) = omega arith
few_numbers (line.End (end.Late k)) = omega arith
few_numbers (line.End (end.Overloaded k)) = omega arith
few_numbers (line.End (end.NoWay k)) = omega arith
few_numbers (line.End end.TooLong) = omega arith

-- the first letter of a line gives how many numbers it has
pub count_of : (line : Line) → count_after (get_or (words_of line) 0 0) ≡ length (numbers_of line)
count_of line.NoDirect = refl
count_of (line.Case v i j) = refl
count_of (line.Raise (raise.Window k n)) = refl
count_of (line.Raise (raise.Drive k n)) = refl
count_of (line.Raise (raise.Ride k n)) = refl
count_of (line.Raise (raise.Duration n)) = refl
count_of (line.End (end.Late k)) = refl
count_of (line.End (end.Overloaded k)) = refl
count_of (line.End (end.NoWay k)) = refl
count_of (line.End end.TooLong) = refl

pub first_letter : (line : Line) (more : List ℕ) → get_or (words_of line ++ more) 0 0 ≡ get_or (words_of line) 0 0
first_letter line.NoDirect more = refl
first_letter (line.Case v i j) more = refl
first_letter (line.Raise (raise.Window k n)) more = refl
first_letter (line.Raise (raise.Drive k n)) more = refl
first_letter (line.Raise (raise.Ride k n)) more = refl
first_letter (line.Raise (raise.Duration n)) more = refl
first_letter (line.End (end.Late k)) more = refl
first_letter (line.End (end.Overloaded k)) more = refl
first_letter (line.End (end.NoWay k)) more = refl
first_letter (line.End end.TooLong) more = refl

-- the line is read of a letter and a number
pub record IsOfOne (line : Line) (letter k : ℕ) : Type 0 where
  pub keyword : keyword_of line ≡ letter ∷ []
  pub numbers : numbers_of line ≡ k ∷ []

pub of_one : (letter k : ℕ) (made : Line) → line_with_one letter k ≡ Some made → IsOfOne made letter k
of_one letter k made is = go (letter == 87) (letter == 76) (letter == 77) (eqb-true letter 87) (eqb-true letter 76) (eqb-true letter 77) is
  where
    from : (found : Line) → Some found ≡ Some made → IsOfOne found letter k → IsOfOne made letter k
    from found same parts = subst (λ (l : Line). IsOfOne l letter k) (same_Some found made same) parts

    go : (late overloaded no_way : Bool) → (late ≡ true → letter ≡ 87) → (overloaded ≡ true → letter ≡ 76) → (no_way ≡ true → letter ≡ 77)
        → (if late then Some (line.End (end.Late k)) else if overloaded then Some (line.End (end.Overloaded k)) else
        if no_way then Some (line.End (end.NoWay k)) else None) ≡ Some made → IsOfOne made letter k
    go true overloaded no_way a b c is = from (line.End (end.Late k)) is (record { keyword = ap (λ l. l ∷ []) (sym (a refl)); numbers = refl })
    go false true no_way a b c is = from (line.End (end.Overloaded k)) is (record { keyword = ap (λ l. l ∷ []) (sym (b refl)); numbers = refl })
    go false false true a b c is = from (line.End (end.NoWay k)) is (record { keyword = ap (λ l. l ∷ []) (sym (c refl)); numbers = refl })
    go false false false a b c is = absurd (cc)

pub one_back : (line : Line) → length (numbers_of line) ≡ 1 → (letter k : ℕ) × IsOfOne line letter k × (line_with_one letter k ≡ Some line)
one_back line.NoDirect one = absurd (omega (arith, one))
one_back (line.Case v i j) one = absurd (omega (arith, one))
one_back (line.Raise (raise.Window k n)) one = absurd (omega (arith, one))
one_back (line.Raise (raise.Drive k n)) one = absurd (omega (arith, one))
one_back (line.Raise (raise.Ride k n)) one = absurd (omega (arith, one))
one_back (line.Raise (raise.Duration n)) one = absurd (omega (arith, one))
one_back (line.End (end.Late k)) one = (87, k, record { keyword = refl; numbers = refl }, refl)
one_back (line.End (end.Overloaded k)) one = (76, k, record { keyword = refl; numbers = refl }, refl)
one_back (line.End (end.NoWay k)) one = (77, k, record { keyword = refl; numbers = refl }, refl)
one_back (line.End end.TooLong) one = absurd (omega (arith, one))

-- the line is read of a letter and two numbers
pub record IsOfTwo (line : Line) (letter k n : ℕ) : Type 0 where
  pub keyword : keyword_of line ≡ letter ∷ []
  pub numbers : numbers_of line ≡ k ∷ n ∷ []

pub of_two : (letter k n : ℕ) (made : Line) → line_with_two letter k n ≡ Some made → IsOfTwo made letter k n
of_two letter k n made is = go (letter == 70) (letter == 65) (letter == 80) (letter == 84) (k == 0)
    (eqb-true letter 70) (eqb-true letter 65) (eqb-true letter 80) (eqb-true letter 84) (eqb-true k 0) is
  where
    from : (found : Line) → Some found ≡ Some made → IsOfTwo found letter k n → IsOfTwo made letter k n
    from found same parts = subst (λ (l : Line). IsOfTwo l letter k n) (same_Some found made same) parts

    go : (window drive ride duration zero : Bool) → (window ≡ true → letter ≡ 70) → (drive ≡ true → letter ≡ 65) → (ride ≡ true → letter ≡ 80) → (duration ≡ true → letter ≡ 84) → (zero ≡ true → k ≡ 0)
        → (if window then Some (line.Raise (raise.Window k n)) else if drive then Some (line.Raise (raise.Drive k n))
        else if ride then Some (line.Raise (raise.Ride k n)) else if duration && zero then Some
        (line.Raise (raise.Duration n)) else None) ≡ Some made → IsOfTwo made letter k n
    go true drive ride duration zero a b c d e is = from (line.Raise (raise.Window k n)) is (record { keyword = ap (λ l. l ∷ []) (sym (a refl)); numbers = refl })
    go false true ride duration zero a b c d e is = from (line.Raise (raise.Drive k n)) is (record { keyword = ap (λ l. l ∷ []) (sym (b refl)); numbers = refl })
    go false false true duration zero a b c d e is = from (line.Raise (raise.Ride k n)) is (record { keyword = ap (λ l. l ∷ []) (sym (c refl)); numbers = refl })
    go false false false true true a b c d e is = from (line.Raise (raise.Duration n)) is (record { keyword = ap (λ l. l ∷ []) (sym (d refl)); numbers = ap (λ x. x ∷ n ∷ []) (sym (e refl)) })
    go false false false true false a b c d e is = absurd (cc)
    go false false false false zero a b c d e is = absurd (cc)

pub two_back : (line : Line) → length (numbers_of line) ≡ 2 → (letter k n : ℕ) × IsOfTwo line letter k n × (line_with_two letter k n ≡ Some line)
two_back line.NoDirect two = absurd (omega (arith, two))
two_back (line.Case v i j) two = absurd (omega (arith, two))
two_back (line.Raise (raise.Window k n)) two = (70, k, n, record { keyword = refl; numbers = refl }, refl)
two_back (line.Raise (raise.Drive k n)) two = (65, k, n, record { keyword = refl; numbers = refl }, refl)
two_back (line.Raise (raise.Ride k n)) two = (80, k, n, record { keyword = refl; numbers = refl }, refl)
two_back (line.Raise (raise.Duration n)) two = (84, 0, n, record { keyword = refl; numbers = refl }, refl)
two_back (line.End (end.Late k)) two = absurd (omega (arith, two))
two_back (line.End (end.Overloaded k)) two = absurd (omega (arith, two))
two_back (line.End (end.NoWay k)) two = absurd (omega (arith, two))
two_back (line.End end.TooLong) two = absurd (omega (arith, two))

-- only a case has three numbers
pub three_back : (it : Line) → length (numbers_of it) ≡ 3 → (v i j : ℕ) × (it ≡ line.Case v i j)
three_back line.NoDirect three = absurd (omega (arith, three))
three_back (line.Case v i j) three = (v, i, j, refl)
three_back (line.Raise (raise.Window k n)) three = absurd (omega (arith, three))
three_back (line.Raise (raise.Drive k n)) three = absurd (omega (arith, three))
three_back (line.Raise (raise.Ride k n)) three = absurd (omega (arith, three))
three_back (line.Raise (raise.Duration n)) three = absurd (omega (arith, three))
three_back (line.End (end.Late k)) three = absurd (omega (arith, three))
three_back (line.End (end.Overloaded k)) three = absurd (omega (arith, three))
three_back (line.End (end.NoWay k)) three = absurd (omega (arith, three))
three_back (line.End end.TooLong) three = absurd (omega (arith, three))

-- one number more before the others
spelled_more : (n : ℕ) (numbers : List ℕ) (more : List ℕ) → flat_map number_text (n ∷ numbers) ++ more ≡ number_text n ++ (flat_map number_text numbers ++ more)
spelled_more n numbers more = append_assoc (number_text n) (flat_map number_text numbers) more

-- a number after a number begins with a space
pub space_ends : (n : ℕ) (more : List ℕ) → get_or (number_text n ++ more) 0 0 < 48
space_ends n more = omega arith

one_spelled : (line : Line) (letter k : ℕ) → IsOfOne line letter k → (more : List ℕ) → words_of line ++ more ≡ letter ∷ (number_text k ++ more)
one_spelled line letter k parts more =
    ap₂ (λ (w : List ℕ) (ns : List ℕ). (w ++ flat_map number_text ns) ++ more) parts.keyword parts.numbers
    ∙ ap (λ (t : List ℕ). letter ∷ t) (spelled_more k [] more)

-- a letter and a number that make a line are its text
pub one_line : (line : Line) (letter k : ℕ) (text rest after : List ℕ) → text ≡ letter ∷ rest → IsNumber k
    → rest ≡ number_text k ++ after → line_with_one letter k ≡ Some line → IsInForm line
    × (text ≡ words_of line ++ after)
one_line line letter k text rest after front small spelled is =
    let parts = of_one letter k line is in (
      subst (All IsNumber) (sym parts.numbers) (All-cons IsNumber k [] small (All-nil IsNumber)),
      front ∙ ap (λ (t : List ℕ). letter ∷ t) spelled ∙ sym (one_spelled line letter k parts after),
    )

-- what follows the letter of a line with one number
pub record IsOne (line : Line) (letter : ℕ) (rest more : List ℕ) : Type 0 where
  pub k : ℕ
  pub small : IsNumber k
  pub stands : rest ≡ number_text k ++ more
  pub makes : line_with_one letter k ≡ Some line

pub one_parts : (line : Line) (letter : ℕ) (text rest more : List ℕ) → IsInForm line → length (numbers_of line) ≡ 1 → text ≡ words_of line ++ more → text ≡ letter ∷ rest → IsOne line letter rest more
one_parts line letter text rest more in_form one is front =
    let (first, k, parts, makes) = one_back line one in
    let same : letter ∷ rest ≡ first ∷ (number_text k ++ more) = sym front ∙ is ∙ one_spelled line first k parts more in
    record {
      k = k;
      small = All-head IsNumber k [] (subst (All IsNumber) parts.numbers in_form);
      stands = ap (drop 1) same;
      makes = ap (λ (l : ℕ). line_with_one l k) (ap (λ (t : List ℕ). get_or t 0 0) same) ∙ makes;
    }

two_spelled : (line : Line) (letter k n : ℕ) → IsOfTwo line letter k n → (more : List ℕ) → words_of line ++ more ≡ letter ∷ (number_text k ++ (number_text n ++ more))
two_spelled line letter k n parts more =
    ap₂ (λ (w : List ℕ) (ns : List ℕ). (w ++ flat_map number_text ns) ++ more) parts.keyword parts.numbers
    ∙ ap (λ (t : List ℕ). letter ∷ t) (spelled_more k (n ∷ []) more ∙ ap (λ (t : List ℕ). number_text k ++ t) (spelled_more n [] more))

-- a letter and two numbers that make a line are its text
pub two_line : (line : Line) (letter k n : ℕ) (text rest between after : List ℕ) → text ≡ letter ∷ rest → IsNumber k
    × (rest ≡ number_text k ++ between) → IsNumber n × (between ≡ number_text n ++ after)
    → line_with_two letter k n ≡ Some line → IsInForm line × (text ≡ words_of line ++ after)
two_line line letter k n text rest between after front first second is =
    let parts = of_two letter k n line is in (
      subst (All IsNumber) (sym parts.numbers) (All-cons IsNumber k (n ∷ []) first.0 (All-cons IsNumber n [] second.0 (All-nil IsNumber))),
      front ∙ ap (λ (t : List ℕ). letter ∷ t) (first.1 ∙ ap (λ (t : List ℕ). number_text k ++ t) second.1) ∙ sym (two_spelled line letter k n parts after),
    )

-- what follows the letter of a line with two numbers
pub record IsTwo (line : Line) (letter : ℕ) (rest more : List ℕ) : Type 0 where
  pub k : ℕ
  pub n : ℕ
  pub small : IsNumber k
  pub also_small : IsNumber n
  pub stands : rest ≡ number_text k ++ (number_text n ++ more)
  pub makes : line_with_two letter k n ≡ Some line

pub two_parts : (line : Line) (letter : ℕ) (text rest more : List ℕ) → IsInForm line → length (numbers_of line) ≡ 2 → text ≡ words_of line ++ more → text ≡ letter ∷ rest → IsTwo line letter rest more
two_parts line letter text rest more in_form two is front =
    let (first, k, n, parts, makes) = two_back line two in
    let same : letter ∷ rest ≡ first ∷ (number_text k ++ (number_text n ++ more)) = sym front ∙ is ∙ two_spelled line first k n parts more in
    let form : All IsNumber (k ∷ n ∷ []) = subst (All IsNumber) parts.numbers in_form in
    record {
      k = k;
      n = n;
      small = All-head IsNumber k (n ∷ []) form;
      also_small = All-head IsNumber n [] (All-tail IsNumber k (n ∷ []) form);
      stands = ap (drop 1) same;
      makes = ap (λ (l : ℕ). line_with_two l k n) (ap (λ (t : List ℕ). get_or t 0 0) same) ∙ makes;
    }

three_spelled : (v i j : ℕ) (more : List ℕ) → words_of (line.Case v i j) ++ more ≡ codes "CASE" ++ (number_text v ++ (number_text i ++ (number_text j ++ more)))
three_spelled v i j more =
    append_assoc (codes "CASE") (flat_map number_text (v ∷ i ∷ j ∷ [])) more
    ∙ ap (λ (t : List ℕ). codes "CASE" ++ t) (spelled_more v (i ∷ j ∷ []) more
    ∙ ap (λ (t : List ℕ). number_text v ++ t) (spelled_more i (j ∷ []) more ∙ ap (λ (t : List ℕ). number_text i ++ t) (spelled_more j [] more)))

-- a case's word and numbers are its text
pub three_line : (v i j : ℕ) (text one two three after : List ℕ) → text ≡ codes "CASE" ++ one → IsNumber v
    × (one ≡ number_text v ++ two) → IsNumber i × (two ≡ number_text i ++ three) → IsNumber j
    × (three ≡ number_text j ++ after)
    → IsInForm (line.Case v i j) × (text ≡ words_of (line.Case v i j) ++ after)
three_line v i j text one two three after front first second third = (
  All-cons IsNumber v (i ∷ j ∷ []) first.0 (All-cons IsNumber i (j ∷ []) second.0 (All-cons IsNumber j [] third.0 (All-nil IsNumber))),
  front ∙ ap (λ (t : List ℕ). codes "CASE" ++ t) (first.1 ∙ ap (λ (t : List ℕ). number_text v ++ t) (second.1 ∙ ap (λ (t : List ℕ). number_text i ++ t) third.1)) ∙ sym (three_spelled v i j after),
)

-- the parts of the text of a case
pub record IsThree (made : Line) (text more : List ℕ) : Type 0 where
  pub v : ℕ
  pub i : ℕ
  pub j : ℕ
  pub is : made ≡ line.Case v i j
  pub first : IsNumber v
  pub second : IsNumber i
  pub third : IsNumber j
  pub stands : text ≡ codes "CASE" ++ (number_text v ++ (number_text i ++ (number_text j ++ more)))

pub three_parts : (line : Line) (text more : List ℕ) → IsInForm line → length (numbers_of line) ≡ 3 → text ≡ words_of line ++ more → IsThree line text more
three_parts line text more in_form three is =
    let (v, i, j, same) = three_back line three in
    let form : All IsNumber (v ∷ i ∷ j ∷ []) = subst IsInForm same in_form in
    record {
      v = v;
      i = i;
      j = j;
      is = same;
      first = All-head IsNumber v (i ∷ j ∷ []) form;
      second = All-head IsNumber i (j ∷ []) (All-tail IsNumber v (i ∷ j ∷ []) form);
      third = All-head IsNumber j [] (All-tail IsNumber i (j ∷ []) (All-tail IsNumber v (i ∷ j ∷ []) form));
      stands = is ∙ ap (λ (l : Line). words_of l ++ more) same ∙ three_spelled v i j more;
    }

-- the first letter of a text that begins with a line gives how many numbers the line has
pub count_told : (line : Line) (text more : List ℕ) (letter : ℕ) → text ≡ words_of line ++ more → get_or text 0 0 ≡ letter → count_after letter ≡ length (numbers_of line)
count_told line text more letter is first =
    ap count_after (sym first ∙ ap (λ (t : List ℕ). get_or t 0 0) is ∙ first_letter line more) ∙ count_of line

-- a line has a first letter
pub some_word : (line : Line) → 0 < length (words_of line)
some_word line.NoDirect = omega arith
some_word (line.Case v i j) = omega arith
some_word (line.Raise (raise.Window k n)) = omega arith
some_word (line.Raise (raise.Drive k n)) = omega arith
some_word (line.Raise (raise.Ride k n)) = omega arith
some_word (line.Raise (raise.Duration n)) = omega arith
some_word (line.End (end.Late k)) = omega arith
some_word (line.End (end.Overloaded k)) = omega arith
some_word (line.End (end.NoWay k)) = omega arith
some_word (line.End end.TooLong) = omega arith

-- no byte is a newline
abbrev pub IsOneLine : List ℕ → Type 0
IsOneLine bytes = All (λ b. (b == 10) ≡ false) bytes

lineless : (c : ℕ) → 48 ≤ c → (c == 10) ≡ false
lineless c letter = grind (arith, nat_tests)

numbers-one_line : (numbers : List ℕ) → All IsNumber numbers → IsOneLine (flat_map number_text numbers)
numbers-one_line [] small = All-nil (λ b. (b == 10) ≡ false)
numbers-one_line (n ∷ numbers) small =
    let digits = decimal-word n (All-head IsNumber n numbers small) in
    All-append (λ b. (b == 10) ≡ false) (32 ∷ decimal n) (flat_map number_text numbers)
    (All-cons (λ b. (b == 10) ≡ false) 32 (decimal n) refl (λ k d inside. lineless (get_or (decimal n) k d) (digits k d inside).0))
    (numbers-one_line numbers (All-tail IsNumber n numbers small))

pub words-one_line : (line : Line) → IsInForm line → IsOneLine (words_of line)
words-one_line line in_form = All-append (λ b. (b == 10) ≡ false) (keyword_of line) (flat_map number_text (numbers_of line))
    (λ k d inside. lineless (get_or (keyword_of line) k d) (keyword-word line k d inside).0) (numbers-one_line (numbers_of line) in_form)

-- the first newline comes after the line's words
position-after : (words more : List ℕ) (from : ℕ) → IsOneLine words → position_from (λ b. b == 10) from (words ++ 10 ∷ more) ≡ Some (from + length words)
position-after [] more from clean = let same : from ≡ from + 0 = omega arith in ap Some same
position-after (c ∷ words) more from clean =
    let here : (c == 10) ≡ false = All-head (λ b. (b == 10) ≡ false) c words clean in
    let later = position-after words more (from + 1) (All-tail (λ b. (b == 10) ≡ false) c words clean) in
    let same : from + 1 + length words ≡ from + suc (length words) = omega arith in
    cond-false (c == 10) (Some from) (position_from (λ b. b == 10) (from + 1) (words ++ 10 ∷ more)) here ∙ later ∙ ap Some same

pub newline-after : (text words more : List ℕ) → IsOneLine words → text ≡ words ++ 10 ∷ more → position (λ b. b == 10) text ≡ Some (length words)
newline-after text words more clean is =
    let same : 0 + length words ≡ length words = omega arith in
    position_from-zero (λ b. b == 10) text ∙ ap (position_from (λ b. b == 10) 0) is ∙ position-after words more 0 clean ∙ ap Some same

-- the front of a text that begins with a line
pub record IsFront (text : List ℕ) (line : Line) : Type 0 where
  pub newline : position (λ b. b == 10) text ≡ Some (length (words_of line))
  pub words : take (length (words_of line)) text ≡ words_of line
  pub whole : take (length (words_of line) + 1) text ≡ line_text line

pub front_line : (text : List ℕ) (line : Line) (more : List ℕ) → IsInForm line → text ≡ line_text line ++ more → IsFront text line
front_line text line more in_form is =
    let words = words_of line in
    let apart : text ≡ words ++ 10 ∷ more = is ∙ append_assoc words (10 ∷ []) more in
    let count : length (line_text line) ≡ length words + 1 = length-append words (10 ∷ []) in
    record {
      newline = newline-after text words more (words-one_line line in_form) apart;
      words = ap (take (length words)) apart ∙ take_at words (10 ∷ more) (length words) refl;
      whole = ap (take (length words + 1)) is ∙ take_at (line_text line) more (length words + 1) count;
    }

-- the last line of a log is none of its other lines
not_closing : (line : Line) (more : List ℕ) → ¬ (line_text line ++ more ≡ closing)
not_closing line.NoDirect more is = absurd (omega (arith, ap (λ t. get_or t 0 0) is))
not_closing (line.Case v i j) more is = absurd (omega (arith, ap (λ t. get_or t 0 0) is))
not_closing (line.Raise (raise.Window k n)) more is = absurd (omega (arith, ap (λ t. get_or t 0 0) is))
not_closing (line.Raise (raise.Drive k n)) more is = absurd (omega (arith, ap (λ t. get_or t 0 0) is))
not_closing (line.Raise (raise.Ride k n)) more is = absurd (omega (arith, ap (λ t. get_or t 0 0) is))
not_closing (line.Raise (raise.Duration n)) more is = absurd (omega (arith, ap (λ t. get_or t 0 0) is))
not_closing (line.End (end.Late k)) more is = absurd (omega (arith, ap (λ t. get_or t 0 0) is))
not_closing (line.End (end.Overloaded k)) more is = absurd (omega (arith, ap (λ t. get_or t 0 0) is))
not_closing (line.End (end.NoWay k)) more is = absurd (omega (arith, ap (λ t. get_or t 0 0) is))
not_closing (line.End end.TooLong) more is = absurd (omega (arith, ap (λ t. get_or t 0 0) is))

-- what follows two lines at the front of one text is the same
same_after : (one other : Line) (x y : List ℕ) → IsInForm one → IsInForm other → line_text one ++ x ≡ line_text other ++ y → x ≡ y
same_after one other x y form form' same =
    let first = front_line (line_text one ++ x) one x form refl in
    let second = front_line (line_text one ++ x) other y form' same in
    let places : Some (length (words_of one)) ≡ Some (length (words_of other)) = sym first.newline ∙ second.newline in
    let count : length (words_of one) ≡ length (words_of other) = cc in
    let one_long : length (line_text one) ≡ length (words_of one) + 1 = length-append (words_of one) (10 ∷ []) in
    let other_long : length (line_text other) ≡ length (words_of one) + 1 = length-append (words_of other) (10 ∷ []) ∙ ap (λ n. n + 1) (sym count) in
    sym (drop_at (line_text one) x (length (words_of one) + 1) one_long) ∙ ap (drop (length (words_of one) + 1)) same ∙ drop_at (line_text other) y (length (words_of one) + 1) other_long

-- if the rest is neither a line nor the end, the text is no log
never_ends : (before lines : List Line) (rest : List ℕ) → All IsInForm before → All IsInForm lines → (rest ≡ closing → ⊥)
    → ((line : Line) (more : List ℕ) → IsInForm line → rest ≡ line_text line ++ more → ⊥)
    → flat_map line_text before ++ rest ≡ flat_map line_text lines ++ closing → ⊥
never_ends [] [] rest form form' no_end no_line same = no_end same
never_ends [] (line ∷ lines) rest form form' no_end no_line same =
    no_line line (flat_map line_text lines ++ closing) (All-head IsInForm line lines form') (same ∙ append_assoc (line_text line) (flat_map line_text lines) closing)
never_ends (first ∷ before) [] rest form form' no_end no_line same =
    not_closing first (flat_map line_text before ++ rest) (sym (append_assoc (line_text first) (flat_map line_text before) rest) ∙ same)
never_ends (first ∷ before) (line ∷ lines) rest form form' no_end no_line same =
    let tails = same_after first line (flat_map line_text before ++ rest) (flat_map line_text lines ++ closing) (All-head IsInForm first before form) (All-head IsInForm line lines form')
    (sym (append_assoc (line_text first) (flat_map line_text before) rest) ∙ same ∙ append_assoc (line_text line) (flat_map line_text lines) closing) in
    never_ends before lines rest (All-tail IsInForm first before form) (All-tail IsInForm line lines form') no_end no_line tails

-- a text with a row out of form is no log
pub fails_no_log : (text : List ℕ) (row : ℕ) → FailsAt text row → IsNoLog text
fails_no_log text row fails lines log = elim fails [
  | inl first ↦ first.1 (flat_map line_text lines ++ closing) (log.1 ∙ append_assoc opening (flat_map line_text lines) closing)
  | inr out ↦
      let both : (opening ++ flat_map line_text out.before) ++ out.rest ≡ (opening ++ flat_map line_text lines) ++ closing = sym out.begins ∙ log.1 in
      let tails : flat_map line_text out.before ++ out.rest ≡ flat_map line_text lines ++ closing = cc in
      never_ends out.before lines out.rest out.in_form log.0 out.no_end out.no_line tails
]

-- one more line at the front
pub one_line_more : (text : List ℕ) (lines : List Line) (line : Line) (rest after : List ℕ) → text ≡ opening ++ flat_map line_text lines ++ rest → rest ≡ line_text line ++ after
    → text ≡ opening ++ flat_map line_text (lines ++ line ∷ []) ++ after
one_line_more text lines line rest after begins is =
    begins ∙ ap (λ t. (opening ++ flat_map line_text lines) ++ t) is
    ∙ sym (append_assoc (opening ++ flat_map line_text lines) (line_text line) after)
    ∙ ap (λ t. t ++ after) (flat_map_more line_text opening lines line)

-- a line has bytes
pub some_bytes : (line : Line) → 0 < length (line_text line)
some_bytes line = omega (arith, length-append (words_of line) (10 ∷ []))
