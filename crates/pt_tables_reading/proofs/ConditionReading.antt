-- The conditions of a grant are read back from their text, which is cut at the semicolons (byte 59).
use Rattle.std.proofs.Common.{◌≡◌, ℕ, ◌<◌, ◌≤◌, List, [], ◌∷◌, ◌++◌, length, length-append, map, drop, get_or}
use Rattle.std.proofs.lemmas.List.{append_assoc, map-append, length-map}
use Rattle.std.proofs.lemmas.Str.Pattern.{IsSplitOnceResult, split_parts}
use Rattle.std.specs.Prelude.{Option, None, Some, MatchOption, ◌≢◌, ◌↔◌, IsSome, IfSome}
use Rattle.std.proofs.Common.{subst}
use denote.Ref.{Bor}
use Rattle.std.proofs.Common.{refl, sym, ap, ◌∙◌, arith}
use Rattle.std.specs.List.{AllByRecursion, join_with_byte}
use Rattle.std.specs.Prelude.{◌==◌}
use Rattle.std.proofs.lemmas.Bool.Decides.{nat_tests}
use Rattle.std.proofs.lemmas.List.Elements.{recursion_from_All, All-from_recursion, All-from_get_or}
use Rattle.std.proofs.lemmas.List.Splits.{slice_split_none, slice_split_at, join_with_byte-slice_split}
use Rattle.std.proofs.lemmas.List.Splits.{length-slice_split}
use Rattle.sqlite_keyed.proofs.ListLemmas.{all-append}
use Rattle.pt_rights_conditions.specs.Texts.{condition_text, SpellsCondition}
use Rattle.pt_rights_files.specs.Conditions.{IsCondition, IsConditions}
use Rattle.pt_rights_files.specs.declared.conditions.Condition.{Condition}
use Rattle.pt_tables_reading.specs.Reading.{Reads}
use Rattle.pt_tables_reading.specs.Fitting.{joined, parts_of, FitsConditions}
use Rattle.pt_tables_rows.proofs.SameRowsBytes.{NoSemicolon, condition-apart, split-joined}

-- ---- the parts of a text

abbrev pub AreConditions : List Condition → Type 0
AreConditions conditions = AllByRecursion IsCondition conditions

pub parts-joined : (conditions : List Condition) → FitsConditions conditions
    → parts_of (joined conditions) ≡ map condition_text conditions
parts-joined [] fits = absurd (let some = fits.0.0 in omega arith)
parts-joined (c ∷ conditions) fits =
    split-joined c conditions (recursion_from_All IsCondition (c ∷ conditions) fits.1)

-- each part is the text of a condition
part-told : (conditions : List Condition) (before : List (List ℕ)) (part : List ℕ) (later : List (List ℕ))
    → AreConditions conditions → map condition_text conditions ≡ before ++ part ∷ later
    → (c : Condition) × SpellsCondition part c
part-told [] before part later fits same =
    absurd (let size = ap length same in omega (arith, size, length-append before (part ∷ later)))
part-told (c ∷ conditions) [] part later fits same =
    (c, (fits.0, sym (ap (λ (parts : List (List ℕ)). get_or parts 0 []) same)))
part-told (c ∷ conditions) (b ∷ before) part later fits same =
    part-told conditions before part later fits.1 (ap (drop 1) same)

pub no-conditions : (conditions : List Condition) (text part : List ℕ) (before later : List (List ℕ))
    → FitsConditions conditions → joined conditions ≡ text → parts_of text ≡ before ++ part ∷ later
    → ((c : Condition) → ¬ (SpellsCondition part c)) → ⊥
no-conditions conditions text part before later fits same parted none =
    let parts = sym (parts-joined conditions fits) ∙ ap parts_of same ∙ parted in
    let told = part-told conditions before part later (recursion_from_All IsCondition conditions fits.1) parts in
    none told.0 told.1

-- the last part, where at most four are asked for
only-part : (parts : List (List ℕ)) (rest : List ℕ) → join_with_byte 59 parts ≡ rest → 1 ≤ length parts
    → length parts ≤ 1 → parts ≡ rest ∷ []
only-part [] rest same some few = absurd (omega arith)
only-part (part ∷ []) rest same some few = ap (λ (p : List ℕ). p ∷ []) same
only-part (part ∷ other ∷ parts) rest same some few = absurd (omega arith)

some-parts : (text : List ℕ) → 1 ≤ length (parts_of text)
some-parts text = let count = length-slice_split (λ b. b == 59) text in omega (arith, count)

pub last-part : (conditions : List Condition) (text rest : List ℕ) (before : List (List ℕ))
    → FitsConditions conditions → joined conditions ≡ text → parts_of text ≡ before ++ parts_of rest
    → 3 ≤ length before → parts_of rest ≡ rest ∷ []
last-part conditions text rest before fits same parted third =
    let parts = sym (parts-joined conditions fits) ∙ ap parts_of same ∙ parted in
    let size : length (map condition_text conditions) ≡ length (before ++ parts_of rest) = ap length parts in
    let sum = length-append before (parts_of rest) in
    let number = length-map conditions condition_text in
    let most = fits.0.1 in
    only-part (parts_of rest) rest (join_with_byte-slice_split 59 rest) (some-parts rest)
    (omega (arith, size, sum, number, most, third))

-- a last part that spells a condition is whole, and so the text has these conditions
pub text-joined : (members : List Condition) (c : Condition) (text rest : List ℕ)
    → parts_of text ≡ map condition_text members ++ parts_of rest → SpellsCondition rest c
    → joined (members ++ c ∷ []) ≡ text
text-joined members c text rest parted spelled =
    let whole : parts_of rest ≡ condition_text c ∷ []
    = ap parts_of spelled.1 ∙ slice_split_none (λ b. b == 59) (condition_text c)
    (All-from_recursion NoSemicolon (condition_text c) (condition-apart c spelled.0)) in
    let parts : map condition_text (members ++ c ∷ []) ≡ parts_of text
    = map-append condition_text members (c ∷ []) ∙ sym (parted ∙ ap (λ (p : List (List ℕ)). map condition_text members ++ p) whole) in
    ap (join_with_byte 59) parts ∙ join_with_byte-slice_split 59 text

pub fit-more : (members : List Condition) (c : Condition) (part : List ℕ) → AreConditions members
    → SpellsCondition part c → AreConditions (members ++ c ∷ [])
fit-more members c part fit spelled = all-append IsCondition members (c ∷ []) fit (spelled.0, tt)

-- one more part is taken off the front
pub parted-more : (members : List Condition) (c : Condition) (text rest part later : List ℕ)
    → parts_of text ≡ map condition_text members ++ parts_of rest → parts_of rest ≡ part ∷ parts_of later
    → SpellsCondition part c → parts_of text ≡ map condition_text (members ++ c ∷ []) ++ parts_of later
parted-more members c text rest part later parted first spelled =
    parted
    ∙ ap (λ (p : List (List ℕ)). map condition_text members ++ p)
    (first ∙ ap (λ (p : List ℕ). p ∷ parts_of later) spelled.1)
    ∙ sym (append_assoc (map condition_text members) (condition_text c ∷ []) (parts_of later))
    ∙ ap (λ (p : List (List ℕ)). p ++ parts_of later) (sym (map-append condition_text members (c ∷ [])))

-- the last part, where three were taken off or no more could be
pub last-told : (conditions : List Condition) (text rest : List ℕ) (before : List (List ℕ))
    → FitsConditions conditions → joined conditions ≡ text → parts_of text ≡ before ++ parts_of rest
    → (length before < 3 → parts_of rest ≡ rest ∷ []) → parts_of rest ≡ rest ∷ []
last-told conditions text rest [] fits same parted few = few (omega arith)
last-told conditions text rest (a ∷ []) fits same parted few = few (omega arith)
last-told conditions text rest (a ∷ b ∷ []) fits same parted few = few (omega arith)
last-told conditions text rest (a ∷ b ∷ c ∷ before) fits same parted few =
    last-part conditions text rest (a ∷ b ∷ c ∷ before) fits same parted (omega arith)

-- and so it spells a condition where the text has conditions
pub no-last : (conditions : List Condition) (text rest : List ℕ) (members : List Condition)
    → FitsConditions conditions → joined conditions ≡ text → parts_of text ≡ map condition_text members ++ parts_of rest
    → (length members < 3 → parts_of rest ≡ rest ∷ []) → ((c : Condition) → ¬ (SpellsCondition rest c)) → ⊥
no-last conditions text rest members fits same parted few none =
    let size = length-map members condition_text in
    let whole = last-told conditions text rest (map condition_text members) fits same parted
    (λ short. few (omega (arith, size, short))) in
    no-conditions conditions text rest (map condition_text members) [] fits same
    (parted ∙ ap (λ (p : List (List ℕ)). map condition_text members ++ p) whole) none

-- ---- where a text is cut

apart : (b : ℕ) → b ≢ 59 → NoSemicolon b
apart b other = grind (arith, nat_tests)

pub cut-parts : (text : List ℕ) (r : Option (Bor (List ℕ) × Bor (List ℕ))) → IsSplitOnceResult 59 text r
    → MatchOption r (parts_of text ≡ text ∷ []) (λ x. parts_of text ≡ x.0.now ∷ parts_of x.1.now)
cut-parts text None cut =
    slice_split_none (λ b. b == 59) text
    (All-from_get_or NoSemicolon text 0 (λ i h. apart (get_or text i 0) (split_parts 59 text None cut (omega arith) i h)))
cut-parts text (Some x) cut =
    let parts = split_parts 59 text (Some x) cut (omega arith) in
    ap parts_of parts.0
    ∙ slice_split_at (λ b. b == 59) x.0.now 59 x.1.now
    (All-from_get_or NoSemicolon x.0.now 0 (λ i h. apart (get_or x.0.now i 0) (parts.1 i h))) refl

-- what is cut is not whole
pub not-whole : (rest part later : List ℕ) → parts_of rest ≡ rest ∷ [] → parts_of rest ≡ part ∷ parts_of later → ⊥
not-whole rest part later whole first =
    let size : length (rest ∷ []) ≡ length (part ∷ parts_of later) = ap length (sym whole ∙ first) in
    let some = some-parts later in
    omega (arith, size, some)

-- the conditions that were read are those of the text
pub conditions-read : (read : Option (List Condition)) (text : List ℕ) (given conditions : List Condition)
    → given ≡ conditions → (IsSome read ↔ IsConditions given) → IfSome read (λ x. x ≡ given)
    → joined conditions ≡ text → AreConditions conditions → IsConditions conditions
    → Reads joined FitsConditions text read
conditions-read None text given conditions same some value told fit number =
    λ x fits written. let no = some.1 (subst IsConditions (sym same) number) in cc
conditions-read (Some x) text given conditions same some value told fit number =
    let is : x ≡ conditions = value ∙ same in (
      ap joined is ∙ told,
      (
        subst IsConditions (sym is) number,
        All-from_recursion IsCondition x (subst AreConditions (sym is) fit),
      ),
    )
