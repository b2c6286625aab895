-- Different entries of case files have different bytes.
use Rattle.std.proofs.Common.{◌≡◌, ℕ, ◌*◌, ◌≤◌, List, [], ◌∷◌, ◌++◌, length, length-append, get_or, drop, decimal, refl, ap, arith}
use Rattle.std.specs.Int.{IsInRange}
use Rattle.std.specs.List.{All}
use Rattle.std.proofs.lemmas.Fmt.{length-decimal-le}
use Rattle.std.proofs.lemmas.List.Elements.{All-head, All-tail}
use Rattle.pt_base_values.specs.Day.{IsDay}
use Rattle.pt_rights_conditions.specs.Texts.{condition_text, numbers_text}
use Rattle.pt_rights_conditions.proofs.NumbersLemmas.{months-from_set, length-months}
use Rattle.pt_rights_conditions.proofs.TextLemmas.{condition_text-injective}
use Rattle.pt_rights_files.specs.Conditions.{IsCondition}
use Rattle.pt_rights_files.specs.Months.{numbers_of}
use Rattle.pt_rights_files.specs.Reasons.{IsReasons}
use Rattle.pt_rights_files.specs.declared.conditions.Condition.{Condition}
use Rattle.pt_rights_files.specs.declared.conditions.Condition.TheVariants.{Always, Months, Farther, NoLift}
use Rattle.pt_rights_files.specs.declared.entry.Entry.{Entry}
use Rattle.pt_rights_files.specs.declared.entry.Entry.TheVariants as entry
use Rattle.pt_rights_files.specs.declared.entry.Grant.{Grant}
use Rattle.pt_desk_spelling.specs.Fields.{numbers_bytes, text_bytes}
use Rattle.pt_desk_spelling.specs.Ranges.{IsGrant, IsEntry}
use Rattle.pt_desk_spelling.specs.Requests.{condition_bytes, grant_bytes, entry_bytes}
use Rattle.pt_desk_spelling.proofs.FieldLemmas.{day-word, number-then, number-same, numbers-then, text-then, text-same, list-same}

-- ---- conditions

-- a month's digits and a comma are at most three bytes
pub numbers-short : (numbers : List ℕ) → All (IsInRange 1 12) numbers → length (numbers_text numbers) ≤ 3 * length numbers
numbers-short [] months = omega arith
numbers-short (n ∷ []) months =
    let top = (All-head (IsInRange 1 12) n [] months).1 in
    let digits = length-decimal-le 2 n (omega arith) (omega arith) (omega arith) in
    omega arith
numbers-short (n ∷ m ∷ numbers) months =
    let top = (All-head (IsInRange 1 12) n (m ∷ numbers) months).1 in
    let digits = length-decimal-le 2 n (omega arith) (omega arith) (omega arith) in
    let rest = numbers-short (m ∷ numbers) (All-tail (IsInRange 1 12) n (m ∷ numbers) months) in
    omega (arith, length-append (decimal n) (44 ∷ numbers_text (m ∷ numbers)))

pub condition-short : (condition : Condition) → IsCondition condition → length (condition_text condition) ≤ 100
condition-short Always fits = omega arith
condition-short (Months months) fits =
    let short = numbers-short (numbers_of months) (months-from_set months fits).in_range in
    let few = length-months months fits in
    omega arith
condition-short (Farther feet) fits =
    let top = fits.1 in
    let digits = length-decimal-le 6 feet (omega arith) (omega arith) (omega arith) in
    omega arith
condition-short NoLift fits = omega arith

pub condition-then : (one other : Condition) (x y : List ℕ) → IsCondition one → IsCondition other → condition_bytes one ++ x ≡ condition_bytes other ++ y → (one ≡ other) × (x ≡ y)
condition-then one other x y ones others e =
    let short = condition-short one ones in
    let others_short = condition-short other others in
    let text = text-then (condition_text one) (condition_text other) x y (omega arith) (omega arith) e in
    (condition_text-injective one other ones others text.0, text.1)

-- ---- grants

pub grant-same : (one other : Grant) → IsGrant one → IsGrant other → grant_bytes one ≡ grant_bytes other → one ≡ other
grant-same one other ones others e =
    let few = ones.number.1 in
    let others_few = others.number.1 in
    let until = number-then one.until other.until _ _ (day-word one.until ones.until) (day-word other.until others.until) e in
    let conditions = list-same IsCondition condition_bytes condition-then one.conditions other.conditions (omega arith) (omega arith) ones.conditions others.conditions until.1 in
    λ i. record { until = until.0 i; conditions = conditions i }

-- ---- entries

pub reasons-same : (one other : List ℕ) → IsReasons one → IsReasons other → text_bytes one ≡ text_bytes other → one ≡ other
reasons-same one other ones others e =
    let short = ones.1 in
    let others_short = others.1 in
    text-same one other (omega arith) (omega arith) e

pub suspension-same : (a b : List ℕ) (starts ends first last : ℕ) → IsDay starts × IsDay ends × IsReasons a → IsDay first × IsDay last × IsReasons b
    → numbers_bytes (starts ∷ ends ∷ []) ++ text_bytes a ≡ numbers_bytes (first ∷ last ∷ []) ++ text_bytes b → entry.Suspend starts ends a ≡ entry.Suspend first last b
suspension-same a b starts ends first last ones others e =
    let days = numbers-then (starts ∷ ends ∷ []) (first ∷ last ∷ []) (text_bytes a) (text_bytes b) refl
    (day-word starts ones.0, (day-word ends ones.1, tt))
    (day-word first others.0, (day-word last others.1, tt)) e in
    let reasons = reasons-same a b ones.2 others.2 days.1 in
    λ i. entry.Suspend (get_or (days.0 i) 0 0) (get_or (days.0 i) 1 0) (reasons i)

pub entry-same : (one other : Entry) → IsEntry one → IsEntry other → entry_bytes one ≡ entry_bytes other → one ≡ other
entry-same entry.Complete entry.Complete ones others e = refl
entry-same (entry.Grant a) (entry.Grant b) ones others e = ap (λ (g : Grant). entry.Grant g) (grant-same a b ones others (ap (drop 1) e))
entry-same (entry.Refuse a) (entry.Refuse b) ones others e = ap (λ (t : List ℕ). entry.Refuse t) (reasons-same a b ones others (ap (drop 1) e))
entry-same (entry.Appeal a) (entry.Appeal b) ones others e = ap (λ (n : ℕ). entry.Appeal n) (number-same a b (omega arith) (omega arith) (ap (drop 1) e))
entry-same entry.Heard entry.Heard ones others e = refl
entry-same (entry.AppealGranted a) (entry.AppealGranted b) ones others e = ap (λ (g : Grant). entry.AppealGranted g) (grant-same a b ones others (ap (drop 1) e))
entry-same (entry.AppealDenied a) (entry.AppealDenied b) ones others e = ap (λ (t : List ℕ). entry.AppealDenied t) (reasons-same a b ones others (ap (drop 1) e))
entry-same entry.Overturn entry.Overturn ones others e = refl
entry-same (entry.Notice a) (entry.Notice b) ones others e = ap (λ (t : List ℕ). entry.Notice t) (reasons-same a b ones others (ap (drop 1) e))
entry-same entry.NoticeHeard entry.NoticeHeard ones others e = refl
entry-same (entry.Suspend starts ends a) (entry.Suspend first last b) ones others e = suspension-same a b starts ends first last ones others (ap (drop 1) e)
entry-same one other ones others e = absurd (omega (arith, ap (λ (bytes : List ℕ). get_or bytes 0 0) e))
