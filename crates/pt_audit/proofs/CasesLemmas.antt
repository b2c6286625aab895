-- Reading the lines of many cases, one after the other.
use Rattle.std.proofs.Common.{◌≡◌, ℕ, zero, suc, ◌+◌, ◌-◌, ◌<◌, ◌≤◌, ◌↔◌, List, [], ◌∷◌, ◌++◌, length, take, drop}
use Rattle.std.proofs.Common.{get_or, Option, None, Some, arith, refl, ap, sym, subst, ◌∙◌, length-drop, append-nil}
use Rattle.std.specs.List.{flat_map}
use Rattle.std.proofs.lemmas.Grind.{flat_map-append}
use Rattle.std.proofs.lemmas.List.Concat.{flat_map_single}
use Rattle.std.proofs.lemmas.List.{nil_from_length}
use Rattle.pt_audit.specs.declared.line.Line.{Line}
use Rattle.pt_audit.specs.declared.line.Line.TheVariants as line
use Rattle.pt_base_values.specs.declared.vehicle.Vehicle.{Vehicle}
use Rattle.pt_feasible.specs.declared.stop.Stop.{Stop}
use Rattle.pt_insertion_search.specs.declared.asked.Asked.{Asked}
use Rattle.pt_audit.specs.Cases.{Case, case_at, numbers_from, cases_of_pickup}
use Rattle.pt_audit.specs.Reading.{EndsCases}
use Rattle.pt_audit.specs.RightLog.{BeginsWithCases}

module _ (minutes : ℕ → ℕ → Option ℕ) where
  -- the lines of cases, and then of more cases
  join_cases : (first second : List Case) (lines between rest : List Line)
      → BeginsWithCases minutes first lines between → BeginsWithCases minutes second between rest
      → BeginsWithCases minutes (first ++ second) lines rest
  join_cases [] second lines between rest begins later = subst (λ (ls : List Line). BeginsWithCases minutes second ls rest) (sym begins) later
  join_cases (case ∷ first) second lines between rest begins later =
      let (raises, end, after, same, right, more) = begins in
      (raises, end, after, same, right, join_cases first second after between rest more later)

  split_cases : (first second : List Case) (lines rest : List Line)
      → BeginsWithCases minutes (first ++ second) lines rest → (between : List Line)
      × BeginsWithCases minutes first lines between × BeginsWithCases minutes second between rest
  split_cases [] second lines rest begins = (lines, refl, begins)
  split_cases (case ∷ first) second lines rest begins =
      let (raises, end, after, same, right, more) = begins in
      let (between, one, other) = split_cases first second after rest more in
      (between, (raises, end, after, same, right, one), other)

  ends_more : (first second : List Case) (lines : List Line) (start at : ℕ) (result : Option ℕ)
      → EndsCases minutes first lines start (Some at) → EndsCases minutes second lines at result
      → EndsCases minutes (first ++ second) lines start result
  ends_more first second lines start at result one other rest = (
    λ begins. (let (between, here, later) = split_cases first second (drop start lines) rest begins in
        let same : drop at lines ≡ between = (one between).0 here in
        (other rest).0 (subst (λ (ls : List Line). BeginsWithCases minutes second ls rest) (sym same) later)),
    λ ends. join_cases first second (drop start lines) (drop at lines) rest ((one (drop at lines)).1 refl) ((other rest).1 ends),
  )

  ends_early : (first second : List Case) (lines : List Line) (start : ℕ) → EndsCases minutes first lines start None → EndsCases minutes (first ++ second) lines start None
  ends_early first second lines start none rest = (
    λ begins. (let (between, here, later) = split_cases first second (drop start lines) rest begins in absurd ((none between).0 here)),
    λ ends. absurd ends,
  )

  -- an empty list of cases ends where it begins
  pub ends_at_start : (lines : List Line) (start : ℕ) → EndsCases minutes [] lines start (Some start)
  ends_at_start lines start rest = (λ same. same, λ same. same)

  module _ {A : Type 0} (cases_at : A → List Case) (lines : List Line) (start at : ℕ) (done : List A) (so_far : EndsCases minutes (flat_map cases_at done) lines start (Some at)) (next : A) where
    pub one_more : (all : List A) (result : Option ℕ) → all ≡ done ++ next ∷ [] → EndsCases minutes (cases_at next) lines at result → EndsCases minutes (flat_map cases_at all) lines start result
    one_more all result is ends =
        let same : flat_map cases_at all ≡ flat_map cases_at done ++ cases_at next =
        ap (flat_map cases_at) is ∙ flat_map-append cases_at done (next ∷ []) ∙ ap (λ (cs : List Case). flat_map cases_at done ++ cs) (append-nil (cases_at next)) in
        subst (λ (cs : List Case). EndsCases minutes cs lines start result) (sym same)
        (ends_more (flat_map cases_at done) (cases_at next) lines start at result so_far ends)

    pub none_more : (all later : List A) → all ≡ done ++ next ∷ later → EndsCases minutes (cases_at next) lines at None → EndsCases minutes (flat_map cases_at all) lines start None
    none_more all later is ends =
        let same : flat_map cases_at all ≡ flat_map cases_at done ++ (cases_at next ++ flat_map cases_at later) =
        ap (flat_map cases_at) is ∙ flat_map-append cases_at done (next ∷ later) in
        subst (λ (cs : List Case). EndsCases minutes cs lines start None) (sym same)
        (ends_more (flat_map cases_at done) (cases_at next ++ flat_map cases_at later) lines start at None so_far
        (ends_early (cases_at next) (flat_map cases_at later) lines at ends))

-- successive numbers, and then the next ones
pub numbers_from-add : (first count more : ℕ) → numbers_from first (count + more) ≡ numbers_from first count ++ numbers_from (first + count) more
numbers_from-add first zero more = let same : 0 + more ≡ more = omega arith in let at : first + 0 ≡ first = omega arith in ap (numbers_from first) same ∙ ap (λ (n : ℕ). numbers_from n more) (sym at)
numbers_from-add first (suc count) more =
    let same : suc count + more ≡ suc (count + more) = omega arith in
    let at : first + 1 + count ≡ first + suc count = omega arith in
    ap (numbers_from first) same ∙ ap (λ (ns : List ℕ). first ∷ ns) (numbers_from-add (first + 1) count more ∙ ap (λ (n : ℕ). numbers_from (first + 1) count ++ numbers_from n more) at)

-- the successive numbers with one more at the end
pub numbers_to_next : (first next : ℕ) → first ≤ next → numbers_from first (next + 1 - first) ≡ numbers_from first (next - first) ++ next ∷ []
numbers_to_next first next le =
    let count : next + 1 - first ≡ (next - first) + 1 = omega arith in
    let at : first + (next - first) ≡ next = omega arith in
    ap (numbers_from first) count ∙ numbers_from-add first (next - first) 1 ∙ ap (λ (n : ℕ). numbers_from first (next - first) ++ n ∷ []) at

-- all numbers to an end: those before one of them, that one and those after
pub numbers_around : (first next end : ℕ) → first ≤ next → next < end → numbers_from first (end - first) ≡ numbers_from first (next - first) ++ next ∷ numbers_from (next + 1) (end - next - 1)
numbers_around first next end le lt =
    let count : end - first ≡ (next - first) + suc (end - next - 1) = omega arith in
    let at : first + (next - first) ≡ next = omega arith in
    ap (numbers_from first) count ∙ numbers_from-add first (next - first) (suc (end - next - 1)) ∙ ap (λ (n : ℕ). numbers_from first (next - first) ++ n ∷ numbers_from (n + 1) (end - next - 1)) at

-- a list before an element, the element, and those after
pub list_around : {A : Type 0} (xs : List A) (k : ℕ) (d : A) → k < length xs → xs ≡ take k xs ++ get_or xs k d ∷ drop (suc k) xs
list_around {A = A} [] k d inside = absurd (omega arith)
list_around {A = A} (x ∷ xs) zero d inside = refl
list_around {A = A} (x ∷ xs) (suc k) d inside = ap (λ (ys : List A). x ∷ ys) (list_around xs k d (omega arith))

-- one case as a list
abbrev pub one_case : Asked → Vehicle → List Stop → ℕ → ℕ → List Case
one_case asked vehicle stops i j = case_at asked vehicle stops i j ∷ []

pub cases_of_pickup-one : (asked : Asked) (vehicle : Vehicle) (stops : List Stop) (i : ℕ)
    → flat_map (one_case asked vehicle stops i) (numbers_from i (length stops + 1 - i)) ≡ cases_of_pickup asked
    vehicle stops i
cases_of_pickup-one asked vehicle stops i = flat_map_single (case_at asked vehicle stops i) (numbers_from i (length stops + 1 - i))

-- the numbers below the next one
pub numbers_below_next : (next : ℕ) → numbers_from 0 (next + 1) ≡ numbers_from 0 next ++ next ∷ []
numbers_below_next next = let at : 0 + next ≡ next = omega arith in numbers_from-add 0 next 1 ∙ ap (λ (n : ℕ). numbers_from 0 next ++ n ∷ []) at

-- all numbers below an end: those before one of them, that one and those after
pub numbers_below_around : (next end : ℕ) → next < end → numbers_from 0 end ≡ numbers_from 0 next ++ next ∷ numbers_from (next + 1) (end - next - 1)
numbers_below_around next end lt =
    let count : end ≡ next + suc (end - next - 1) = omega arith in
    let at : 0 + next ≡ next = omega arith in
    ap (numbers_from 0) count ∙ numbers_from-add 0 next (suc (end - next - 1)) ∙ ap (λ (n : ℕ). numbers_from 0 next ++ n ∷ numbers_from (n + 1) (end - next - 1)) at

-- a log with the one line `NODIRECT` is not the log of cases
pub no_cases : (minutes : ℕ → ℕ → Option ℕ) (cases : List Case) → ¬ BeginsWithCases minutes cases (line.NoDirect ∷ []) []
no_cases minutes [] begins = absurd (cc)
no_cases minutes (case ∷ cases) begins = let (raises, end, after, same, right, more) = begins in absurd (cc)

-- nothing is left exactly at the end
pub at_the_end : (lines : List Line) (at : ℕ) → at ≤ length lines → (drop at lines ≡ []) ↔ (at ≡ length lines)
at_the_end lines at within = (
  λ none. omega (arith, ap length none, length-drop at lines),
  λ end. nil_from_length (drop at lines) (omega (arith, length-drop at lines)),
)
