-- Reading the lines of a case one by one.
use Rattle.std.proofs.Common.{◌≡◌, ℕ, zero, suc, ◌+◌, ◌<◌, ◌≤◌, ◌↔◌, replicate, slice_index, List, [], ◌∷◌, ◌++◌}
use Rattle.std.proofs.Common.{length, map, drop, Option, None, Some, IsSomeAnd, slice_get, get_or, arith, refl, ap}
use Rattle.std.proofs.Common.{sym, subst, ◌∙◌, append_assoc, add-one, drop-cons}
use Rattle.pt_base_values.specs.declared.vehicle.Vehicle.{Vehicle}
use Rattle.pt_feasible.specs.declared.stop.Stop.{Stop}
use Rattle.pt_audit.specs.declared.line.Line.{Line}
use Rattle.pt_audit.specs.declared.line.Line.TheVariants as line
use Rattle.pt_audit.specs.declared.line.Raise.{Raise}
use Rattle.pt_audit.specs.declared.line.End.{End}
use Rattle.std.proofs.lemmas.Option.{slice_get_within}
use Rattle.pt_feasible.specs.declared.visit.Visit.{Visit}
use Rattle.pt_feasible.specs.Visit.{visits}
use Rattle.pt_feasible.proofs.VisitLemmas.{length-visits}
use Rattle.pt_audit.specs.declared.line.Raise.TheVariants.{Window, Drive, Ride, Duration}
use Rattle.pt_audit.proofs.LawLemmas.{value_of}
use Rattle.pt_audit.specs.Bounds.{visit_of, raised, IsRightRaise, IsRightEnd, AreRight}
use Rattle.pt_audit.specs.Cases.{Case}
use Rattle.pt_audit.specs.Reading.{EndsCases}
use Rattle.pt_audit.specs.RightLog.{case_line, BeginsWithCases}

module _ (minutes : ℕ → ℕ → Option ℕ) (vehicle : Vehicle) (stops : List Stop) where
  -- raises from these bounds on and an end, all right, and then the rest
  abbrev pub Continues : (ℕ → ℕ) → List Line → List Line → Type 0
  Continues bound lines rest = (raises : List Raise) × (end : End)
      × (lines ≡ map line.Raise raises ++ line.End end ∷ rest) × AreRight minutes vehicle stops bound raises end

  -- a raise, and what follows it
  pub after_raise : (bound : ℕ → ℕ) (raise : Raise) (lines rest : List Line)
      → Continues bound (line.Raise raise ∷ lines) rest → IsRightRaise minutes vehicle stops bound raise
      × Continues (raised bound raise) lines rest
  after_raise bound raise lines rest continues = go continues.0 continues.1 continues.2 continues.3
    where
      go : (raises : List Raise) (end : End) → line.Raise raise ∷ lines ≡ map line.Raise raises ++ line.End end ∷ rest
          → AreRight minutes vehicle stops bound raises end → IsRightRaise minutes vehicle stops bound raise
          × Continues (raised bound raise) lines rest
      go [] end same right = absurd (cc)
      go (first ∷ raises) end same right =
          let this : first ≡ raise = cc in
          let tail : lines ≡ map line.Raise raises ++ line.End end ∷ rest = cc in
          let both : IsRightRaise minutes vehicle stops bound raise
          × AreRight minutes vehicle stops (raised bound raise) raises end = subst
          (λ (r : Raise). IsRightRaise minutes vehicle stops bound r
          × AreRight minutes vehicle stops (raised bound r) raises end) this right in
          (both.0, (raises, end, tail, both.1))

  pub before_raise : (bound : ℕ → ℕ) (raise : Raise) (lines rest : List Line)
      → IsRightRaise minutes vehicle stops bound raise → Continues (raised bound raise) lines rest
      → Continues bound (line.Raise raise ∷ lines) rest
  before_raise bound raise lines rest right continues = (raise ∷ continues.0, continues.1, ap (λ (ls : List Line). line.Raise raise ∷ ls) continues.2, (right, continues.3))

  -- an end, and the rest
  pub at_end : (bound : ℕ → ℕ) (end : End) (lines rest : List Line) → Continues bound (line.End end ∷ lines) rest → IsRightEnd minutes vehicle stops bound end × (lines ≡ rest)
  at_end bound end lines rest continues = go continues.0 continues.1 continues.2 continues.3
    where
      go : (raises : List Raise) (last : End) → line.End end ∷ lines ≡ map line.Raise raises ++ line.End last ∷ rest
          → AreRight minutes vehicle stops bound raises last → IsRightEnd minutes vehicle stops bound end
          × (lines ≡ rest)
      go [] last same right =
          let this : last ≡ end = cc in
          (subst (λ (e : End). IsRightEnd minutes vehicle stops bound e) this right, cc)
      go (first ∷ raises) last same right = absurd (cc)

  pub the_end : (bound : ℕ → ℕ) (end : End) (lines rest : List Line) → IsRightEnd minutes vehicle stops bound end → lines ≡ rest → Continues bound (line.End end ∷ lines) rest
  the_end bound end lines rest right same = ([], end, ap (λ (ls : List Line). line.End end ∷ ls) same, right)

  -- no other line continues a case
  pub not_without_lines : (bound : ℕ → ℕ) (rest : List Line) → ¬ Continues bound [] rest
  not_without_lines bound rest continues = go continues.0 continues.1 continues.2
    where
      go : (raises : List Raise) (last : End) → [] ≡ map line.Raise raises ++ line.End last ∷ rest → ⊥
      go [] last same = absurd (cc)
      go (first ∷ raises) last same = absurd (cc)

  pub not_no_direct : (bound : ℕ → ℕ) (lines rest : List Line) → ¬ Continues bound (line.NoDirect ∷ lines) rest
  not_no_direct bound lines rest continues = go continues.0 continues.1 continues.2
    where
      go : (raises : List Raise) (last : End) → line.NoDirect ∷ lines ≡ map line.Raise raises ++ line.End last ∷ rest → ⊥
      go [] last same = absurd (cc)
      go (first ∷ raises) last same = absurd (cc)

  pub not_case : (bound : ℕ → ℕ) (v i j : ℕ) (lines rest : List Line) → ¬ Continues bound (line.Case v i j ∷ lines) rest
  not_case bound v i j lines rest continues = go continues.0 continues.1 continues.2
    where
      go : (raises : List Raise) (last : End) → line.Case v i j ∷ lines ≡ map line.Raise raises ++ line.End last ∷ rest → ⊥
      go [] last same = absurd (cc)
      go (first ∷ raises) last same = absurd (cc)

-- the lines of one case
pub begins_case : (minutes : ℕ → ℕ → Option ℕ) (case : Case) (first : Line) (lines rest : List Line) → BeginsWithCases minutes (case ∷ []) (first ∷ lines) rest
    → (first ≡ case_line case) × Continues minutes case.vehicle case.stops (λ _. 0) lines rest
begins_case minutes case first lines rest begins =
    let (raises, end, after, same, right, last) = begins in
    let whole : first ∷ lines ≡ case_line case ∷ (map line.Raise raises ++ line.End end ∷ rest) =
    same ∙ append_assoc (case_line case ∷ map line.Raise raises) (line.End end ∷ []) after ∙ ap (λ (ls : List Line). case_line case ∷ (map line.Raise raises ++ line.End end ∷ ls)) last in
    (cc, (raises, end, cc, right))

pub case_begins : (minutes : ℕ → ℕ → Option ℕ) (case : Case) (first : Line) (lines rest : List Line) → first ≡ case_line case → Continues minutes case.vehicle case.stops (λ _. 0) lines rest
    → BeginsWithCases minutes (case ∷ []) (first ∷ lines) rest
case_begins minutes case first lines rest opens continues =
    let (raises, end, same, right) = continues in
    let whole : first ∷ lines ≡ case_line case ∷ (map line.Raise raises ++ line.End end ∷ rest) = cc in
    (raises, end, rest, whole ∙ sym (append_assoc (case_line case ∷ map line.Raise raises) (line.End end ∷ []) rest), right, refl)

pub not_without_case : (minutes : ℕ → ℕ → Option ℕ) (case : Case) (rest : List Line) → ¬ BeginsWithCases minutes (case ∷ []) [] rest
not_without_case minutes case rest begins = let (raises, end, after, same, right, last) = begins in absurd (cc)

-- a list from a place on begins with the element there
pub from_here : (lines : List Line) (at : ℕ) (here d : Line) → at < length lines → get_or lines at d ≡ here → drop at lines ≡ here ∷ drop (at + 1) lines
from_here lines at here d inside same = rw (add-one, ← same) (drop-cons lines at d inside)

-- lines that are not those of the cases end nowhere
pub ends_nowhere : (minutes : ℕ → ℕ → Option ℕ) (cases : List Case) (lines : List Line) (start : ℕ)
    → ((rest : List Line) → ¬ BeginsWithCases minutes cases (drop start lines) rest)
    → EndsCases minutes cases lines start None
ends_nowhere minutes cases lines start never rest = (λ begins. absurd (never rest begins), λ ends. absurd ends)

-- bounds that all are 0
pub all_zero : (count : ℕ) → slice_index (replicate count 0) ≡ (λ _. 0)
all_zero count = λ i k. zeros count k i
  where
    zeros : (count k : ℕ) → slice_index (replicate count 0) k ≡ 0
    zeros zero k = refl
    zeros (suc count) zero = refl
    zeros (suc count) (suc k) = zeros count k

module _ (minutes : ℕ → ℕ → Option ℕ) (case : Case) (lines : List Line) (start : ℕ) where
  -- what the loop keeps: the lines are those of the case exactly where those from here on continue it
  abbrev pub IsReadTo : (ℕ → ℕ) → ℕ → Type 0
  IsReadTo bound at = (rest : List Line) →
      BeginsWithCases minutes (case ∷ []) (drop start lines) rest ↔ Continues minutes case.vehicle case.stops bound (drop at lines) rest

  pub read_opening : (first : Line) → drop start lines ≡ first ∷ drop (start + 1) lines → first ≡ case_line case → IsReadTo (λ _. 0) (start + 1)
  read_opening first front opens rest = (
    λ begins. (begins_case minutes case first (drop (start + 1) lines) rest (subst (λ (ls : List Line). BeginsWithCases minutes (case ∷ []) ls rest) front begins)).1,
    λ continues. subst (λ (ls : List Line). BeginsWithCases minutes (case ∷ []) ls rest) (sym front) (case_begins minutes case first (drop (start + 1) lines) rest opens continues),
  )

  pub other_opening : (first : Line) → drop start lines ≡ first ∷ drop (start + 1) lines → (first ≡ case_line case → ⊥) → EndsCases minutes (case ∷ []) lines start None
  other_opening first front other = ends_nowhere minutes (case ∷ []) lines start
      (λ rest begins. other (begins_case minutes case first (drop (start + 1) lines) rest (subst (λ (ls : List Line). BeginsWithCases minutes (case ∷ []) ls rest) front begins)).0)

  pub no_opening : drop start lines ≡ [] → EndsCases minutes (case ∷ []) lines start None
  no_opening none = ends_nowhere minutes (case ∷ []) lines start
      (λ rest begins. not_without_case minutes case rest (subst (λ (ls : List Line). BeginsWithCases minutes (case ∷ []) ls rest) none begins))

  module _ (bound : ℕ → ℕ) (at : ℕ) (so_far : IsReadTo bound at) where
    module _ (here : Line) (front : drop at lines ≡ here ∷ drop (at + 1) lines) where
      continues_here : (rest : List Line) → BeginsWithCases minutes (case ∷ []) (drop start lines) rest → Continues minutes case.vehicle case.stops bound (here ∷ drop (at + 1) lines) rest
      continues_here rest begins = subst (λ (ls : List Line). Continues minutes case.vehicle case.stops bound ls rest) front ((so_far rest).0 begins)

      begins_here : (rest : List Line) → Continues minutes case.vehicle case.stops bound (here ∷ drop (at + 1) lines) rest → BeginsWithCases minutes (case ∷ []) (drop start lines) rest
      begins_here rest continues = (so_far rest).1 (subst (λ (ls : List Line). Continues minutes case.vehicle case.stops bound ls rest) (sym front) continues)

      pub read_raise : (raise : Raise) (new : ℕ → ℕ) → here ≡ line.Raise raise
          → IsRightRaise minutes case.vehicle case.stops bound raise → ((k : ℕ) → new k ≡ raised bound raise k)
          → IsReadTo new (at + 1)
      read_raise raise new is right each rest =
          let same : new ≡ raised bound raise = λ i k. each k i in (
            λ begins. subst (λ (b : ℕ → ℕ). Continues minutes case.vehicle case.stops b (drop (at + 1) lines) rest) (sym same)
                (after_raise minutes case.vehicle case.stops bound raise (drop (at + 1) lines) rest
                (subst (λ (l : Line). Continues minutes case.vehicle case.stops bound (l ∷ drop (at + 1) lines)
                rest) is (continues_here rest begins))).1,
            λ continues. begins_here rest (subst (λ (l : Line). Continues minutes case.vehicle case.stops bound (l ∷ drop (at + 1) lines) rest) (sym is)
                (before_raise minutes case.vehicle case.stops bound raise (drop (at + 1) lines) rest right
                (subst (λ (b : ℕ → ℕ). Continues minutes case.vehicle case.stops b (drop (at + 1) lines) rest)
                same continues))),
          )

      pub wrong_raise : (raise : Raise) → here ≡ line.Raise raise → (IsRightRaise minutes case.vehicle case.stops bound raise → ⊥) → EndsCases minutes (case ∷ []) lines start None
      wrong_raise raise is wrong = ends_nowhere minutes (case ∷ []) lines start (λ rest begins. wrong
          (after_raise minutes case.vehicle case.stops bound raise (drop (at + 1) lines) rest
          (subst (λ (l : Line). Continues minutes case.vehicle case.stops bound (l ∷ drop (at + 1) lines) rest) is
          (continues_here rest begins))).0)

      pub right_end : (end : End) → here ≡ line.End end → IsRightEnd minutes case.vehicle case.stops bound end → EndsCases minutes (case ∷ []) lines start (Some (at + 1))
      right_end end is right rest = (
        λ begins. (at_end minutes case.vehicle case.stops bound end (drop (at + 1) lines) rest
            (subst (λ (l : Line). Continues minutes case.vehicle case.stops bound (l ∷ drop (at + 1) lines) rest) is
            (continues_here rest begins))).1,
        λ same. begins_here rest (subst (λ (l : Line). Continues minutes case.vehicle case.stops bound
            (l ∷ drop (at + 1) lines) rest) (sym is) (the_end minutes case.vehicle case.stops bound end
            (drop (at + 1) lines) rest right same)),
      )

      pub wrong_end : (end : End) → here ≡ line.End end → (IsRightEnd minutes case.vehicle case.stops bound end → ⊥) → EndsCases minutes (case ∷ []) lines start None
      wrong_end end is wrong = ends_nowhere minutes (case ∷ []) lines start (λ rest begins. wrong
          (at_end minutes case.vehicle case.stops bound end (drop (at + 1) lines) rest
          (subst (λ (l : Line). Continues minutes case.vehicle case.stops bound (l ∷ drop (at + 1) lines) rest) is
          (continues_here rest begins))).0)

      pub wrong_line : ((rest : List Line) → ¬ Continues minutes case.vehicle case.stops bound (here ∷ drop (at + 1) lines) rest) → EndsCases minutes (case ∷ []) lines start None
      wrong_line wrong = ends_nowhere minutes (case ∷ []) lines start (λ rest begins. wrong rest (continues_here rest begins))

    pub no_end : drop at lines ≡ [] → EndsCases minutes (case ∷ []) lines start None
    no_end none = ends_nowhere minutes (case ∷ []) lines start
        (λ rest begins. not_without_lines minutes case.vehicle case.stops bound rest
        (subst (λ (ls : List Line). Continues minutes case.vehicle case.stops bound ls rest) none
        ((so_far rest).0 begins)))

-- a right raise is of a visit
pub visit-among : (minutes : ℕ → ℕ → Option ℕ) (vehicle : Vehicle) (stops : List Stop) (bound : ℕ → ℕ) (raise : Raise)
    → IsRightRaise minutes vehicle stops bound raise → visit_of raise < length stops + 2
visit-among minutes vehicle stops bound (Window k n) right =
    let found = value_of (λ (visit : Visit). n ≤ visit.lo) (slice_get (visits vehicle stops) k) right in
    omega (arith, slice_get_within (visits vehicle stops) k found.0 found.1, length-visits vehicle stops)
visit-among minutes vehicle stops bound (Drive zero n) right = absurd right
visit-among minutes vehicle stops bound (Drive (suc before) n) right =
    let all = visits vehicle stops in
    let this = value_of (λ (this : Visit). IsSomeAnd (slice_get all (suc before))
    (λ next. IsSomeAnd (minutes this.place next.place) (λ drive. n ≤ bound before + this.service + drive)))
    (slice_get all before) right in
    let next = value_of (λ (next : Visit). IsSomeAnd (minutes this.0.place next.place) (λ drive. n ≤ bound before + this.0.service + drive)) (slice_get all (suc before)) this.2 in
    omega (arith, slice_get_within all (suc before) next.0 next.1, length-visits vehicle stops)
visit-among minutes vehicle stops bound (Ride zero n) right = absurd right
visit-among minutes vehicle stops bound (Ride (suc i) n) right =
    let (j, pickup, drop, here, there, picks, drops, same, asked) = right in
    omega (arith, slice_get_within stops i pickup here)
visit-among minutes vehicle stops bound (Duration n) right = omega arith
