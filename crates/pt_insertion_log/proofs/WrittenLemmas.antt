-- What was written so far of a case, and of many cases.
use Rattle.std.proofs.Common.{◌≡◌, ℕ, List, [], ◌∷◌, ◌++◌, map, All, Option, None, Ok, Err, inl, inr, refl, ap, sym, subst, ◌∙◌, append_assoc, append-nil}
use Rattle.std.specs.List.{flat_map}
use Rattle.std.specs.Io.KnownBytes.{Appends}
use Rattle.std.proofs.KnownBytes.{Appends-trans, Appends-nil}
use Rattle.std.proofs.lemmas.Grind.{flat_map-append}
use Rattle.std.proofs.lemmas.List.Elements.{All-push, All-append, All-nil, All-cons}
use Rattle.pt_audit.specs.declared.line.Line.{Line}
use Rattle.pt_audit.specs.declared.line.Line.TheVariants as line
use Rattle.pt_audit.specs.declared.line.Raise.{Raise}
use Rattle.pt_audit.specs.declared.line.End.{End}
use Rattle.pt_audit.specs.Bounds.{raised, IsRightRaise, IsRightEnd, AreRight}
use Rattle.std.specs.Prelude.{Result, OnOk}
use Rattle.pt_insertion_search.specs.declared.asked.Asked.{Asked}
use Rattle.pt_insertion_search.specs.declared.duty.Duty.{Duty}
use Rattle.pt_audit.specs.Cases.{Case, cases_of_day}
use Rattle.pt_audit.specs.RightLog.{case_line, BeginsWithCases}
use Rattle.pt_audit.specs.Text.{line_text, opening, closing, IsInForm}
use Rattle.pt_insertion_log.specs.Written.{WritesCases, WritesLines, WritesRightLog}

-- a case was begun, with raises to these bounds
pub record IsBegun (minutes : ℕ → ℕ → Option ℕ) (case : Case) (old new : Option (List ℕ)) (bound : ℕ → ℕ) : Type 0 where
  pub raises : List Raise
  pub in_form : All IsInForm (case_line case ∷ map line.Raise raises)
  pub appended : Appends old new (flat_map line_text (case_line case ∷ map line.Raise raises))
  pub onward : (more : List Raise) (end : End) → AreRight minutes case.vehicle case.stops bound more end → AreRight minutes case.vehicle case.stops (λ _. 0) (raises ++ more) end

-- one more line was written
one_more : (lines : List Line) (last : Line) (old between new : Option (List ℕ))
    → Appends old between (flat_map line_text lines) → Appends between new (line_text last)
    → Appends old new (flat_map line_text (lines ++ last ∷ []))
one_more lines last old between new first second =
    subst (Appends old new) (ap (λ t. flat_map line_text lines ++ t) (sym (append-nil (line_text last)))
    ∙ sym (flat_map-append line_text lines (last ∷ [])))
    (Appends-trans old between new (flat_map line_text lines) (line_text last) first second)

map-push : (raises : List Raise) (raise : Raise) → map line.Raise (raises ++ raise ∷ []) ≡ map line.Raise raises ++ line.Raise raise ∷ []
map-push [] raise = refl
map-push (first ∷ raises) raise = ap (λ (ls : List Line). line.Raise first ∷ ls) (map-push raises raise)

module _ (minutes : ℕ → ℕ → Option ℕ) (case : Case) (old new new' : Option (List ℕ)) where
  pub begun_first : IsInForm (case_line case) → Appends old new (line_text (case_line case)) → IsBegun minutes case old new (λ _. 0)
  begun_first form written = record {
    raises = [];
    in_form = All-cons IsInForm (case_line case) [] form (All-nil IsInForm);
    appended = subst (Appends old new) (sym (append-nil (line_text (case_line case)))) written;
    onward = λ more end right. right;
  }

  pub begun_raise : (bound next : ℕ → ℕ) (raise : Raise) → IsBegun minutes case old new bound
      → IsRightRaise minutes case.vehicle case.stops bound raise → IsInForm (line.Raise raise)
      → Appends new new' (line_text (line.Raise raise)) → ((k : ℕ) → next k ≡ raised bound raise k)
      → IsBegun minutes case old new' next
  begun_raise bound next raise begun right form written each =
      let lines = case_line case ∷ map line.Raise begun.raises in
      let same : case_line case ∷ map line.Raise (begun.raises ++ raise ∷ []) ≡ lines ++ line.Raise raise ∷ [] = ap (λ (ls : List Line). case_line case ∷ ls) (map-push begun.raises raise) in
      let bounds : raised bound raise ≡ next = λ i k. sym (each k) i in
      record {
        raises = begun.raises ++ raise ∷ [];
        in_form = subst (All IsInForm) (sym same) (All-push IsInForm lines (line.Raise raise) begun.in_form form);
        appended = subst (λ (ls : List Line). Appends old new' (flat_map line_text ls)) (sym same) (one_more lines (line.Raise raise) old new new' begun.appended written);
        onward = λ more end later.
            subst (λ (rs : List Raise). AreRight minutes case.vehicle case.stops (λ _. 0) rs end) (sym (append_assoc begun.raises (raise ∷ []) more))
            (begun.onward (raise ∷ more) end (right, subst (λ (b : ℕ → ℕ). AreRight minutes case.vehicle case.stops b more end) (sym bounds) later));
      }

  pub begun_end : (bound : ℕ → ℕ) (end : End) → IsBegun minutes case old new bound
      → IsRightEnd minutes case.vehicle case.stops bound end → IsInForm (line.End end)
      → Appends new new' (line_text (line.End end)) → WritesCases minutes (case ∷ []) old new'
  begun_end bound end begun right form written =
      let lines = case_line case ∷ map line.Raise begun.raises in
      let all : AreRight minutes case.vehicle case.stops (λ _. 0) begun.raises end =
      subst (λ (rs : List Raise). AreRight minutes case.vehicle case.stops (λ _. 0) rs end) (append-nil begun.raises) (begun.onward [] end right) in
      record {
        lines = lines ++ line.End end ∷ [];
        in_form = All-push IsInForm lines (line.End end) begun.in_form form;
        appended = one_more lines (line.End end) old new new' begun.appended written;
        right = λ rest. (begun.raises, end, rest, refl, all, refl);
      }

-- nothing was written of no cases
pub nothing_written : (minutes : ℕ → ℕ → Option ℕ) (old : Option (List ℕ)) → WritesCases minutes [] old old
nothing_written minutes old = record {
  lines = [];
  in_form = All-nil IsInForm;
  appended = Appends-nil old;
  right = λ rest. refl;
}

join_begins : (minutes : ℕ → ℕ → Option ℕ) (first second : List Case) (lines between rest : List Line)
    → BeginsWithCases minutes first lines between → BeginsWithCases minutes second between rest
    → BeginsWithCases minutes (first ++ second) lines rest
join_begins minutes [] second lines between rest begins later = subst (λ (ls : List Line). BeginsWithCases minutes second ls rest) (sym begins) later
join_begins minutes (case ∷ first) second lines between rest begins later =
    let (raises, end, after, same, right, more) = begins in
    (raises, end, after, same, right, join_begins minutes first second after between rest more later)

-- cases after cases
pub both_written : (minutes : ℕ → ℕ → Option ℕ) (first second : List Case) (old between new : Option (List ℕ))
    → WritesCases minutes first old between → WritesCases minutes second between new
    → WritesCases minutes (first ++ second) old new
both_written minutes first second old between new one other = record {
  lines = one.lines ++ other.lines;
  in_form = All-append IsInForm one.lines other.lines one.in_form other.in_form;
  appended = subst (Appends old new) (sym (flat_map-append line_text one.lines other.lines))
      (Appends-trans old between new (flat_map line_text one.lines) (flat_map line_text other.lines) one.appended
      other.appended);
  right = λ rest. subst (λ (ls : List Line). BeginsWithCases minutes (first ++ second) ls rest) (sym (append_assoc one.lines other.lines rest))
      (join_begins minutes first second (one.lines ++ (other.lines ++ rest)) (other.lines ++ rest) rest (one.right (other.lines ++ rest)) (other.right rest));
}

-- a fact on success, from another
pub on_ok : {A E : Type 0} (r : Result A E) (P Q : Type 0) → (P → Q) → OnOk r P → OnOk r Q
on_ok (Ok x) P Q from holds = from holds
on_ok (Err e) P Q from holds = tt

-- the cases of one more element were written
pub more_written : {A : Type 0} (minutes : ℕ → ℕ → Option ℕ) (cases_at : A → List Case) (done : List A) (next : A)
    (all : List A) (old between new : Option (List ℕ)) → all ≡ done ++ next ∷ []
    → WritesCases minutes (flat_map cases_at done) old between → WritesCases minutes (cases_at next) between new
    → WritesCases minutes (flat_map cases_at all) old new
more_written minutes cases_at done next all old between new is one other =
    let same : flat_map cases_at all ≡ flat_map cases_at done ++ cases_at next =
    ap (flat_map cases_at) is ∙ flat_map-append cases_at done (next ∷ []) ∙ ap (λ (cs : List Case). flat_map cases_at done ++ cs) (append-nil (cases_at next)) in
    subst (λ (cs : List Case). WritesCases minutes cs old new) (sym same) (both_written minutes (flat_map cases_at done) (cases_at next) old between new one other)

-- the cases of all vehicles are the lines of a right log
pub day_written : (minutes : ℕ → ℕ → Option ℕ) (duties : List Duty) (asked : Asked) (old new : Option (List ℕ))
    → WritesCases minutes (cases_of_day asked duties) old new → WritesLines minutes duties asked old new
day_written minutes duties asked old new written = record {
  lines = written.lines;
  in_form = written.in_form;
  appended = written.appended;
  right = inr (subst (λ (ls : List Line). BeginsWithCases minutes (cases_of_day asked duties) ls []) (append-nil written.lines) (written.right []));
}

-- so is the one line that there is no way
pub no_way_written : (minutes : ℕ → ℕ → Option ℕ) (duties : List Duty) (asked : Asked) (old new : Option (List ℕ))
    → minutes asked.origin asked.goal ≡ None → IsInForm line.NoDirect → Appends old new (line_text line.NoDirect)
    → WritesLines minutes duties asked old new
no_way_written minutes duties asked old new none form written = record {
  lines = line.NoDirect ∷ [];
  in_form = All-cons IsInForm line.NoDirect [] form (All-nil IsInForm);
  appended = subst (Appends old new) (sym (append-nil (line_text line.NoDirect))) written;
  right = inl (refl, none);
}

-- with the first line and the last, the lines are a log
pub log_written : (minutes : ℕ → ℕ → Option ℕ) (duties : List Duty) (asked : Asked)
    (old first second new : Option (List ℕ)) → Appends old first opening
    → WritesLines minutes duties asked first second → Appends second new closing
    → WritesRightLog minutes duties asked old new
log_written minutes duties asked old first second new opened written closed = record {
  lines = written.lines;
  text = opening ++ flat_map line_text written.lines ++ closing;
  right = written.right;
  is_text = (written.in_form, refl);
  appended = Appends-trans old second new (opening ++ flat_map line_text written.lines) closing
      (Appends-trans old first second opening (flat_map line_text written.lines) opened written.appended) closed;
}
