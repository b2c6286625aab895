use Rattle.std.proofs.Common.{arith, ◌≡◌, ◌∙◌, ◌+◌, ◌↔◌, ℕ, List, [], ◌∷◌, ◌++◌, suc, length, take, drop, true, false, Option, None, Some, IsTrue, refl, subst, sym, inl, inr}
use Rattle.std.specs.Prelude.{Bool, not, is_some}
use Rattle.std.proofs.lemmas.Bool.{eqb-true, eq-eqb}
use Rattle.std.proofs.lemmas.List.{take_more, take_all}
use Rattle.pt_feasible.specs.Route.{stops_of}
use Rattle.pt_insertion_search.specs.declared.duty.Duty.{Duty}
use Rattle.pt_insertion_search.specs.declared.asked.Asked.{Asked}
use Rattle.pt_audit.specs.declared.line.Line.{Line}
use Rattle.pt_audit.specs.declared.line.Line.TheVariants as line
use Rattle.pt_audit.specs.Cases.{cases_of_vehicle, cases_of_day}
use Rattle.pt_audit.specs.Reading.{EndsCases}
use Rattle.pt_audit.specs.RightLog.{IsRightLog, BeginsWithCases}
use Rattle.pt_audit.proofs.CasesLemmas.{ends_at_start, one_more, none_more, list_around, no_cases, at_the_end}
use Rattle.pt_audit.proofs.LawLemmas.{right_log_refuses}
use Rattle.pt_audit.proofs.audit.check.Goals as goal

pub loop-duty-init : goal.loop-duty-init
loop-duty-init g c = record {
  within = omega arith;
  right = ends_at_start (g.T.Times.minutes c.args.times.now) c.as_slice-lines.result.now 0;
}

pub loop-duty-preserved : goal.loop-duty-preserved
loop-duty-preserved g c =
    let duties = c.args.duties.now in
    let k = c.loop-duty.duty-index in
    let duty = c.duty-item.result in
    record {
      within = c.in-Some.ensures.within;
      right = one_more (g.T.Times.minutes c.args.times.now) (λ (d : Duty). cases_of_vehicle c.args.asked.now d.vehicle.now (stops_of d.route.now)) c.as_slice-lines.result.now 0 c.loop-duty.at
          (take k duties) c.loop-duty.invariant.right duty (take (k + 1) duties) (Some c.in-Some.end)
          (subst (λ (d : Duty). take (k + 1) duties ≡ take k duties ++ d ∷ []) (sym c.duty-item.is) (take_more duties k duty c.loop-duty-test.true)) c.in-Some.ensures.right;
    }

-- a test whether there is no value
none_told : (o : Option ℕ) (b : Bool) → is_some o ≡ not b → IsTrue b ↔ (o ≡ None)
none_told None true told = (λ _. refl, λ _. refl)
none_told None false told = absurd (cc)
none_told (Some n) true told = absurd (cc)
none_told (Some n) false told = (λ yes. absurd (cc), λ none. absurd (cc))

-- if the log is not the one line `NODIRECT`, a right log has cases
only_cases : (minutes : ℕ → ℕ → Option ℕ) (duties : List Duty) (asked : Asked) (lines : List Line)
    → (lines ≡ line.NoDirect ∷ [] → ⊥) → IsRightLog minutes duties asked lines
    → BeginsWithCases minutes (cases_of_day asked duties) lines []
only_cases minutes duties asked lines other right = elim right [ inl direct ↦ absurd (other direct.0) | inr cases ↦ cases ]

-- if it is that line, the log is right exactly if there is no way
no_way_alone : (minutes : ℕ → ℕ → Option ℕ) (duties : List Duty) (asked : Asked) (lines : List Line)
    → lines ≡ line.NoDirect ∷ [] → IsRightLog minutes duties asked lines ↔ (minutes asked.origin asked.goal ≡ None)
no_way_alone minutes duties asked lines same = (
  λ right. elim right [
    | inl direct ↦ direct.1
    | inr cases ↦ absurd (no_cases minutes (cases_of_day asked duties) (subst (λ (ls : List Line). BeginsWithCases minutes (cases_of_day asked duties) ls []) same cases))
  ],
  λ none. inl (same, none),
)

pub returns-then-is_no_direct-clause-right : goal.returns-then-is_no_direct-clause-right
returns-then-is_no_direct-clause-right g c =
    let minutes = g.T.Times.minutes c.args.times.now in
    let same : c.args.log.now.lines.items ≡ line.NoDirect ∷ [] = sym c.as_slice-lines.ensures.value ∙ c.is_no_direct.ensures.0 c.if-is_no_direct.true in
    let alone = no_way_alone minutes c.args.duties.now c.args.asked.now c.args.log.now.lines.items same in
    let told = none_told c.minutes.result c.is_none.result c.is_none.ensures in
    let way = c.minutes.ensures.value in (
      λ yes. alone.1 (sym way ∙ told.0 yes),
      λ right. told.1 (way ∙ alone.0 right),
    )

pub returns-in-None-clause-right : goal.returns-in-None-clause-right
returns-in-None-clause-right g c =
    let minutes = g.T.Times.minutes c.args.times.now in
    let duties = c.args.duties.now in
    let asked = c.args.asked.now in
    let k = c.loop-duty.duty-index in
    let duty = c.duty-item.result in
    let lines = c.as_slice-lines.result.now in
    let around : duties ≡ take k duties ++ duty ∷ drop (suc k) duties = subst
    (λ (d : Duty). duties ≡ take k duties ++ d ∷ drop (suc k) duties) (sym c.duty-item.is)
    (list_around duties k duty c.loop-duty-test.true) in
    let ends : EndsCases minutes (cases_of_day asked duties) lines 0 None =
    none_more minutes (λ (d : Duty). cases_of_vehicle asked d.vehicle.now (stops_of d.route.now)) lines 0 c.loop-duty.at
    (take k duties) c.loop-duty.invariant.right duty duties (drop (suc k) duties) around c.in-None.ensures.right in (
      λ yes. absurd (cc),
      λ right. (let is_right : IsRightLog minutes duties asked lines = subst (λ (ls : List Line). IsRightLog minutes duties asked ls) (sym c.as_slice-lines.ensures.value) right in
          absurd ((ends []).0 (only_cases minutes duties asked lines
          (λ same. (let yes = c.is_no_direct.ensures.1 same in let not : c.is_no_direct.result ≡ false = c.if-is_no_direct.false in cc)) is_right))),
    )

pub returns-clause-right : goal.returns-clause-right
returns-clause-right g c =
    let minutes = g.T.Times.minutes c.args.times.now in
    let duties = c.args.duties.now in
    let asked = c.args.asked.now in
    let lines = c.as_slice-lines.result.now in
    let ends : EndsCases minutes (cases_of_day asked duties) lines 0 (Some c.loop-duty.at) =
    subst (λ (ds : List Duty). EndsCases minutes (cases_of_day asked ds) lines 0 (Some c.loop-duty.at)) (take_all c.loop-duty.duty-index duties (omega arith)) c.loop-duty.invariant.right in
    let end = at_the_end lines c.loop-duty.at c.loop-duty.invariant.within in
    let here = sym c.as_slice-lines.ensures.value in (
      λ yes. subst (λ (ls : List Line). IsRightLog minutes duties asked ls) c.as_slice-lines.ensures.value
          (inr ((ends []).1 (end.1 (eqb-true c.loop-duty.at (length lines) yes)))),
      λ right. eq-eqb c.loop-duty.at (length lines) (end.0 ((ends []).0 (only_cases minutes duties asked lines
          (λ same. (let yes = c.is_no_direct.ensures.1 same in let not : c.is_no_direct.result ≡ false = c.if-is_no_direct.false in cc))
          (subst (λ (ls : List Line). IsRightLog minutes duties asked ls) here right)))),
    )

pub returns-clause-refused : goal.returns-clause-refused
returns-clause-refused g c says =
    right_log_refuses (g.T.Times.minutes c.args.times.now) c.args.duties.now c.args.asked.now c.args.log.now.lines.items ((returns-clause-right g c).0 says)
