use Rattle.std.proofs.Common.{◌≡◌, ◌<◌, ◌≤◌, length, Bool, true, false, not, ◌&&◌, refl, sym, ap, ◌∙◌, arith, inl, inr}
use Rattle.std.specs.Prelude.{slice_index, min, nat_eq}
use Rattle.std.proofs.lemmas.Bool.{lt-ltb, ltb-true}
use Rattle.std.proofs.lemmas.Grind.{common_steps}
use Rattle.pt_rights_visitors.specs.Periods.{is_in_period}
use Rattle.pt_rights_visitors.proofs.Walk.{IsWalked, Opens, Counts, walk_begins, walk_empty, walk_step, walk_decides, walk_allows, ord_min-min}
use Rattle.pt_rights_visitors.proofs.visits.visitor_may.Goals as goal
use Rattle.pt_rights_visitors.proofs.visits.visitor_may.Goals.{in-Some, in-None, then-not-is_in_period}
use Rattle.pt_rights_visitors.proofs.visits.visitor_may.Goals.{else-not-is_in_period, then-ne+then-is_in_period, else-ne}
use Rattle.pt_rights_visitors.proofs.visits.visitor_may.Goals.{else-ne-via-then-ne+else-is_in_period, else-ne-via-else-ne}

and_true : {a b : Bool} → a ≡ true → b ≡ true → (a && b) ≡ true
and_true p q = rw (p, q) refl

and_false_left : {a : Bool} (b : Bool) → a ≡ false → (a && b) ≡ false
and_false_left b p = rw p refl

and_false_right : (a : Bool) {b : Bool} → b ≡ false → (a && b) ≡ false
and_false_right true p = p
and_false_right false p = refl

pub loop-used-init : goal.loop-used-init
loop-used-init c =
    elim c.match-first.branch [
      | in-Some w ↦
          let some : 0 < length c.args.uses.now = grind (arith, common_steps, c.first.ensures.item, w.in-Some.is) in
          let least : w.in-Some.field-0.now ≡ slice_index c.args.uses.now 0 = grind (arith, common_steps, c.first.ensures.item, w.in-Some.is) in
          let opening : c.match-first.opening ≡ min (slice_index c.args.uses.now 0) c.args.day = w.opening-is ∙ w.min-opening.ensures ∙ ord_min-min _ _ ∙ ap (λ n. min n c.args.day) least in
          rw opening (walk_begins c.args.uses.now c.args.day c.requires some)
      | in-None w ↦
          let none : length c.args.uses.now ≤ 0 = grind (arith, common_steps, c.first.ensures.item, w.in-None.is) in
          rw w.opening-is (walk_empty c.args.uses.now c.args.day none)
    ]

pub loop-used-preserved : goal.loop-used-preserved
loop-used-preserved c =
    let uses = c.args.uses.now in
    let day = c.args.day in
    let at : c.used-item.result ≡ slice_index uses c.loop-used.used-index = grind (arith, common_steps, c.used-item.is) in
    let reached : c.min-reached.result ≡ min (slice_index uses c.loop-used.used-index) day = c.min-reached.ensures ∙ ord_min-min _ _ ∙ ap (λ n. min n day) at in
    let held : c.is_in_period.result ≡ is_in_period c.loop-used.opening (min (slice_index uses c.loop-used.used-index) day) = c.is_in_period.ensures ∙ ap (is_in_period c.loop-used.opening) reached in
    let opens : Opens (min (slice_index uses c.loop-used.used-index) day) c.loop-used.opening c.loop-used.others c.if-not-is_in_period.opening c.if-not-is_in_period.others =
    elim c.if-not-is_in_period.branch [
      | then-not-is_in_period w ↦ inl (sym held ∙ w.if-not-is_in_period.true, w.opening-is ∙ reached, w.others-is)
      | else-not-is_in_period w ↦ inr (sym held ∙ w.if-not-is_in_period.false, w.opening-is, w.others-is)
    ] in
    let differs : c.ne.result ≡ not (nat_eq (slice_index uses c.loop-used.used-index) day) = c.ne.ensures ∙ ap (λ n. not (nat_eq n day)) at in
    let lies = ap (is_in_period c.if-not-is_in_period.opening) at in
    let counts : Counts c.if-not-is_in_period.opening day (slice_index uses c.loop-used.used-index) c.if-not-is_in_period.others c.if-ne.others =
    elim c.if-ne.branch [
      | then-ne+then-is_in_period w ↦ inl (and_true (sym differs ∙ w.if-ne.true) (sym lies ∙ sym w.is_in_period-then-ne.ensures ∙ w.if-is_in_period.true), w.others-is)
      | else-ne w ↦
          elim w.else-ne.branch [
            | else-ne-via-then-ne+else-is_in_period w' ↦ inr (and_false_right _ (sym lies ∙ sym w'.is_in_period-then-ne.ensures ∙ w'.if-is_in_period.false), w.others-is)
            | else-ne-via-else-ne w' ↦ inr (and_false_left _ (sym differs ∙ w'.if-ne.false), w.others-is)
          ]
    ] in
    walk_step uses day c.loop-used.used-index c.loop-used.opening c.loop-used.others c.if-not-is_in_period.opening
    c.if-not-is_in_period.others c.if-ne.others c.requires c.loop-used.invariant (omega arith) opens counts

pub returns-then-not-is_in_period-2 : goal.returns-then-not-is_in_period-2
returns-then-not-is_in_period-2 c =
    let at_end : c.loop-used.used-index ≡ length c.args.uses.now = omega arith in
    let w : IsWalked c.args.uses.now c.args.day (length c.args.uses.now) c.loop-used.opening c.loop-used.others = rw (← at_end) c.loop-used.invariant in
    let ends : is_in_period c.loop-used.opening c.args.day ≡ false = sym c.is_in_period-2.ensures ∙ c.if-not-is_in_period-2.true in
    (λ _. walk_allows c.args.uses.now c.args.day c.loop-used.opening c.loop-used.others w ends, λ _. ap not c.if-not-is_in_period-2.true)

pub returns-else-not-is_in_period-2 : goal.returns-else-not-is_in_period-2
returns-else-not-is_in_period-2 c =
    let at_end : c.loop-used.used-index ≡ length c.args.uses.now = omega arith in
    let w : IsWalked c.args.uses.now c.args.day (length c.args.uses.now) c.loop-used.opening c.loop-used.others = rw (← at_end) c.loop-used.invariant in
    let holds : is_in_period c.loop-used.opening c.args.day ≡ true = sym c.is_in_period-2.ensures ∙ c.if-not-is_in_period-2.false in
    let decides = walk_decides c.args.uses.now c.args.day c.loop-used.opening c.loop-used.others w holds in
    (λ few. decides.0 (ltb-true _ _ few), λ may. lt-ltb _ _ (decides.1 may))
