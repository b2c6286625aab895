use Rattle.std.proofs.Common.{lit<, ◌≡◌, ◌∷◌, ◌++◌, [], length, take, take_all, length-take, sym, ap, ◌∙◌, arith}
use Rattle.std.proofs.lemmas.Iterator.Consumers.{YieldsList-turn, YieldsList-end}
use Rattle.std.proofs.lemmas.Iterator.Splits.{YieldsList-from_str_split}
use Rattle.std.proofs.lemmas.List.{take_more, length_push}
use borrow.Author.Tests.{eqb-true}
use Rattle.pt_rights_files.specs.Months.{numbers_of}
use Rattle.pt_rights_conditions.proofs.NumbersLemmas.{month_read, length-months, length-parts, set_found}
use Rattle.pt_rights_conditions.proofs.ResultLemmas.{ok_value, ok-not_err}
use Rattle.pt_rights_conditions.proofs.reading.months_from.Goals as goal

pub loop-part-preserved : goal.loop-part-preserved
loop-part-preserved c = λ marks set spelled.
    let next = YieldsList-turn (YieldsList-from_str_split 44 c.args.text.now (lit< tt) (cc) (cc) (cc))
    c.loop-part.yielded _ c.loop-part.yielded_by _ _ c.in-Some.part c.in-Some.is c.next.ensures.steps in
    let read = month_read c.args.text.now c.in-Some.part.now marks (length c.loop-part.yielded) c.parse.result set spelled next c.parse.ensures.value.0 in
    let number = ok_value c.parse.result _ _ c.in-Ok.is read.1 in
    let so_far = c.loop-part.invariant marks set spelled in
    c.push.ensures.items ∙ ap (λ xs. xs ++ c.in-Ok.number ∷ []) so_far ∙ ap (λ n. take (length c.loop-part.yielded) (numbers_of marks) ++ n ∷ []) number
    ∙ sym (take_more (numbers_of marks) (length c.loop-part.yielded) 0 read.0)
    ∙ ap (λ k. take k (numbers_of marks)) (sym (length_push c.loop-part.yielded c.in-Some.part))

pub returns-in_default : goal.returns-in_default
returns-in_default c = λ marks set spelled.
    let next = YieldsList-turn (YieldsList-from_str_split 44 c.args.text.now (lit< tt) (cc) (cc) (cc))
    c.loop-part.yielded _ c.loop-part.yielded_by _ _ c.in-Some.part c.in-Some.is c.next.ensures.steps in
    let read = month_read c.args.text.now c.in-Some.part.now marks (length c.loop-part.yielded) c.parse.result set spelled next c.parse.ensures.value.0 in
    absurd (ok-not_err c.parse.result _ _ read.1 c.in_default.is)

pub returns-then-is_full : goal.returns-then-is_full
returns-then-is_full c = λ marks set spelled.
    let next = YieldsList-turn (YieldsList-from_str_split 44 c.args.text.now (lit< tt) (cc) (cc) (cc))
    c.loop-part.yielded _ c.loop-part.yielded_by _ _ c.in-Some.part c.in-Some.is c.next.ensures.steps in
    let read = month_read c.args.text.now c.in-Some.part.now marks (length c.loop-part.yielded) c.parse.result set spelled next c.parse.ensures.value.0 in
    let most = length-months marks set in
    let so_far = ap length (c.loop-part.invariant marks set spelled) ∙ length-take (length c.loop-part.yielded) (numbers_of marks) in
    let full : length c.loop-part.numbers.items ≡ 12 = eqb-true _ _ (sym c.is_full.ensures.value ∙ c.if-is_full.true) in
    absurd (omega (arith, read.0, most, so_far, full))

pub returns : goal.returns
returns c = λ marks set spelled.
    let end = YieldsList-end (YieldsList-from_str_split 44 c.args.text.now (lit< tt) (cc) (cc) (cc)) c.loop-part.yielded _ c.loop-part.yielded_by _ _ c.in-None.is c.next.ensures.steps in
    let whole = end.1 ∙ length-parts c.args.text.now marks set spelled in
    let numbers = c.deref.ensures.0 ∙ c.loop-part.invariant marks set spelled ∙ take_all (length c.loop-part.yielded) (numbers_of marks) (omega (arith, whole)) in
    set_found c.of.result marks c.deref.result.now set numbers c.of.ensures.in_range c.of.ensures.value c.of.ensures.set
