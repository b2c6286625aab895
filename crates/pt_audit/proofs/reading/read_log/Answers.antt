use Rattle.std.proofs.Common.{arith, rules, ◌≡◌, ◌∙◌, ◌+◌, ◌∷◌, ◌++◌, [], List, All, length, ap, sym, subst, refl, false, inr, length-append}
use Rattle.std.specs.List.{flat_map}
use Rattle.std.proofs.lemmas.List.{length_push}
use Rattle.std.proofs.lemmas.List.Elements.{All-push}
use Rattle.pt_audit.specs.declared.line.Line.{Line}
use Rattle.pt_audit.specs.Text.{opening, line_text, IsInForm}
use Rattle.pt_audit.proofs.TextLemmas.{fails_no_log, one_line_more, some_bytes}
use Rattle.pt_audit.proofs.reading.read_log.Goals as goal

pub returns-in_default-clause-no_log : goal.returns-in_default-clause-no_log
returns-in_default-clause-no_log c _ =
    fails_no_log c.args.text.now c.loop-rest.row (inr (record {
      before = c.loop-rest.lines.items;
      rest = c.loop-rest.rest.now;
      begins = c.loop-rest.invariant.begins;
      in_form = c.loop-rest.invariant.in_form;
      counted = c.loop-rest.invariant.counted;
      no_end = λ same. (let told = c.is_closing.ensures.1 same in let not : c.is_closing.result ≡ false = c.loop-rest-test.true in cc);
      no_line = λ line more in_form is. c.in_default.ensures.none refl line more in_form is;
    }))

pub loop-rest-preserved : goal.loop-rest-preserved
loop-rest-preserved c =
    let lines = c.loop-rest.lines.items in
    let pushed : c.push.new.self.items ≡ lines ++ c.in-Some.line ∷ [] = search rules in
    let line = c.in-Some.ensures.line in
    let begins : c.args.text.now ≡ opening ++ flat_map line_text (lines ++ c.in-Some.line ∷ []) ++ c.in-Some.after.now =
    one_line_more c.args.text.now lines c.in-Some.line c.loop-rest.rest.now c.in-Some.after.now c.loop-rest.invariant.begins line.1 in
    let count : length c.push.new.self.items ≡ length lines + 1 = ap length pushed ∙ length_push lines c.in-Some.line in
    record {
      begins = subst (λ (ls : List Line). c.args.text.now ≡ opening ++ flat_map line_text ls ++ c.in-Some.after.now) (sym pushed) begins;
      in_form = subst (All IsInForm) (sym pushed) (All-push IsInForm lines c.in-Some.line c.loop-rest.invariant.in_form line.0);
      counted = omega (arith, c.saturating_add-row.ensures, c.loop-rest.invariant.counted, count);
    }

pub loop-rest-smaller : goal.loop-rest-smaller
loop-rest-smaller c = omega (arith, ap length c.in-Some.ensures.line.1, length-append (line_text c.in-Some.line) c.in-Some.after.now, some_bytes c.in-Some.line)
