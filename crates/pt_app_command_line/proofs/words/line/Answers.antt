use Rattle.std.proofs.Common.{◌≡◌, ◌∙◌, Global, map, refl, string_bytes, subst, sym}
use Rattle.pt_base_values.specs.Fault.{fault}
use Rattle.pt_base_values.specs.declared.fault.Cause.TheVariants as cause
use Rattle.pt_app_command_line.specs.Line.{AsksOf}
use Rattle.pt_app_command_line.proofs.PlainLemmas.{spelled_is_line}
use Rattle.pt_app_command_line.proofs.SameLemmas.{same_line}
use Rattle.pt_app_command_line.proofs.WordLemmas.{desk_is_simple, memory_alone}
use Rattle.pt_app_command_line.proofs.words.line.Goals as goal

pub returns-in-Ok-clause-wrong : goal.returns-in-Ok-clause-wrong
returns-in-Ok-clause-wrong c = λ is asked line.
    let found = (c.in-Ok.ensures.matches desk_is_simple).1 in
    c.in-None.ensures.none refl asked (subst (λ rows. AsksOf rows asked) (sym found) line.1)

pub returns-in-Ok-clause-plain : goal.returns-in-Ok-clause-plain
returns-in-Ok-clause-plain c = λ asked spells is.
    returns-in-Ok-clause-wrong c is asked (spelled_is_line _ asked spells)

pub returns-clause-wrong : goal.returns-clause-wrong
returns-clause-wrong c = λ is asked line.
    let wrong : c.refusal_of.result ≡ fault cause.WrongWords = cc is in
    c.refusal_of.ensures.wrong wrong (c.kind.ensures ∙ memory_alone _ c.in-Err.error line.0 c.in-Err.ensures.refused)

pub returns-clause-plain : goal.returns-clause-plain
returns-clause-plain c = λ asked spells is. returns-clause-wrong c is asked (spelled_is_line _ asked spells)

pub returns-in-Some-clause-same : goal.returns-in-Some-clause-same
returns-in-Some-clause-same c = λ asked spells.
    let found = (c.in-Ok.ensures.matches desk_is_simple).1 in
    let words = map (string_bytes {Z = Global}) c.args.words.now in
    same_line words asked c.in-Some.asked (spelled_is_line words asked spells)
    (c.in-Ok.ensures.refused, subst (λ rows. AsksOf rows c.in-Some.asked) found c.in-Some.ensures.line)
