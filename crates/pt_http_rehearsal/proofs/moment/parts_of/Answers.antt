use Rattle.std.proofs.Common.{arith}
use Rattle.std.proofs.lemmas.Str.Pattern.{split_parts, split_after}
use Rattle.std.proofs.lemmas.List.Elements.{All-get_or}
use Rattle.std.proofs.Common.{◌≢◌}
use Rattle.pt_http_rehearsal.proofs.MomentLemmas.{stripped, none_is_none, rest_of_parts, parts_given}
use Rattle.pt_http_rehearsal.proofs.moment.parts_of.Goals as goal

pub returns-clause-parts : goal.returns-clause-parts
returns-clause-parts c =
    let rest = c.in_ok-strip_prefix.field-0.now in
    parts_given c.args.text.now rest c.split_once.result _ (stripped c.args.text.now rest
    c.in_ok-strip_prefix.ensures.cases)
    (split_parts 32 rest c.split_once.result c.split_once.ensures.cases (omega arith))

pub returns-clause-none : goal.returns-clause-none
returns-clause-none c = λ none date digits parts.
    let rest = c.in_ok-strip_prefix.field-0.now in
    let same = rest_of_parts c.args.text.now rest date digits
    (stripped c.args.text.now rest c.in_ok-strip_prefix.ensures.cases) parts in
    none_is_none c.split_once.result _ none
    (split_after 32 rest date digits c.split_once.result c.split_once.ensures.cases (omega arith) same
    (λ i below. All-get_or (λ byte. byte ≢ 32) date i 0 below parts.one_word))
