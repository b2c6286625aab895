use Rattle.std.proofs.Common.{refl, sym, ap, ◌∙◌, subst}
use Rattle.std.specs.Str.Lines.{strip_carriage_return}
use Rattle.pt_http_rehearsal.specs.Moment.{IsMoment}
use Rattle.pt_http_rehearsal.proofs.LineLemmas.{line_unique}
use Rattle.pt_http_rehearsal.proofs.moment.moment_at.Goals as goal

pub returns-in_err-moment-clause-none : goal.returns-in_err-moment-clause-none
returns-in_err-moment-clause-none c = λ none day minute rest is.
    let same = line_unique c.args.bytes.now is.line c.in_ok-line.line.now rest _ is.first c.in_ok-line.ensures.line in
    let moment = subst (λ line. IsMoment line day minute) (ap strip_carriage_return same ∙ sym
    c.without_return.ensures) is.moment in
    c.in_err-moment.ensures.none refl day minute moment
