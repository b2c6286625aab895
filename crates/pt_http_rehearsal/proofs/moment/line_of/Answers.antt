use Rattle.std.proofs.Common.{sym}
use Rattle.pt_http_rehearsal.proofs.LineLemmas.{newline_found, line_before}
use Rattle.pt_http_rehearsal.proofs.moment.line_of.Goals as goal

pub returns-in_err-end-clause-none : goal.returns-in_err-end-clause-none
returns-in_err-end-clause-none c = λ none line rest is.
    newline_found c.args.bytes.now line rest (sym c.in_err-end.ensures) is

pub returns-clause-line : goal.returns-clause-line
returns-clause-line c = line_before c.args.bytes.now c.in_ok-end.end (sym c.in_ok-end.ensures)
