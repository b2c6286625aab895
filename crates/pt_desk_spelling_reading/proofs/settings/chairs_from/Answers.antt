use Rattle.std.proofs.Common.{ℕ, Some, sym, ap}
use Rattle.pt_desk_spelling_reading.proofs.ReadingLemmas.{no-bytes, some-bytes, no-chairs, some-chairs, none-found}
use Rattle.pt_desk_spelling_reading.proofs.ReadingLemmas.{found-same}
use Rattle.pt_desk_spelling_reading.proofs.settings.chairs_from.Goals as goal

pub returns-then-is_empty-clause-found : goal.returns-then-is_empty-clause-found
returns-then-is_empty-clause-found c = λ chairs fits e.
    let size = no-bytes c.args.bytes.now _ c.is_empty.ensures c.if-is_empty.true in
    ap (λ (n : ℕ). Some n) (sym (no-chairs c.args.bytes.now chairs size e))

pub returns-in_err-number_from-clause-found : goal.returns-in_err-number_from-clause-found
returns-in_err-number_from-clause-found c = λ chairs fits e.
    let size = some-bytes c.args.bytes.now _ c.is_empty.ensures c.if-is_empty.false in
    let some = some-chairs c.args.bytes.now chairs size e in
    absurd (none-found _ chairs c.in_err-number_from.was (c.number_from.ensures.found chairs (some.0, fits) some.1))

pub returns-clause-found : goal.returns-clause-found
returns-clause-found c = λ chairs fits e.
    let size = some-bytes c.args.bytes.now _ c.is_empty.ensures c.if-is_empty.false in
    let some = some-chairs c.args.bytes.now chairs size e in
    let found = c.number_from.ensures.found chairs (some.0, fits) some.1 in
    ap (λ (n : ℕ). Some n) (found-same _ _ chairs c.in_ok-number_from.was found)
