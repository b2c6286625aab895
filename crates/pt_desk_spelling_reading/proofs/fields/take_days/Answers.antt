use Rattle.std.proofs.Common.{◌≡◌, Some, ap, arith}
use Rattle.pt_desk_spelling.specs.Fields.{days_byte}
use Rattle.pt_desk_spelling.proofs.FieldLemmas.{days-same}
use Rattle.pt_desk_spelling_reading.proofs.ReadingLemmas.{found-same, week-few}
use Rattle.pt_desk_spelling_reading.proofs.fields.take_days.Goals as goal

pub returns : goal.returns
returns c = λ days later week e.
    let s = c.take_byte.ensures (days_byte days) later tt e in
    let byte = found-same c.take_byte.result _ (days_byte days) c.in_ok-take_byte.was s.0 in
    let few = week-few days week in
    let bits = c.weekdays_of.ensures.bits in
    let same : days_byte c.weekdays_of.result ≡ days_byte days = omega (arith, few, bits, byte) in
    (ap (λ d. Some d) (days-same c.weekdays_of.result days c.weekdays_of.ensures.week week same), s.1)
