use Rattle.std.specs.Int.{IsInRange}
use Rattle.pt_desk_spelling.specs.Fields.{number_bytes}
use Rattle.pt_desk_spelling_reading.proofs.ReadingLemmas.{taken-whole}
use Rattle.pt_desk_spelling_reading.proofs.fields.number_from.Goals as goal

pub returns-clause-found : goal.returns-clause-found
returns-clause-found c =
    taken-whole number_bytes (IsInRange c.args.least c.args.most) c.args.bytes.now _ c.take_number_in.result
    c.take_number_in.ensures.taken
