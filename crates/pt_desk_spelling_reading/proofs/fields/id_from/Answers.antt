use Rattle.pt_desk_spelling.specs.Fields.{number_bytes}
use Rattle.pt_desk_spelling.specs.Replies.{IsId}
use Rattle.pt_desk_spelling_reading.proofs.ReadingLemmas.{taken-whole}
use Rattle.pt_desk_spelling_reading.proofs.fields.id_from.Goals as goal

pub returns : goal.returns
returns g c = taken-whole number_bytes IsId c.args.bytes.now _ c.take_id.result c.take_id.ensures
