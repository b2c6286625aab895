use Rattle.std.proofs.Common.{Some, None}
use Rattle.csv.specs.Records.{fields_of}
use Rattle.pt_travel.proofs.RecordLemmas.{field-at}
use Rattle.pt_travel.proofs.record.field.Goals as goal

pub returns-in-Some : goal.returns-in-Some
returns-in-Some c = field-at (fields_of c.args.given.now) c.args.i (Some c.in-Some.field.now) c.in-Some.ensures.value

pub returns-in-None : goal.returns-in-None
returns-in-None c = field-at (fields_of c.args.given.now) c.args.i None c.in-None.ensures.value
