use Rattle.serde_json.specs.View.{view}
use Rattle.pt_http_request.proofs.FieldLemmas.{ranged-known, ranged-fault}
use Rattle.pt_http_request.proofs.fields.ranged_at.Goals as goal

pub returns-clause-value : goal.returns-clause-value
returns-clause-value c = ranged-known c.args.name c.args.least c.args.most
    (view c.args.object.now) c.number_within.result c.number_within.ensures.value c.number_within.ensures.in_range

pub returns-clause-fault : goal.returns-clause-fault
returns-clause-fault c = ranged-fault c.args.name c.args.least c.args.most
    (view c.args.object.now) c.number_within.result c.number_within.ensures.value
