use Rattle.std.proofs.Common.{◌≡◌, rules}
use Rattle.serde_json.specs.View.{view}
use Rattle.pt_http_request.proofs.FieldLemmas.{reasons-read}
use Rattle.pt_http_request.proofs.entries.reasons_at.Goals as goal

pub returns-in_err-reasons-clause-fault : goal.returns-in_err-reasons-clause-fault
returns-in_err-reasons-clause-fault c =
    let bytes : c.in_ok-bytes.bytes.items ≡ c.in_ok-text.text.now = search rules in
    let read = reasons-read c.args.name (view c.args.body.now) c.in_ok-text.text.now c.of.result
    c.in_ok-text.ensures.text
    (rw bytes at c.of.ensures.in_range) (rw bytes at c.of.ensures.value) in
    search (rules, read)

pub returns-clause-reasons : goal.returns-clause-reasons
returns-clause-reasons c =
    let bytes : c.in_ok-bytes.bytes.items ≡ c.in_ok-text.text.now = search rules in
    let read = reasons-read c.args.name (view c.args.body.now) c.in_ok-text.text.now c.of.result
    c.in_ok-text.ensures.text
    (rw bytes at c.of.ensures.in_range) (rw bytes at c.of.ensures.value) in
    search (rules, read)
