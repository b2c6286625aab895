use Rattle.std.proofs.Common.{◌≡◌, Some, rules}
use Rattle.std.specs.Prelude.{IsUtf8, IsSome}
use Rattle.serde_json.specs.Find.{as_object}
use Rattle.serde_json.specs.Read.{read}
use Rattle.serde_json.specs.View.{view}
use Rattle.pt_http_request.proofs.MessageLemmas.{no_text, object-found}
use Rattle.pt_http_request.specs.Messages.{body_text}
use Rattle.pt_http_request.proofs.message.object_from.Goals as goal

pub returns-in_default-clause-none : goal.returns-in_default-clause-none
returns-in_default-clause-none c =
    let text : body_text c.args.body.now ≡ c.if-is_empty.bytes.now = search rules in
    rw text (no_text c.if-is_empty.bytes.now c.in_default.ensures.cases.0)

pub returns-in-Ok-from_str-clause-found : goal.returns-in-Ok-from_str-clause-found
returns-in-Ok-from_str-clause-found c =
    let text : IsUtf8 (body_text c.args.body.now) = search rules in
    let held : read (body_text c.args.body.now) ≡ Some (view c.in-Ok-from_str.value) = search rules in
    let object : IsSome (as_object (view c.in-Ok-from_str.value)) = search rules in
    object-found (body_text c.args.body.now) (view c.in-Ok-from_str.value) text held object
