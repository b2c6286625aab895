use Rattle.serde_json.specs.View.{view}
use Rattle.pt_http_request.proofs.FieldLemmas.{policy-read}
use Rattle.pt_http_request.proofs.policy.policy_of.Goals as goal

pub returns : goal.returns
returns c =
    policy-read (view c.args.body.now) _ c.in_ok-base.ensures.value c.in_ok-transfer.ensures.value
    c.in_ok-fare.ensures.value c.in_ok-service.ensures.value
    c.in_ok-extra_ride.ensures.value c.in_ok-min_missed.ensures.value c.in_ok-percent.ensures.value
    c.in_ok-span_days.ensures.value
