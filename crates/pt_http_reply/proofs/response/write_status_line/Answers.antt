use Rattle.std.proofs.Common.{◌≡◌, ◌+◌, ◌++◌, codes, decimal, length, unwrap_or, ap, ◌∙◌, arith, length-append}
use Rattle.http.specs.StatusCode.{reason_phrase}
use Rattle.pt_http_reply.proofs.ReplyLemmas.{five_parts, phrase_now}
use Rattle.pt_http_reply.proofs.response.write_status_line.Goals as goal

pub returns-clause-text : goal.returns-clause-text
returns-clause-text c =
    let none = codes "<unknown status code>" in
    let digits : c.as_bytes.result.now ≡ decimal c.args.status = c.as_bytes.ensures.value ∙ c.format.ensures.text ∙ ap decimal c.as_u16.ensures.value in
    let phrase : c.as_bytes-2.result.now ≡ unwrap_or (reason_phrase c.args.status) none
    = c.as_bytes-2.ensures.value ∙ phrase_now c.canonical_reason.result _ _ _ c.unwrap_or.ensures c.canonical_reason.ensures.value in
    five_parts c.args.out.now (codes "HTTP/1.1 ") (decimal c.args.status) (codes " ") (unwrap_or (reason_phrase c.args.status) none) (codes "\r\n") _ _ _ _ _ c.push.ensures
    (c.push-2.ensures ∙ ap (λ t. c.push.new.self ++ t) digits) c.push-3.ensures (c.push-4.ensures ∙ ap (λ t. c.push-3.new.self ++ t) phrase) c.push-5.ensures

pub returns-clause-short : goal.returns-clause-short
returns-clause-short c =
    let none = codes "<unknown status code>" in
    let phrase : c.as_bytes-2.result.now ≡ unwrap_or (reason_phrase c.args.status) none
    = c.as_bytes-2.ensures.value ∙ phrase_now c.canonical_reason.result _ _ _ c.unwrap_or.ensures c.canonical_reason.ensures.value in
    let one : length c.push.new.self ≡ length c.args.out.now + 9 = ap length c.push.ensures ∙ length-append c.args.out.now (codes "HTTP/1.1 ") in
    let two : length c.push-2.new.self ≡ length c.push.new.self + length c.as_bytes.result.now = ap length c.push-2.ensures ∙ length-append c.push.new.self c.as_bytes.result.now in
    let three : length c.push-3.new.self ≡ length c.push-2.new.self + 1 = ap length c.push-3.ensures ∙ length-append c.push-2.new.self (codes " ") in
    let four : length c.push-4.new.self ≡ length c.push-3.new.self + length c.as_bytes-2.result.now = ap length c.push-4.ensures ∙ length-append c.push-3.new.self c.as_bytes-2.result.now in
    let five : length c.push-5.new.self ≡ length c.push-4.new.self + 2 = ap length c.push-5.ensures ∙ length-append c.push-4.new.self (codes "\r\n") in
    omega (arith, one, two, three, four, five, ap length c.as_bytes.ensures.value, c.format.ensures.short, ap length phrase, c.requires.short)
