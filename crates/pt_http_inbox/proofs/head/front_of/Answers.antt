use Rattle.std.proofs.Common.{◌≤◌, take, drop, length, sym, arith, length-take}
use Rattle.std.proofs.lemmas.List.{take-append-drop}
use Rattle.pt_http_inbox.proofs.HeadLemmas.{IsFoundAt, found_is_head, none_in_front, none_after_refusal}
use Rattle.pt_http_inbox.proofs.head.front_of.Goals as goal

pub returns-in-Ok-Complete : goal.returns-in-Ok-Complete
returns-in-Ok-Complete c =
    let within = rw c.in-Ok-Complete.field-0-is at c.in-Ok-Complete.ensures.within in
    let complete = rw c.in-Ok-Complete.field-0-is at c.in-Ok-Complete.ensures.complete in
    let short : length (take c.min.result c.args.bytes.now) ≤ 8_192
    = omega (arith, c.min.ensures, length-take c.min.result c.args.bytes.now) in
    let is : IsFoundAt c.of.result c.parse_request.new.headers c.in-Ok-Complete.spans
    = record {
      method = c.of.ensures.method;
      target = c.of.ensures.target;
      lines = c.of.ensures.lines;
      length =
          c.of.ensures.length;
    } in
    found_is_head c.args.bytes.now (take c.min.result c.args.bytes.now) (drop c.min.result c.args.bytes.now)
    c.parse_request.new.headers c.in-Ok-Complete.spans c.of.result is
    (sym (take-append-drop c.min.result c.args.bytes.now)) short c.parse_request.auto.headers within complete

pub returns-in-Ok-Partial-2 : goal.returns-in-Ok-Partial-2
returns-in-Ok-Partial-2 c =
    let none = rw c.in-Ok-Partial.field-0-is at c.in-Ok-Partial.ensures.partial in
    let long : 8_192 ≤ length (take c.min.result c.args.bytes.now)
    = omega (arith, c.min.ensures, c.if-bytes-lt-LONGEST_HEAD.false, length-take c.min.result c.args.bytes.now) in
    none_in_front c.args.bytes.now (take c.min.result c.args.bytes.now) (drop c.min.result c.args.bytes.now)
    (sym (take-append-drop c.min.result c.args.bytes.now)) long none

pub returns-in-Err : goal.returns-in-Err
returns-in-Err c =
    none_after_refusal c.args.bytes.now (take c.min.result c.args.bytes.now) (drop c.min.result c.args.bytes.now)
    (sym (take-append-drop c.min.result c.args.bytes.now)) c.in-Err.ensures.no_room
