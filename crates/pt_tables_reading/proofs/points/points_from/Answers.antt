use Rattle.std.proofs.Common.{◌≡◌, ◌∙◌, ◌/◌, ◌*◌, ap, arith, length, List, ℕ}
use Rattle.std.proofs.lemmas.List.{take_all}
use Rattle.std.specs.List.{flat_map}
use Rattle.pt_tables_reading.proofs.PointReading.{length-line, parts-whole}
use Rattle.pt_tables_reading.proofs.points.points_from.Goals as goal

pub returns-then-bytes-ne0 : goal.returns-then-bytes-ne0
returns-then-bytes-ne0 c = λ points same.
    let size : length (flat_map _ points) ≡ length c.args.bytes.now = ap length same in
    let whole = length-line points in
    let torn = c.if-bytes-ne0.true in
    absurd (omega (arith, size, whole, torn))

pub returns : goal.returns
returns c =
    let bytes = c.args.bytes.now in
    let whole : length bytes ≡ length bytes / 8 * 8 = let exact = c.if-bytes-ne0.false in omega (arith, exact) in
    let all = take_all c.loop-chunk.chunk-index c.as_chunks.result.0.now (omega (arith, c.loop-chunk-test.false)) in
    c.loop-chunk.invariant
    ∙ ap (λ (parts : List (List ℕ)). flat_map (λ (part : List ℕ). part) parts) (all ∙ c.as_chunks.ensures.front)
    ∙ parts-whole (length bytes / 8) bytes whole
