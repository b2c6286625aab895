use Rattle.std.proofs.Common.{arith}
use Rattle.std.proofs.lemmas.Bool.{false≢true}
use Rattle.pt_travel.proofs.PlaceLemmas.{in-range}
use Rattle.pt_travel.proofs.places.Places.place.Goals as goal

pub returns-then-number-from : goal.returns-then-number-from
returns-then-number-from c there =
    let places = c.args.self.now in
    omega (arith, (in-range places.numbers places.len c.args.number places.valid there).1)

pub returns-in_err-place : goal.returns-in_err-place
returns-in_err-place c =
    let places = c.args.self.now in
    rw c.from_residual.ensures (λ there. false≢true (c.in_err-place.ensures.in_range.1
    (in-range places.numbers places.len c.args.number places.valid there).0))
