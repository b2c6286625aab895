use Rattle.std.proofs.Common.{sym, arith}
use Rattle.std.proofs.lemmas.List.{get_or-take, length-take}
use Rattle.pt_travel.specs.Places.{list_of}
use Rattle.pt_travel.proofs.PlaceLemmas.{distinct-take, position-is}
use Rattle.pt_travel.proofs.places.Places.position.Goals as goal

pub returns-then-self-guess-clause-value : goal.returns-then-self-guess-clause-value
returns-then-self-guess-clause-value c =
    let places = c.args.self.now in
    let guess = c.from-guess.result in
    sym
    (position-is (list_of places) c.args.place guess (distinct-take places.numbers places.len places.distinct)
    (omega (arith, length-take places.len places.numbers))
    (omega (arith, get_or-take places.len places.numbers guess 0 (omega arith))))
