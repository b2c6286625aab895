use Rattle.std.proofs.Common.{◌≡◌, ℕ, sym, subst, length, arith}
use Rattle.std.proofs.lemmas.List.{get_or_read}
use Rattle.pt_travel.specs.Places.{list_of}
use Rattle.pt_travel.proofs.MatrixLemmas.{StandsUpTo, stands-more, stands-all}
use Rattle.pt_travel.proofs.PlaceLemmas.{distinct-take}
use Rattle.pt_travel.proofs.matrix.direct.Goals as goal

pub loop-row-preserved : goal.loop-row-preserved
loop-row-preserved c =
    let table = c.args.rows.now in
    let places = c.args.places.now in
    let at = get_or_read table c.loop-row.row-index c.row-item.result (omega arith) c.row-item.is (0, 0, 0) in
    stands-more table (list_of places) (omega arith) c.loop-row.row-index c.loop-row.lines.items c.put.new.lines.items
    c.row-item.result (omega arith) (sym at) c.loop-row.invariant c.put.ensures

pub returns : goal.returns
returns c =
    let table = c.args.rows.now in
    let places = c.args.places.now in
    let end : c.loop-row.row-index ≡ length table = omega arith in
    stands-all table (list_of places) (omega arith) c.loop-row.lines.items
    (distinct-take places.numbers places.len places.distinct)
    (subst (λ (x : ℕ). StandsUpTo table (list_of places) x c.loop-row.lines.items) end c.loop-row.invariant)
