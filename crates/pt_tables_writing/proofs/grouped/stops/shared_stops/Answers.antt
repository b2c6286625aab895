use Rattle.std.proofs.Common.{◌≡◌, ◌∙◌, ◌<◌, length, true, false, not, Bool, refl, sym, arith}
use Rattle.pt_tables_writing.proofs.StopRows.{same-stop, shared-more}
use Rattle.pt_tables_writing.proofs.grouped.stops.shared_stops.Goals as goal

not_false : (b : Bool) → not b ≡ false → b ≡ true
not_false true is = refl
not_false false is = sym is

pub loop-place-preserved : goal.loop-place-preserved
loop-place-preserved c =
    let a = c.index-one-place.result in
    let b = c.index-other-place.result in
    let low : c.loop-place.place < length c.args.one.now = omega (arith, c.loop-place-test.true, c.min-both.ensures) in
    let other_low : c.loop-place.place < length c.args.other.now = omega (arith, c.loop-place-test.true, c.min-both.ensures) in
    shared-more c.loop-place.place c.args.one.now c.args.other.now a b low other_low c.index-one-place.is c.index-other-place.is
    (same-stop a b (not_false _ (sym c.ne.ensures ∙ c.if-ne.false))) c.loop-place.invariant
