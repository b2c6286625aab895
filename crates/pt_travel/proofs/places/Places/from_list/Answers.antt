use Rattle.std.proofs.Common.{◌≡◌, Bool, true, false, get_or, take, Contains, sym, subst, arith}
use Rattle.std.specs.Bool.{OnTrue, OnFalse}
use Rattle.std.proofs.lemmas.List.{get_or_read, take_all}
use Rattle.std.proofs.lemmas.List.Elements.{All-contains, All-more, All-weaker, Contains-get_or}
use Rattle.pt_travel.specs.Places.{list_of}
use Rattle.pt_travel.proofs.PlaceLemmas.{crowded, distinct-take, put-kept}
use Rattle.pt_travel.proofs.places.Places.from_list.Goals as goal

only-true : (A B : Type 0) (b : Bool) → OnTrue b A → OnFalse b B → (B → ⊥) → A
only-true A B true done full room = done
only-true A B false done full room = absurd (room full)

pub loop-place-preserved : goal.loop-place-preserved
loop-place-preserved c =
    let list = c.args.list.now in
    let i = c.loop-place.place-index in
    let places = c.loop-place.places in
    let old = list_of places in
    let new = list_of c.insert.new.self in
    let place = c.place-item.result in
    let at : place ≡ get_or list i 0 = get_or_read list i place (omega arith) c.place-item.is 0 in
    let one = subst (Contains list) (sym at) (Contains-get_or list i 0 (omega arith)) in
    let put = put-kept old new place
    (only-true _ _ c.insert.result c.insert.ensures.kept c.insert.ensures.full
    (λ full. omega (
      arith,
      full.0,
      crowded old list place (distinct-take places.numbers places.len places.distinct)
          full.1 c.loop-place.invariant.within one,
    ))) in
    record {
      has =
          All-more (Contains new) list i 0 (omega arith)
          (All-weaker (Contains old) (Contains new) put.keeps (take i list) c.loop-place.invariant.has)
          (subst (Contains new) at put.has);
      within = put.needs list c.loop-place.invariant.within one;
    }

pub returns : goal.returns
returns c place =
    let list = c.args.list.now in
    let all = rw (take_all c.loop-place.place-index list (omega arith)) at c.loop-place.invariant.has in (
      All-contains (Contains list) (list_of c.loop-place.places) place c.loop-place.invariant.within,
      All-contains (Contains (list_of c.loop-place.places)) list place all,
    )
