-- The loop copies the route with the trip put in, which is a route since it is in pairs and has room.
use Rattle.std.proofs.Common.{◌≡◌, ℕ, ◌+◌, ◌≤◌, List, [], ◌∷◌, ◌++◌, Some, length, take, slice_get, ap, sym, subst, ◌∙◌, arith, rules}
use Rattle.std.proofs.lemmas.List.{take_all}
use Rattle.pt_feasible.specs.Pairing.{IsPaired}
use Rattle.pt_feasible.specs.declared.stop.Stop.{Stop}
use Rattle.pt_feasible.specs.Route.{stops_of}
use Rattle.pt_insertion_search.specs.Insertion.{with_trip}
use Rattle.pt_insertion_search.proofs.ListLemmas.{take_more_get}
use Rattle.pt_insertion_search.proofs.InsertionLemmas.{length-with_trip}
use Rattle.pt_insertion_search.proofs.InsertionPairing.{IsPaired-with_trip}
use Rattle.pt_insertion_search.proofs.edits.RouteRouteEdits.inserted.Goals as goal

-- one more stop is copied
copied_more : (old new ys : List Stop) (k : ℕ) (y : Stop) → new ≡ old ++ y ∷ [] → old ≡ take k ys → slice_get ys k ≡ Some y →
    new ≡ take (k + 1) ys
copied_more old new ys k y pushed same e =
    pushed ∙ ap (λ (front : List Stop). front ++ y ∷ []) same ∙ sym (take_more_get ys k y e)

pub loop-k-preserved : goal.loop-k-preserved
loop-k-preserved c = record {
  room = search rules;
  count = search rules;
  copied = copied_more _ _ (with_trip c.args.asked.now c.args.chosen.now.i c.args.chosen.now.j (stops_of c.args.self.now))
      c.loop-k.k c.stop_at.result (search rules) c.loop-k.invariant.copied c.stop_at.ensures;
}

-- all stops are copied
copied_all : (xs ys : List Stop) (k n : ℕ) → xs ≡ take k ys → n ≤ k → length ys ≡ n → xs ≡ ys
copied_all xs ys k n same past count = same ∙ take_all k ys (omega arith)

pub unwrap-requires-2 : goal.unwrap-requires-2
unwrap-requires-2 c =
    let count : length (with_trip c.args.asked.now c.args.chosen.now.i c.args.chosen.now.j (stops_of c.args.self.now))
    ≡ length (stops_of c.args.self.now) + 2 =
    length-with_trip c.args.asked.now c.args.chosen.now.i c.args.chosen.now.j (stops_of c.args.self.now)
    c.requires.drop_later c.requires.among in
    let paired : IsPaired (with_trip c.args.asked.now c.args.chosen.now.i c.args.chosen.now.j (stops_of c.args.self.now)) =
    IsPaired-with_trip c.args.asked.now c.args.chosen.now.i c.args.chosen.now.j (stops_of c.args.self.now)
    c.requires.drop_later c.requires.among c.requires.new_trip c.args.self.now.paired in
    let same : c.loop-k.stops.items ≡ with_trip c.args.asked.now c.args.chosen.now.i c.args.chosen.now.j (stops_of c.args.self.now) =
    copied_all c.loop-k.stops.items (with_trip c.args.asked.now c.args.chosen.now.i c.args.chosen.now.j (stops_of c.args.self.now))
    c.loop-k.k (length (stops_of c.args.self.now) + 2) c.loop-k.invariant.copied (omega arith) count in
    c.of.ensures.is_route.1 (omega arith, subst IsPaired (sym same) paired)

pub returns : goal.returns
returns c = record {
  value =
      let count : length (with_trip c.args.asked.now c.args.chosen.now.i c.args.chosen.now.j (stops_of c.args.self.now))
      ≡ length (stops_of c.args.self.now) + 2 =
      length-with_trip c.args.asked.now c.args.chosen.now.i c.args.chosen.now.j (stops_of c.args.self.now)
      c.requires.drop_later c.requires.among in
      let made : stops_of c.unwrap-2.result ≡ c.loop-k.stops.items = search rules in
      made ∙ copied_all c.loop-k.stops.items (with_trip c.args.asked.now c.args.chosen.now.i c.args.chosen.now.j (stops_of c.args.self.now))
      c.loop-k.k (length (stops_of c.args.self.now) + 2) c.loop-k.invariant.copied (omega arith) count;
  memory = tt;
}
