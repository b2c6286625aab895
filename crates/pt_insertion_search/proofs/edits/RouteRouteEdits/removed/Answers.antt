-- The loop copies the stops of other trips. They are a route, since they are in pairs and their number has not grown.
use Rattle.std.proofs.Common.{◌≡◌, ℕ, ◌+◌, ◌≤◌, Bool, true, false, not, ◌==◌, ◌&&◌, refl, List, [], ◌∷◌, ◌++◌, Some, length, take, slice_get, ap, sym, subst, ◌∙◌, arith, rules}
use Rattle.std.proofs.lemmas.List.{take_all}
use Rattle.std.proofs.lemmas.List.Elements.{filter_more}
use Rattle.std.proofs.lemmas.Option.{get_or_from_slice_get, slice_get_within}
use Rattle.std.proofs.lemmas.Bool.{cond-true, cond-false}
use Rattle.std.proofs.lemmas.List.{append-nil}
use Rattle.pt_feasible.specs.Pairing.{IsPaired}
use Rattle.pt_feasible.specs.declared.stop.Stop.{Stop}
use Rattle.pt_feasible.specs.Route.{stops_of}
use Rattle.pt_insertion_search.specs.Removal.{is_of_another, without_trip, KeepsFittingTimes, KeepsFittingLoads}
use Rattle.pt_insertion_search.proofs.RemovalPairing.{IsPaired-without_trip}
use Rattle.pt_insertion_search.proofs.RemovalTimes.{times_stay}
use Rattle.pt_insertion_search.proofs.RemovalLoads.{loads_stay}
use Rattle.pt_insertion_search.proofs.edits.RouteRouteEdits.removed.Goals as goal
use Rattle.pt_insertion_search.proofs.edits.RouteRouteEdits.removed.Goals.{then-ne, else-ne}

-- one more stop of another trip is copied
kept_more : (trip : ℕ) (old new ys : List Stop) (k : ℕ) (y : Stop) → slice_get ys k ≡ Some y → is_of_another trip y ≡ true →
    new ≡ old ++ y ∷ [] → old ≡ without_trip trip (take k ys) → new ≡ without_trip trip (take (k + 1) ys)
kept_more trip old new ys k y e other pushed same =
    let at = get_or_from_slice_get ys k y y e in
    pushed ∙ ap (λ (front : List Stop). front ++ y ∷ []) same
    ∙ sym (filter_more (is_of_another trip) ys k y (slice_get_within ys k y e)
    ∙ rw at (ap (λ (last : List Stop). without_trip trip (take k ys) ++ last) (cond-true (is_of_another trip y) (y ∷ []) [] other)))

-- a stop of the trip is left out
kept_same : (trip : ℕ) (old ys : List Stop) (k : ℕ) (y : Stop) → slice_get ys k ≡ Some y → is_of_another trip y ≡ false →
    old ≡ without_trip trip (take k ys) → old ≡ without_trip trip (take (k + 1) ys)
kept_same trip old ys k y e own same =
    let at = get_or_from_slice_get ys k y y e in
    same ∙ sym (filter_more (is_of_another trip) ys k y (slice_get_within ys k y e)
    ∙ rw at (ap (λ (last : List Stop). without_trip trip (take k ys) ++ last) (cond-false (is_of_another trip y) (y ∷ []) [] own))
    ∙ append-nil (without_trip trip (take k ys)))

-- the test of the loop asks whether the stop is of another trip
test_is : (same : Bool) → not (same && true) ≡ not same
test_is true = refl
test_is false = refl

pub loop-k-preserved : goal.loop-k-preserved
loop-k-preserved c =
    let test : is_of_another c.args.trip c.stop-stop.result ≡ c.ne.result =
    sym (c.ne.ensures ∙ test_is (c.stop-stop.result.trip == c.args.trip)) in
    elim c.if-ne.branch [
      | then-ne w ↦
          let pushed : w.push.new.self.items ≡ c.loop-k.stops.items ++ c.stop-stop.result ∷ [] = search rules in
          record {
            room = search rules;
            count = search rules;
            kept = kept_more c.args.trip c.loop-k.stops.items _ (stops_of c.args.self.now) c.loop-k.k c.stop-stop.result
                c.stop-stop.ensures.value (test ∙ w.if-ne.true) (rw w.stops-is pushed) c.loop-k.invariant.kept;
          }
      | else-ne w ↦ record {
        room = rw w.stops-is c.loop-k.invariant.room;
        count = rw w.stops-is (omega arith);
        kept = rw w.stops-is (kept_same c.args.trip c.loop-k.stops.items (stops_of c.args.self.now) c.loop-k.k c.stop-stop.result
            c.stop-stop.ensures.value (test ∙ w.if-ne.false) c.loop-k.invariant.kept);
      }
    ]

-- the loop has read all stops
kept_all : (trip : ℕ) (xs ys : List Stop) (k : ℕ) → xs ≡ without_trip trip (take k ys) → length ys ≤ k → xs ≡ without_trip trip ys
kept_all trip xs ys k same past = same ∙ ap (without_trip trip) (take_all k ys past)

pub unwrap-requires-2 : goal.unwrap-requires-2
unwrap-requires-2 c =
    let same : c.loop-k.stops.items ≡ without_trip c.args.trip (stops_of c.args.self.now) =
    kept_all c.args.trip c.loop-k.stops.items (stops_of c.args.self.now) c.loop-k.k c.loop-k.invariant.kept (omega arith) in
    c.of.ensures.is_route.1 (
      omega (arith, c.args.self.now.short),
      subst IsPaired (sym same) (IsPaired-without_trip c.args.trip (stops_of c.args.self.now) c.args.self.now.paired),
    )

pub returns-clause-times : goal.returns-clause-times
returns-clause-times c =
    let made : stops_of c.unwrap-2.result ≡ c.loop-k.stops.items = search rules in
    subst (KeepsFittingTimes c.args.trip (stops_of c.args.self.now))
    (sym (made ∙ kept_all c.args.trip c.loop-k.stops.items (stops_of c.args.self.now) c.loop-k.k c.loop-k.invariant.kept (omega arith)))
    (times_stay c.args.trip (stops_of c.args.self.now))

pub returns-clause-loads : goal.returns-clause-loads
returns-clause-loads c =
    let made : stops_of c.unwrap-2.result ≡ c.loop-k.stops.items = search rules in
    subst (KeepsFittingLoads (stops_of c.args.self.now))
    (sym (made ∙ kept_all c.args.trip c.loop-k.stops.items (stops_of c.args.self.now) c.loop-k.k c.loop-k.invariant.kept (omega arith)))
    (loads_stay c.args.trip (stops_of c.args.self.now) c.args.self.now.paired)
