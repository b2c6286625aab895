use Rattle.std.proofs.Common.{arith, ◌≡◌, ℕ, ◌<◌, List, Some, All, IsTrue, slice_get, take, length, refl, sym, subst, inl, inr, ◌∙◌, get_or}
use Rattle.std.specs.List.{list_any}
use Rattle.std.proofs.lemmas.Bool.{cases_lt}
use Rattle.std.proofs.lemmas.List.{get_or-take, length-take-le}
use Rattle.std.proofs.lemmas.Option.{same_Some, get_or_from_slice_get, slice_get_within, slice_get_read}
use Rattle.pt_feasible.specs.declared.stop.Stop.{Stop}
use Rattle.pt_feasible.specs.Pairing.{IsPickupThenDrop, is_partner}
use Rattle.pt_feasible.proofs.route.is_paired.Goals as goal

-- what holds of each stop before a place holds of the stop that is read there
in_order_at : (stops : List Stop) (k : ℕ) (second : Stop) → slice_get stops k ≡ Some second
    → All (λ first. first.trip ≡ second.trip → IsPickupThenDrop first second) (take k stops) → (i : ℕ) (first : Stop)
    → i < k → slice_get stops i ≡ Some first → first.trip ≡ second.trip → IsPickupThenDrop first second
in_order_at stops k second there each i first before here =
    let within = slice_get_within stops k second there in
    let read : get_or (take k stops) i first ≡ first = get_or-take k stops i first before ∙ get_or_from_slice_get stops i first first here in
    subst (λ (s : Stop). s.trip ≡ second.trip → IsPickupThenDrop s second) read
    (each i first (omega (arith, length-take-le k stops (omega arith))))

pub loop-k-preserved : goal.loop-k-preserved
loop-k-preserved c =
    let stops = c.args.stops.now in
    let k = c.loop-k.k in
    let stop = c.index-stops-k.result in
    let read : slice_get stops k ≡ Some stop = slice_get_read stops (length stops) k stop refl (omega arith) c.index-stops-k.is in
    let stop' = c.index-stops-k-else-not-follows_in_order.result in
    let read' : slice_get stops k ≡ Some stop' = slice_get_read stops (length stops) k stop' refl (omega arith) c.index-stops-k-else-not-follows_in_order.is in
    let order : All (λ first. first.trip ≡ stop.trip → IsPickupThenDrop first stop) (take k stops) = c.if-not-follows_in_order.ensures.0 refl in
    let partner : IsTrue (list_any (is_partner stop') stops) = sym c.if-not-has_partner.ensures in
    record {
      in_order = λ i j first second within before here there same. elim (cases_lt j k) [
        | inl earlier ↦ c.loop-k.invariant.in_order i j first second earlier before here there same
        | inr last ↦
            let place : j ≡ k = omega arith in
            let there' : slice_get stops k ≡ Some second = subst (λ (n : ℕ). slice_get stops n ≡ Some second) place there in
            let this : stop ≡ second = same_Some stop second (sym read ∙ there') in
            in_order_at stops k second there' (subst (λ (s : Stop). All (λ first. first.trip ≡ s.trip → IsPickupThenDrop first s) (take k stops)) this order) i first (omega arith) here same
      ];
      complete = λ i other within here. elim (cases_lt i k) [
        | inl earlier ↦ c.loop-k.invariant.complete i other earlier here
        | inr last ↦
            let place : i ≡ k = omega arith in
            let here' : slice_get stops k ≡ Some other = subst (λ (n : ℕ). slice_get stops n ≡ Some other) place here in
            let this : stop' ≡ other = same_Some stop' other (sym read' ∙ here') in
            subst (λ (s : Stop). IsTrue (list_any (is_partner s) stops)) this partner
      ];
    }

pub returns : goal.returns
returns c =
    let stops = c.args.stops.now in (
      λ _. record {
        in_order = λ i j first second before here there same. c.loop-k.invariant.in_order i j first second (omega (arith, slice_get_within stops j second there)) before here there same;
        complete = λ i stop here. c.loop-k.invariant.complete i stop (omega (arith, slice_get_within stops i stop here)) here;
      },
      λ _. refl,
    )
