use Rattle.std.proofs.Common.{arith, ◌≡◌, ℕ, List, length, drop, subst, refl}
use Rattle.std.specs.List.{refill}
use Rattle.std.proofs.lemmas.List.{take_at}
use Rattle.pt_feasible.specs.declared.limits.Limits.{Limits}
use Rattle.pt_feasible.specs.declared.sweep.Pass.{Pass}
use Rattle.pt_feasible.specs.declared.sweep.Pass.TheVariants.{Raised, Broken}
use Rattle.pt_feasible.specs.Sweep.{Raises, IsWalkedTo}
use Rattle.pt_feasible.proofs.PassLemmas.{count_final-le, none-from-lowest, one_more_final}
use Rattle.pt_feasible.proofs.sweep.least_times.Goals as goal

-- if a whole list was borrowed and came back with the same length, it is what came back
refill_whole : (old new : List ℕ) → length new ≡ length old → refill (length old) old new ≡ new
refill_whole old new same = take_at new (drop (length new) old) (length old) same

-- what was raised in the borrowed lists was raised in the vectors' items
raises_items : (lent old new : List ℕ) (read limits : List Limits) (done is : Pass) → lent ≡ old → read ≡ limits → done ≡ is → Raises read lent new done → Raises limits old new is
raises_items lent old new read limits done is same same' same'' raises =
    subst (λ (p : Pass). Raises limits old new p) same'' (subst (λ (xs : List Limits). Raises xs old new done) same' (subst (λ (xs : List ℕ). Raises read xs new done) same raises))

walked_items : (lent old new : List ℕ) (read limits : List Limits) → lent ≡ old → read ≡ limits → IsWalkedTo read lent new (length read) → IsWalkedTo limits old new (length limits)
walked_items lent old new read limits same same' walked =
    subst (λ (xs : List Limits). IsWalkedTo xs old new (length xs)) same' (subst (λ (xs : List ℕ). IsWalkedTo read xs new (length read)) same walked)

pub loop-preserved : goal.loop-preserved
loop-preserved g c =
    let start = c.args.timeline.earliest.items in
    let limits = c.args.timeline.limits.items in
    let old = c.loop.bounds.items in
    let new = c.sweep.new.bounds in
    let same = c.as_mut_slice.ensures.value in
    let same' = c.as_slice.ensures.value in
    let raises = raises_items c.as_mut_slice.result.now old new c.as_slice.result.now limits c.sweep.result Raised same same' c.in-Raised.is c.sweep.ensures.raises in
    let walked = walked_items c.as_mut_slice.result.now old new c.as_slice.result.now limits same same' (c.sweep.ensures.walked (λ is. cc)) in
    let whole = refill_whole old new raises.count in
    rw whole (record {
      count = omega (arith, raises.count);
      limits_stay = c.loop.invariant.limits_stay;
      rises = λ k. omega (arith, raises.rises k, c.loop.invariant.rises k);
      in_windows = raises.in_windows c.loop.invariant.in_windows;
      below = λ b from keeps. raises.below b (c.loop.invariant.below b from keeps) keeps;
      final = λ b count from keeps lowest.
          omega (
            arith,
            c.loop.invariant.final b count from keeps lowest,
            one_more_final limits start old new b (omega arith) (omega (arith, raises.count)) (omega arith) c.loop.invariant.rises raises.rises
                (raises.below b (c.loop.invariant.below b from keeps) keeps) keeps lowest walked (raises.raised refl),
          );
      counted = omega arith;
    })

pub returns-in-Broken-clause-none : goal.returns-in-Broken-clause-none
returns-in-Broken-clause-none g c b count from keeps =
    let limits = c.args.timeline.limits.items in
    let old = c.loop.bounds.items in
    let new = c.sweep.new.bounds in
    let raises = raises_items c.as_mut_slice.result.now old new c.as_slice.result.now limits c.sweep.result Broken
    c.as_mut_slice.ensures.value c.as_slice.ensures.value c.in-Broken.is c.sweep.ensures.raises in
    raises.broken refl b (c.loop.invariant.below b from keeps) keeps

pub returns-clause-none : goal.returns-clause-none
returns-clause-none g c =
    none-from-lowest c.args.timeline.limits.items c.args.timeline.earliest.items
    (λ b count from keeps lowest.
    omega (arith, c.loop.invariant.final b count from keeps lowest, count_final-le c.loop.bounds.items b, c.loop.invariant.count))
