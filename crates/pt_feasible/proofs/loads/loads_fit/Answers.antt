use Rattle.std.proofs.Common.{arith, ◌≡◌, ℕ, ◌+◌, take, subst, sym, inl, inr, refl}
use Rattle.std.proofs.lemmas.Bool.{cases_lt, false≢true}
use Rattle.pt_base_values.specs.Load.{FitsWithin}
use Rattle.pt_base_values.specs.declared.load.Load.{Load}
use Rattle.pt_base_values.proofs.LoadLemmas.{fits-is_load}
use Rattle.pt_feasible.specs.Loads.{load_aboard}
use Rattle.pt_feasible.proofs.loads.loads_fit.Goals as goal

pub returns-in-None : goal.returns-in-None
returns-in-None g c =
    let stops = g.S.Stops.stops c.args.stops.now in (
      λ false_holds. absurd (false≢true false_holds),
      λ fits. absurd (c.in-None.ensures.none (fits-is_load (load_aboard (take (c.loop-k.k + 1) stops)) c.args.vehicle.now
          (fits (c.loop-k.k + 1) (omega arith)))),
    )

pub returns-then-not-fits : goal.returns-then-not-fits
returns-then-not-fits g c =
    let stops = g.S.Stops.stops c.args.stops.now in (
      λ false_holds. absurd (false≢true false_holds),
      λ fits. (let fit : FitsWithin (load_aboard (take (c.loop-k.k + 1) stops)) c.args.vehicle.now = fits (c.loop-k.k + 1) (omega arith) in
          c.if-not-fits.ensures.1 (subst (λ (load : Load). FitsWithin load c.args.vehicle.now) (sym c.in-Some.ensures.after) fit)),
    )

pub loop-k-preserved : goal.loop-k-preserved
loop-k-preserved g c =
    let stops = g.S.Stops.stops c.args.stops.now in
    let next : c.in-Some.load ≡ load_aboard (take (c.loop-k.k + 1) stops) = c.in-Some.ensures.after in
    let fits : FitsWithin c.in-Some.load c.args.vehicle.now = c.if-not-fits.ensures.0 refl in
    record {
      aboard = next;
      fit = λ i within. elim (cases_lt c.loop-k.k i) [
        | inl last ↦
            let place : c.loop-k.k + 1 ≡ i = omega arith in
            subst (λ (n : ℕ). FitsWithin (load_aboard (take n stops)) c.args.vehicle.now) place
            (subst (λ (load : Load). FitsWithin load c.args.vehicle.now) next fits)
        | inr before ↦ c.loop-k.invariant.fit i before
      ];
    }
