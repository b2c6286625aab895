use Rattle.std.proofs.Common.{arith, ◌≡◌, ℕ, subst, inl, inr}
use Rattle.std.proofs.lemmas.Bool.{cases_lt, false≢true}
use Rattle.pt_audit.specs.declared.line.End.TheVariants as end
use Rattle.pt_audit.specs.Insertion.{inserted_stops}
use Rattle.pt_insertion_log.specs.Steps.{IsLasting}
use Rattle.pt_insertion_log.proofs.FitLemmas.{no_way-among}
use Rattle.pt_insertion_log.proofs.cases.lasting_end.Goals as goal

pub returns-clause-none : goal.returns-clause-none
returns-clause-none g c _ k =
    let minutes = g.T.Times.minutes c.args.times.now in
    let vehicle = c.args.insertion.now.vehicle.now in
    let stops = inserted_stops c.args.insertion.now in (
      c.loop-k.invariant.short,
      λ lasting. elim (cases_lt k c.loop-k.k) [
        | inl before ↦ c.loop-k.invariant.way k before lasting
        | inr from ↦
            let place : k ≡ c.len.result = omega (arith, no_way-among minutes vehicle stops k lasting) in
            false≢true (c.if-is_right_end-3.ensures.1
            (subst (λ (n : ℕ). IsLasting minutes vehicle stops (end.NoWay n)) place lasting))
      ],
      λ over. over.1 (c.loop-k.invariant.room k (omega (arith, over.0))),
    )
