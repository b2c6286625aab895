use Rattle.std.proofs.Common.{◌≢◌}
use Rattle.pt_feasible.specs.declared.sweep.Pass.TheVariants.{Broken}
use Rattle.pt_feasible.specs.Sweep.{Raises, IsWalkedTo}
use Rattle.pt_feasible.proofs.sweep.sweep.Given as goal

abbrev pub invariant-loop-k : goal.invariant-loop-k
invariant-loop-k g l = record {
  raises : Raises l.limits l.initial.bounds l.bounds l.done;
  unbroken : l.done ≢ Broken;
  walked : IsWalkedTo l.limits l.initial.bounds l.bounds l.k;
}
