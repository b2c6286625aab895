use Rattle.std.proofs.Common.{Ok, take}
use Rattle.pt_tables_writing.specs.Step.{Writes}
use Rattle.pt_tables_writing.specs.Stored.{TakesAll}
use Rattle.pt_tables_writing.proofs.stored.take_each.Given as goal

abbrev pub invariant-loop-old : goal.invariant-loop-old
invariant-loop-old g l =
    Writes {X = Unit {0}} g.S.Store l.initial.tx l.tx
    (TakesAll g.T.TableOf.home g.T.Record.Keyed.key g.T.TableOf.Fits g.T.TableOf.rows_of (take l.old-index l.gone))
    (Ok tt)
