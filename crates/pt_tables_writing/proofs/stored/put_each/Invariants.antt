use Rattle.std.proofs.Common.{Ok, take}
use Rattle.pt_tables_writing.specs.Step.{Writes}
use Rattle.pt_tables_writing.specs.Stored.{PutsAll}
use Rattle.pt_tables_writing.proofs.stored.put_each.Given as goal

abbrev pub invariant-loop-new : goal.invariant-loop-new
invariant-loop-new g l =
    Writes {X = Unit {0}} g.S.Store l.initial.tx l.tx
    (PutsAll g.T.TableOf.home g.T.Record.Keyed.key g.T.TableOf.Fits g.T.TableOf.rows_of (take l.new-index l.news))
    (Ok tt)
