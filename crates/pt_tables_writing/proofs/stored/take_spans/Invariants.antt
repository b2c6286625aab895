use Rattle.std.proofs.Common.{Ok, take}
use Rattle.pt_tables_writing.specs.Groups.{KnowsTaken, OfEach}
use Rattle.pt_tables_writing.specs.Step.{Writes}
use Rattle.pt_tables_writing.specs.Stored.{TakesSpans}
use Rattle.pt_tables_writing.proofs.stored.take_spans.Given as goal

abbrev pub invariant-loop-span : goal.invariant-loop-span
invariant-loop-span g l =
    Writes {X = Unit {0}} g.S.Store l.initial.tx l.tx (OfEach (KnowsTaken g.T.Record.Keyed.key l.spans l.records.items)
    (TakesSpans g.T.TableOf.home g.T.Record.Keyed.key g.T.TableOf.Fits g.T.TableOf.rows_of (take l.span-index l.spans)))
    (Ok tt)
