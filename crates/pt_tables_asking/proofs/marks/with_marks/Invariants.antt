use Rattle.std.proofs.Common.{◌≡◌}
use Rattle.pt_tables_asking.specs.Marks.{has_mark}
use Rattle.pt_tables_asking.proofs.MarkLemmas.{first_changed}
use Rattle.pt_tables_asking.proofs.marks.with_marks.Given as goal

abbrev pub invariant-loop-owner : goal.invariant-loop-owner
invariant-loop-owner g l = l.owner-items ≡ first_changed (λ x. g.M.Marking.marked x (has_mark l.marks (g.M.Record.Keyed.key x))) l.owner-index l.initial.owner-items
