use Rattle.std.proofs.Common.{sym, subst, ◌∙◌, ap}
use Rattle.pt_base_records.specs.Records.{IsInOrder, put_all}
use Rattle.pt_base_records.proofs.TableLemmas.{IsInOrder-take_all, IsInOrder-edited}
use Rattle.pt_base_records.proofs.table.Table.edit.Goals as goal

pub put_records-requires-clause-order : goal.put_records-requires-clause-order
put_records-requires-clause-order g c =
    subst (IsInOrder g.T.Keyed.key) (sym c.take_spans.ensures.items)
    (IsInOrder-take_all g.T.Keyed.key c.deref.result.now c.self.inside.rows.items c.self.invariant)

pub invariant_of-self : goal.invariant_of-self
invariant_of-self g c =
    subst (IsInOrder g.T.Keyed.key) (sym (c.put_records.ensures ∙ ap (put_all g.T.Keyed.key c.edits.inside.puts.items) c.take_spans.ensures.items))
    (IsInOrder-edited g.T.Keyed.key c.deref.result.now c.edits.inside.puts.items c.self.inside.rows.items c.self.invariant)
