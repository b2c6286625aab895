use Rattle.std.proofs.Common.{rules, ◌≡◌, sym, subst, slice_set}
use Rattle.pt_base_records.specs.Records.{IsInOrder, put}
use Rattle.pt_base_records.proofs.OrderLemmas.{IsInOrder-put}
use Rattle.pt_base_records.proofs.edits.put_record.Goals as goal

pub returns-in-Ok-clause-order : goal.returns-in-Ok-clause-order
returns-in-Ok-clause-order g c =
    let key = g.T.Keyed.key in
    let is : slice_set c.args.records.now.items c.in-Ok.at c.args.added ≡ put key c.args.added c.args.records.now.items = search rules in
    subst (IsInOrder key) (sym is) (IsInOrder-put key c.args.added c.args.records.now.items c.requires.order)

pub returns-in-Err-clause-order : goal.returns-in-Err-clause-order
returns-in-Err-clause-order g c =
    let key = g.T.Keyed.key in
    let is : c.insert.new.self.items ≡ put key c.args.added c.args.records.now.items = search rules in
    subst (IsInOrder key) (sym is) (IsInOrder-put key c.args.added c.args.records.now.items c.requires.order)
