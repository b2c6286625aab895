use Rattle.std.proofs.Common.{◌≡◌, ◌+◌, ◌≤◌, length, vec_len, vec_capacity}
use Rattle.std.specs.Vec.Iter.{into_iter_items, into_iter_len}
use Rattle.pt_base_records.specs.Records.{IsInOrder, put_all}
use Rattle.pt_base_records.proofs.edits.put_records.Given as goal

abbrev pub invariant-loop-new : goal.invariant-loop-new
invariant-loop-new g l = record {
  can : (goal.iterator-loop-new g).can_next l.new-iterator;
  ends : (goal.iterator-loop-new g).is_finite l.new-iterator;
  len : into_iter_len l.new-iterator ≡ length (into_iter_items l.new-iterator);
  order : IsInOrder g.T.Keyed.key l.records.items;
  room : vec_len l.records + length (into_iter_items l.new-iterator) ≤ vec_capacity l.records;
  rest : put_all g.T.Keyed.key (into_iter_items l.new-iterator) l.records.items ≡ put_all g.T.Keyed.key (into_iter_items l.initial.new-iterator) l.fn.records.items;
}
