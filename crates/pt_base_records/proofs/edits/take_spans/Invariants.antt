use Rattle.std.proofs.Common.{◌≡◌, ◌≤◌, drop, vec_len, vec_capacity}
use Rattle.pt_base_records.specs.Records.{take_all}
use Rattle.pt_base_records.proofs.edits.take_spans.Given as goal

abbrev pub invariant-loop-span : goal.invariant-loop-span
invariant-loop-span g l = record {
  len : vec_len l.records ≤ vec_len l.fn.records;
  capacity : vec_capacity l.fn.records ≤ vec_capacity l.records;
  rest : take_all g.T.Keyed.key (drop l.span-index l.spans) l.records.items ≡ take_all g.T.Keyed.key l.spans l.fn.records.items;
}
