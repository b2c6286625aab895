use Rattle.std.proofs.Common.{rules, ◌<◌, ◌≤◌}
use Rattle.std.specs.Prelude.{nat_lt}
use Rattle.std.proofs.lemmas.List.Sorted.{IsPartitionPoint-from_clause}
use Rattle.pt_base_records.proofs.SplitLemmas.{Each-take, Each-drop, parted_before, is_below, is_from}
use Rattle.pt_base_records.proofs.searching.count_before.Goals as goal

pub returns-clause-before : goal.returns-clause-before
returns-clause-before g c =
    let point = IsPartitionPoint-from_clause (λ there. nat_lt (g.T.Keyed.key there) c.args.key.now) _ _ c.partition_point.ensures.partitioned
    (parted_before g.T.Keyed.key c.args.key.now c.args.records.now c.requires) (λ a r q k. search rules) in
    Each-take (λ there. g.T.Keyed.key there < c.args.key.now) c.args.records.now c.partition_point.result
    (λ k d low lt. is_below (g.T.Keyed.key _) c.args.key.now (point.0 k d low lt)) c.partition_point.ensures.bound

pub returns-clause-rest : goal.returns-clause-rest
returns-clause-rest g c =
    let point = IsPartitionPoint-from_clause (λ there. nat_lt (g.T.Keyed.key there) c.args.key.now) _ _ c.partition_point.ensures.partitioned
    (parted_before g.T.Keyed.key c.args.key.now c.args.records.now c.requires) (λ a r q k. search rules) in
    Each-drop (λ there. c.args.key.now ≤ g.T.Keyed.key there) c.args.records.now c.partition_point.result
    (λ k d low lt. is_from (g.T.Keyed.key _) c.args.key.now (point.1 k d low lt))
