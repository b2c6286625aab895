use Rattle.std.proofs.Common.{take, drop, subst, sym, ◌∙◌, ap, ◌≤◌, ◌<◌}
use Rattle.pt_base_records.specs.Records.{Each, IsInOrder}
use Rattle.pt_base_records.proofs.SplitLemmas.{IsInOrder-drop, within-split}
use Rattle.pt_base_records.proofs.searching.find_within.Goals as goal

pub count_up_to-requires : goal.count_up_to-requires
count_up_to-requires g c =
    subst (IsInOrder g.T.Keyed.key) (sym c.split_at.ensures.back) (IsInOrder-drop g.T.Keyed.key c.args.records.now c.count_before.result c.requires)

pub returns : goal.returns
returns g c =
    let key = g.T.Keyed.key in
    let rest = c.split_at.ensures.back in
    record {
      value = c.split_at-2.ensures.front ∙ ap (take c.count_up_to.result) rest
          ∙ within-split key c.args.span.now c.args.records.now c.count_before.result c.count_up_to.result c.count_before.ensures.before c.count_before.ensures.rest
          (subst (λ xs. Each (λ x. key x ≤ c.args.span.now.to) (take c.count_up_to.result xs)) rest c.count_up_to.ensures.up_to)
          (subst (λ xs. Each (λ x. c.args.span.now.to < key x) (drop c.count_up_to.result xs)) rest c.count_up_to.ensures.rest);
    }
