use Rattle.std.proofs.Common.{rules}
use Rattle.std.specs.Prelude.{nat_lt}
use Rattle.std.proofs.lemmas.List.Sorted.{answers_always}
use Rattle.pt_tables_asking.proofs.RecordLemmas.{rising}
use Rattle.pt_tables_asking.proofs.asking.are_rising.Goals as goal

pub returns : goal.returns
returns g c =
    let key = g.T.Keyed.key in
    rising key c.args.records.now c.is_sorted_by.result (c.is_sorted_by.ensures.cases (λ x y. nat_lt (key x) (key y)) (answers_always _ _ _ (λ f a r f' called. search rules)))
