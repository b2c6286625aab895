use Rattle.pt_tables_soundness.proofs.PairLemmas.{pairs_each, pairs_of_all}
use Rattle.pt_tables_soundness.proofs.pairs.are_paired.Goals as goal

pub returns : goal.returns
returns c =
    let stops = c.args.stops.now in (
      λ is. pairs_of_all stops (c.are_pairs.ensures.0 is),
      λ all. c.are_pairs.ensures.1 (pairs_each stops all),
    )
