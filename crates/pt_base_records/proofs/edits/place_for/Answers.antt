use Rattle.pt_base_records.proofs.SplitLemmas.{placed_by}
use Rattle.pt_base_records.proofs.edits.place_for.Goals as goal

pub returns : goal.returns
returns g c =
    placed_by g.T.Keyed.key c.args.added.now c.args.records.now c.key.result c.key.ensures c.position_of.result
    c.position_of.ensures.bound c.position_of.ensures.before c.position_of.ensures.here
