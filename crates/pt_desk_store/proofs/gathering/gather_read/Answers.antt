use Rattle.pt_desk_store.proofs.SomeLemmas.{enough_all}
use Rattle.pt_desk_store.proofs.gathering.gather_read.Goals as goal

pub returns : goal.returns
returns g c = record { reads = enough_all _ _ c.args.read.now c.gather_all.result c.gather_all.ensures.reads }
