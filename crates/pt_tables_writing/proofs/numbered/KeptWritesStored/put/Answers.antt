use Rattle.pt_tables_writing.proofs.ChangeLemmas.{did_as}
use Rattle.pt_tables_writing.proofs.numbered.KeptWritesStored.put.Goals as goal

pub returns : goal.returns
returns g c = record { step = did_as c.put_kept.ensures.step (λ both. both.0) }
