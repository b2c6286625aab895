use Rattle.std.proofs.Common.{rules}
use Rattle.pt_desk_store.proofs.NewLemmas.{least_is_sound}
use Rattle.pt_desk_store.proofs.list_keeper.ListKeeper.new.Goals as goal

-- the content of a new list keeper is sound
pub returns-clause-sound : goal.returns-clause-sound
returns-clause-sound c = least_is_sound c.of_key.result _ c.of_key.ensures.size (search rules)
