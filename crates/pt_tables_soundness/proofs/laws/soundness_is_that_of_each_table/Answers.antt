use Rattle.pt_tables_soundness.proofs.TableLemmas.{sound_of, sound_to}
use Rattle.pt_tables_soundness.proofs.laws.soundness_is_that_of_each_table.Goals as goal

pub returns : goal.returns
returns c s = (sound_of s, sound_to s)
