use Rattle.std.proofs.Common.{arith}
use Rattle.pt_desk_spelling.proofs.TableLemmas.{length-table}
use Rattle.pt_desk_spelling.proofs.settings.push_rows.Goals as goal

pub overflow_cast-rows : goal.overflow_cast-rows
overflow_cast-rows c = let few = length-table c.rows-rows.result.now c.rows-rows.ensures.table in omega arith
