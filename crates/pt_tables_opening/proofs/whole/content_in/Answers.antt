use Rattle.std.proofs.Common.{Result, Ok, Err, IfOk, rules}
use Rattle.pt_desk_store.specs.Listed.{Listed}
use Rattle.pt_desk_rules.specs.Sound.{IsSound}
use Rattle.pt_desk_rules.specs.TableNames.{table_count}
use Rattle.sqlite.specs.Held.{state}
use Rattle.sqlite.specs.Tree.{Trees}
use Rattle.pt_tables_opening.specs.Steps.{HasRowsTo, IsReadTo}
use Rattle.pt_tables_opening.specs.declared.open_fault.OpenFault.{OpenFault}
use Rattle.pt_tables_opening.proofs.BlameLemmas.{caused_so}
use Rattle.pt_tables_opening.proofs.StepLemmas.{all_sound}
use Rattle.pt_tables_opening.proofs.TableCases.{among, last_table}
use Rattle.pt_tables_rows.specs.Schema.{desk_schema}
use Rattle.pt_tables_rows.specs.Tables.{HasRows, HasRowsIn}
use Rattle.pt_tables_opening.proofs.whole.content_in.Goals as goal

sound_so : (r : Result Listed OpenFault) → IfOk r (λ keeper. IsReadTo table_count keeper.content) → IfOk r (λ keeper. IsSound keeper.content)
sound_so (Ok keeper) read = all_sound keeper.content read
sound_so (Err f) read = tt

pub returns-clause-sound : goal.returns-clause-sound
returns-clause-sound g c = sound_so c.all_tables.result c.all_tables.ensures.read

rows_so : (trees : Trees) (r : Result Listed OpenFault) → IfOk r (λ keeper. HasRowsTo table_count keeper.content trees) → IfOk r (λ keeper. HasRows keeper.content trees)
rows_so trees (Ok keeper) rows = λ t. among (HasRowsIn keeper.content trees) t table_count (last_table t) rows
rows_so trees (Err f) rows = tt

pub returns-clause-rows : goal.returns-clause-rows
returns-clause-rows g c = λ clean. rows_so (state g.S.Store c.args.conn.now).now.trees c.all_tables.result (c.all_tables.ensures.rows clean (search rules))

pub returns-clause-caused : goal.returns-clause-caused
returns-clause-caused g c clean =
    caused_so desk_schema (state g.S.Store c.args.conn.now) (state g.S.Store c.all_tables.new.conn) c.all_tables.result c.all_tables.ensures.caused clean (search rules)
