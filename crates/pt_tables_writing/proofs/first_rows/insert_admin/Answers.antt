use Rattle.std.proofs.Common.{Ok, rules}
use Rattle.sqlite.specs.Held.{state}
use Rattle.sqlite.specs.State.{Executes}
use Rattle.pt_tables_writing.specs.Least.{first_admin}
use Rattle.pt_tables_rows.specs.Rows.{caller_row}
use Rattle.pt_tables_writing.specs.declared.first_rows.TheConstants.{INSERT_CALLER}
use Rattle.pt_tables_writing.proofs.FirstRowLemmas.{fills_admin, sound_admin}
use Rattle.pt_tables_writing.proofs.ChangeLemmas.{did_run}
use Rattle.pt_tables_writing.proofs.first_rows.insert_admin.Goals as goal

pub returns-clause-step : goal.returns-clause-step
returns-clause-step g c =
    let old = state g.S.Store c.args.tx.now.conn.now in
    let new = state g.S.Store c.execute.new.self.conn.now in
    let ran = c.in_ok-execute.ensures in
    did_run ran.same_reference ran.runs ran.survives
    (λ run has. fills_admin c.args.digest.now old new c.in_ok-execute.field-0 has (search rules))

pub returns-clause-sound : goal.returns-clause-sound
returns-clause-sound g c clean inside has =
    let old = state g.S.Store c.args.tx.now.conn.now in
    let new = state g.S.Store c.execute.new.self.conn.now in
    let ran = c.in_ok-execute.ensures.runs clean inside in
    let run : Executes INSERT_CALLER.now (caller_row (first_admin c.args.digest.now)) old new (Ok c.in_ok-execute.field-0) = search rules in
    sound_admin c.args.digest.now old new c.in_ok-execute.field-0 has run
