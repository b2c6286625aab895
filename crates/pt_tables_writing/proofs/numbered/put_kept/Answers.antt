use Rattle.std.proofs.Common.{◌≡◌, rules}
use Rattle.sqlite.specs.Held.{state}
use Rattle.pt_tables_writing.proofs.NumberedTables.{kept_stored}
use Rattle.pt_tables_writing.proofs.ChangeLemmas.{did_run}
use Rattle.pt_tables_writing.proofs.numbered.put_kept.Goals as goal

pub returns-clause-step : goal.returns-clause-step
returns-clause-step g c =
    let old = state g.S.Store c.args.tx.now.conn.now in
    let new = state g.S.Store c.execute.new.self.conn.now in
    let ran = c.in_ok-execute.ensures in
    did_run ran.same_reference ran.runs ran.survives (λ run has. (
      kept_stored.puts c.args.kept.now old new c.in_ok-execute.field-0 has (search rules),
      kept_stored.sound c.args.kept.now old new c.in_ok-execute.field-0 has (search rules),
    ))

pub returns-clause-open : goal.returns-clause-open
returns-clause-open g c clean inside = let ran = c.in_ok-execute.ensures.runs clean inside in ran.1.was_open
