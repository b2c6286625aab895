use Rattle.sqlite.specs.Held.{state}
use Rattle.pt_tables_opening.proofs.StepLemmas.{judged_so}
use Rattle.pt_tables_opening.proofs.whole.with_table.Goals as goal

pub returns : goal.returns
returns g c =
    judged_so c.args.table (state g.S.Store c.args.conn.now) (state g.S.Store c.change_in.new.conn) c.args.keeper.content c.change_in.result c.in_ok-change.change
    c.in_ok-change.was c.change_in.ensures c.judge.result c.judge.ensures.content c.judge.ensures.sound c.judge.ensures.faults
