use Rattle.std.proofs.Common.{refl}
use Rattle.sqlite.specs.Held.{state}
use Rattle.pt_tables_asking.proofs.CauseLemmas.{excused_by, if_open}
use Rattle.pt_tables_asking.proofs.asking.ask.Goals as goal

pub returns-in-Err-clause-excused : goal.returns-in-Err-clause-excused
returns-in-Err-clause-excused g c clean xs each has =
    let old = state g.S.Store c.args.conn.now in
    let new = state g.S.Store c.rows_shown.new.conn in
    if_open old new c.of.result c.of.ensures.shown
    (λ here. let it = has here in
    excused_by old new c.in-Err.error c.of.result c.of.ensures.memory c.of.ensures.shown (c.in-Err.ensures.caused clean it.schema it.served))
    old.is_open refl
