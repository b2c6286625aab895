use Rattle.std.proofs.Common.{sym, subst}
use Rattle.sqlite.specs.Held.{state}
use Rattle.pt_tables_opening.proofs.BlameLemmas.{error_caused}
use Rattle.pt_tables_opening.proofs.EarlierLemmas.{version_told}
use Rattle.pt_tables_rows.specs.Schema.{desk_table}
use Rattle.pt_tables_rows.specs.Tables.{AreRows}
use Rattle.pt_tables_opening.proofs.earlier_version.is_of_version.Goals as goal

pub returns-in-Ok-clause-value : goal.returns-in-Ok-clause-value
returns-in-Ok-clause-value g c clean has =
    let db = (state g.S.Store c.args.conn.now).now in
    version_told c.args.version c.requires.earlier db c.deref.result.now
    (subst (AreRows desk_table db.trees) (sym c.deref.ensures.value) (c.in-Ok.ensures.earlier_rows clean c.args.version c.requires.earlier has)) has
    c.tells_version.result c.tells_version.ensures.value

pub returns-in-Err-clause-caused : goal.returns-in-Err-clause-caused
returns-in-Err-clause-caused g c clean has store =
    error_caused (state g.S.Store c.args.conn.now) (state g.S.Store c.desk_rows.new.conn) c.in-Err.error c.fault_of.result c.fault_of.ensures.memory
    (c.in-Err.ensures.earlier_caused clean c.args.version c.requires.earlier has) store
