use Rattle.std.proofs.Common.{◌≡◌, refl, sym, subst}
use Rattle.sqlite.specs.Held.{state}
use Rattle.sqlite.specs.State.{HasCleanDisk}
use Rattle.pt_base_values.specs.declared.fault.Cause.TheVariants as cause
use Rattle.pt_tables_opening.specs.Faults.{fault, unsound}
use Rattle.pt_tables_opening.specs.Gathered.{KeepsRows}
use Rattle.pt_tables_rows.specs.Schema.{desk_schema}
use Rattle.pt_tables_rows.specs.Tables.{AreRows}
use Rattle.pt_desk_rules.specs.TableNames.{number_of}
use Rattle.pt_tables_opening.proofs.BesideLemmas.{beside_told, refuses_beside, same_told}
use Rattle.pt_tables_opening.proofs.BlameLemmas.{error_caused, rows_caused}
use Rattle.pt_tables_opening.proofs.RestLemmas.{last, refused}
use Rattle.pt_tables_opening.proofs.ShownRows.{serves_asked, shows_asked}
use Rattle.pt_tables_opening.proofs.beside.beside_in.Goals as goal

pub returns-in-Err-clause-rests : goal.returns-in-Err-clause-rests
returns-in-Err-clause-rests g c =
    let old = state g.S.Store c.args.conn.now in
    let new = state g.S.Store c.rows_of_table.new.conn in
    refused old new c.rows_of_table.result _ refl (c.rows_of_table.ensures.rests desk_schema c.requires.asked.plain)

pub returns-clause-rests : goal.returns-clause-rests
returns-clause-rests g c =
    let old = state g.S.Store c.args.conn.now in
    let new = state g.S.Store c.rows_of_table.new.conn in
    last old new c.rows_of_table.result c.in-Ok.rows c.in-Ok.is (c.rows_of_table.ensures.rests desk_schema c.requires.asked.plain) c.merged_table.result

pub returns-clause-faults : goal.returns-clause-faults
returns-clause-faults g c =
    let old = state g.S.Store c.args.conn.now in
    let new = state g.S.Store c.rows_of_table.new.conn in
    let trees = old.now.trees in
    let second = g.T.TableOf.home in
    let rows = c.in-Ok.rows.items in
    refuses_beside g.T.Record.Keyed.key g.T.First.TableOf.home second g.T.First.OneRow.row_of g.T.TableOf.rows_of g.T.TableOf.Fits c.requires.beside
    trees c.args.records.now c.requires.order c.deref.result.now (HasCleanDisk new) (old.now.schema ≡ desk_schema)
    (λ clean has. subst (AreRows second trees) (sym c.deref.ensures.value) (shows_asked c.requires.asked old new has rows (c.in-Ok.ensures.shown clean)).0)
    (λ clean has. subst (KeepsRows g.T.Record.Keyed.key g.T.TableOf.rows_of g.T.TableOf.Fits)
    (sym c.deref.ensures.value) (shows_asked c.requires.asked old new has rows (c.in-Ok.ensures.shown clean)).1)
    (fault cause.Memory) (fault cause.StoreFailed) (unsound (number_of c.args.table)) c.merged_table.result c.merged_table.ensures.faults

pub returns-clause-same : goal.returns-clause-same
returns-clause-same g c =
    same_told g.T.Record.Keyed.key g.T.TableOf.home g.T.First.OneRow.row_of g.T.TableOf.rows_of g.T.TableOf.Fits (state g.S.Store c.args.conn.now).now.trees c.args.records.now c.deref.result.now
    c.merged_table.result c.merged_table.ensures.told

pub returns-clause-told : goal.returns-clause-told
returns-clause-told g c clean has =
    let old = state g.S.Store c.args.conn.now in
    let home = g.T.TableOf.home in
    let shown = shows_asked c.requires.asked old (state g.S.Store c.rows_of_table.new.conn) has c.in-Ok.rows.items (c.in-Ok.ensures.shown clean) in
    beside_told g.T.Record.Keyed.key home g.T.First.OneRow.row_of g.T.TableOf.rows_of g.T.TableOf.Fits old.now.trees c.args.records.now c.deref.result.now
    c.merged_table.result c.merged_table.ensures.told (subst (AreRows home old.now.trees) (sym c.deref.ensures.value) shown.0)

pub returns-in-Err-clause-caused : goal.returns-in-Err-clause-caused
returns-in-Err-clause-caused g c clean has store =
    error_caused (state g.S.Store c.args.conn.now) (state g.S.Store c.rows_of_table.new.conn) c.in-Err.error c.fault_of.result c.fault_of.ensures.memory
    (c.in-Err.ensures.caused desk_schema (serves_asked c.requires.asked) clean has) store

pub returns-clause-caused : goal.returns-clause-caused
returns-clause-caused g c =
    rows_caused _ (state g.S.Store c.args.conn.now) (state g.S.Store c.rows_of_table.new.conn) (number_of c.args.table) c.merged_table.result c.merged_table.ensures.faults
