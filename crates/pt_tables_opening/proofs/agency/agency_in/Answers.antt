use Rattle.std.proofs.Common.{◌≡◌, sym, subst}
use Rattle.sqlite.specs.Held.{state}
use Rattle.sqlite.specs.State.{HasCleanDisk}
use Rattle.pt_base_values.specs.declared.fault.Cause.TheVariants as cause
use Rattle.pt_tables_opening.specs.Faults.{fault, unsound}
use Rattle.pt_tables_opening.specs.Opening.{Rests}
use Rattle.pt_tables_rows.specs.Schema.{desk_schema, desk_table}
use Rattle.pt_tables_rows.specs.Tables.{AreRows}
use Rattle.pt_tables_opening.proofs.AgencyLemmas.{agency_told, agency_refused, agency_spares}
use Rattle.pt_tables_opening.proofs.BlameLemmas.{agency_caused, error_caused}
use Rattle.pt_tables_opening.proofs.RestLemmas.{rests_so}
use Rattle.pt_tables_opening.proofs.agency.agency_in.Goals as goal

pub returns-clause-rests : goal.returns-clause-rests
returns-clause-rests g c =
    let old = state g.S.Store c.args.conn.now in
    let new = state g.S.Store c.desk_rows.new.conn in
    rests_so old new c.in-Ok.rows (subst (λ r. Rests old new r) c.in-Ok.is c.desk_rows.ensures.rests) c.agency_from.result

pub returns-clause-told : goal.returns-clause-told
returns-clause-told g c clean has =
    let trees = (state g.S.Store c.args.conn.now).now.trees in
    agency_told trees c.deref.result.now (subst (AreRows desk_table trees) (sym c.deref.ensures.value) (c.in-Ok.ensures.rows clean has))
    c.agency_from.result c.agency_from.ensures.told

pub returns-clause-faults : goal.returns-clause-faults
returns-clause-faults g c =
    let trees = (state g.S.Store c.args.conn.now).now.trees in
    agency_refused trees c.deref.result.now (HasCleanDisk (state g.S.Store c.desk_rows.new.conn))
    ((state g.S.Store c.args.conn.now).now.schema ≡ desk_schema)
    (λ clean has. subst (AreRows desk_table trees) (sym c.deref.ensures.value) (c.in-Ok.ensures.rows clean has))
    (fault cause.Memory) (fault cause.StoreFailed) (fault cause.OtherTables) (unsound 1) c.agency_from.result c.agency_from.ensures.faults

pub returns-clause-version : goal.returns-clause-version
returns-clause-version g c clean has =
    let trees = (state g.S.Store c.args.conn.now).now.trees in
    agency_spares trees c.deref.result.now (subst (AreRows desk_table trees) (sym c.deref.ensures.value) (c.in-Ok.ensures.rows clean has))
    c.agency_from.result c.agency_from.ensures.faults

pub returns-in-Err-clause-caused : goal.returns-in-Err-clause-caused
returns-in-Err-clause-caused g c clean has store =
    error_caused (state g.S.Store c.args.conn.now) (state g.S.Store c.desk_rows.new.conn) c.in-Err.error c.fault_of.result c.fault_of.ensures.memory (c.in-Err.ensures.caused clean has) store

pub returns-clause-caused : goal.returns-clause-caused
returns-clause-caused g c = agency_caused _ _ (state g.S.Store c.args.conn.now) (state g.S.Store c.desk_rows.new.conn) c.agency_from.result c.agency_from.ensures.faults
