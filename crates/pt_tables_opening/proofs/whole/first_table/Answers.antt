use Rattle.sqlite.specs.Held.{state}
use Rattle.pt_tables_opening.proofs.StepLemmas.{agency_fails}
use Rattle.pt_tables_opening.proofs.whole.first_table.Goals as goal

pub returns-in_err-policy : goal.returns-in_err-policy
returns-in_err-policy g c =
    agency_fails (state g.S.Store c.args.conn.now) (state g.S.Store c.agency_in.new.conn) c.agency_in.result c.in_err-policy.field-0.0 c.agency_in.ensures.rests c.in_err-policy.ensures.faults c.in_err-policy.ensures.caused
    c.in_err-policy.ensures.version c.from_residual.result c.from_residual.ensures.0 c.from_residual.ensures.1
