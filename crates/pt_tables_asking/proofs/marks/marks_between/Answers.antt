use Rattle.std.proofs.Common.{[], ◌∷◌, map, sym, subst, rules}
use Rattle.sqlite.specs.Held.{state}
use Rattle.pt_base_records.specs.Records.{IsInOrder}
use Rattle.pt_tables_rows.specs.Rows.{number_value}
use Rattle.pt_tables_asking.specs.Marks.{mark_key, mark_row}
use Rattle.pt_tables_asking.proofs.MarkLemmas.{same_marks}
use Rattle.pt_tables_asking.proofs.ReadLemmas.{at_params, ok_same}
use Rattle.pt_tables_asking.proofs.CauseLemmas.{excuses_as, excuses_none}
use Rattle.pt_tables_asking.proofs.marks.marks_between.Goals as goal

pub returns-in_err-marks-clause-excused : goal.returns-in_err-marks-clause-excused
returns-in_err-marks-clause-excused g c clean marks each order has =
    let why = c.in_err-marks.ensures.excused clean marks each
    (λ here. at_params c.args.text.now _ (map mark_row marks) _ (number_value c.args.from ∷ number_value c.args.to ∷ []) (search rules) (has here)) in
    excuses_as (state g.S.Store c.args.conn.now) (state g.S.Store c.ask.new.conn) c.from_residual.result c.in_err-marks.field-0.0 (search rules) why

pub returns-clause-told : goal.returns-clause-told
returns-clause-told g c clean marks has =
    let told = c.in_ok-marks.ensures.told clean marks
    (λ here. at_params c.args.text.now _ (map mark_row marks) _ (number_value c.args.from ∷ number_value c.args.to ∷ []) (search rules) (has here)) in
    ok_same c.in_order.result c.in_ok-marks.marks.items marks c.in_order.ensures.told (same_marks c.in_ok-marks.marks.items marks told.0)

pub returns-clause-excused : goal.returns-clause-excused
returns-clause-excused g c clean marks each order has =
    let told = c.in_ok-marks.ensures.told clean marks
    (λ here. at_params c.args.text.now _ (map mark_row marks) _ (number_value c.args.from ∷ number_value c.args.to ∷ []) (search rules) (has here)) in
    excuses_none (state g.S.Store c.args.conn.now) (state g.S.Store c.ask.new.conn) c.in_order.result (IsInOrder mark_key c.in_ok-marks.marks.items) c.in_order.ensures.ordered (subst (IsInOrder mark_key) (sym (same_marks c.in_ok-marks.marks.items marks told.0)) order)
