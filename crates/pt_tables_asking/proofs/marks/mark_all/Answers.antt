use Rattle.std.proofs.Common.{map, length, ◌-◌, slice_get, Some, ◌≡◌, ◌∙◌, rules}
use Rattle.sqlite.specs.Held.{state}
use Rattle.pt_base_records.specs.Records.{is_within, within}
use Rattle.pt_base_records.specs.declared.span.Span.{Span}
use Rattle.pt_base_records.proofs.TableLemmas.{Each-filter, IsInOrder-filter}
use Rattle.pt_tables_reading.specs.Ranges.{IsWord}
use Rattle.pt_tables_asking.proofs.MarkLemmas.{answer_by_marks, marks_fit, marks_in_order, marks_of, marks_tell}
use Rattle.pt_tables_asking.proofs.CauseLemmas.{excuses_as}
use Rattle.pt_tables_asking.proofs.marks.mark_all.Goals as goal

pub returns-in_err-marks-clause-excused : goal.returns-in_err-marks-clause-excused
returns-in_err-marks-clause-excused g c clean all order fits has =
    let key = g.M.Record.Keyed.key in
    let rows = g.M.TableOf.rows_of in
    let are = g.met.M.Marking.marks in
    let span : Span = record { from = c.in-Some.first; to = c.in-Some.last } in
    let inside = within key span all in
    let each = Each-filter (λ x. IsWord (key x)) (λ x. is_within (key x) span) all fits in
    let rises = IsInOrder-filter key (λ x. is_within (key x) span) all order in
    let why = c.in_err-marks.ensures.excused clean (marks_of key rows are inside) (marks_fit key rows are inside each) (marks_in_order key rows are inside rises)
    (λ here. answer_by_marks key rows are g.M.Marking.marked all order c.args.text.now (state g.S.Store c.args.conn.now).now (has here) span) in
    excuses_as (state g.S.Store c.args.conn.now) (state g.S.Store c.marks_between.new.conn) c.from_residual.result c.in_err-marks.field-0.0 (search rules) why

pub returns-clause-told : goal.returns-clause-told
returns-clause-told g c clean all order rises has =
    let key = g.M.Record.Keyed.key in
    let rows = g.M.TableOf.rows_of in
    let are = g.met.M.Marking.marks in
    let marked = g.M.Marking.marked in
    let span : Span = record { from = c.in-Some.first; to = c.in-Some.last } in
    let marks = c.in_ok-marks.ensures.told clean (marks_of key rows are (within key span all))
    (λ here. answer_by_marks key rows are marked all order c.args.text.now (state g.S.Store c.args.conn.now).now (has here) span) in
    let known = c.args.records.items in
    let first : slice_get (map key known) 0 ≡ Some c.in-Some.first = search rules in
    let last : slice_get (map key known) (length known - 1) ≡ Some c.in-Some.last = search rules in
    c.with_marks.ensures.marked ∙ marks_tell key rows are marked all order known rises c.in-Some.first c.in-Some.last first last c.in_ok-marks.marks marks
