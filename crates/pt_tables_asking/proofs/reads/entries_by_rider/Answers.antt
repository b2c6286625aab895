use Rattle.std.proofs.Common.{sym, subst, rules}
use Rattle.sqlite.specs.Held.{state}
use Rattle.pt_desk_rules.specs.Parts as part
use Rattle.pt_desk_rules.specs.State.{entries_of, entry_key, span_of}
use Rattle.pt_base_records.specs.Records.{IsInOrder, is_within}
use Rattle.pt_base_records.proofs.TableLemmas.{Each-filter, IsInOrder-filter}
use Rattle.pt_desk_rules.specs.Ranges.{FitsFiled}
use Rattle.pt_tables_rows.specs.Rows.{entry_row}
use Rattle.pt_tables_asking.proofs.ContentLemmas.{entries_apart, entries_there}
use Rattle.pt_tables_asking.proofs.ReadLemmas.{ok_same}
use Rattle.pt_tables_asking.proofs.RecordLemmas.{same_records}
use Rattle.pt_tables_asking.proofs.TextLemmas.{entries_text}
use Rattle.pt_tables_asking.proofs.CauseLemmas.{excuses_as, excuses_none}
use Rattle.pt_tables_asking.proofs.reads.entries_by_rider.Goals as goal

pub ask-requires : goal.ask-requires
ask-requires g c = let it = entries_text c.args.rider in record { settled = c.requires.settled; plain = it.plain; unlisted = it.unlisted }

pub returns-in_err-found-clause-excused : goal.returns-in_err-found-clause-excused
returns-in_err-found-clause-excused g c clean content readable held =
    let why = c.in_err-found.ensures.excused clean _ (Each-filter FitsFiled (λ filed. is_within (entry_key filed) (span_of c.args.rider)) content.entries (readable.ranges.parts part.entries))
    (entries_there content readable (state g.S.Store c.args.conn.now) held c.args.rider _ (search rules)) in
    excuses_as (state g.S.Store c.args.conn.now) (state g.S.Store c.ask.new.conn) c.from_residual.result c.in_err-found.field-0.0 (search rules) why

pub returns-clause-told : goal.returns-clause-told
returns-clause-told g c clean content readable held =
    let wanted = entries_of c.args.rider content.entries in
    let found = c.in_ok-found.ensures.told clean wanted (entries_there content readable (state g.S.Store c.args.conn.now) held c.args.rider _ (search rules)) in
    ok_same c.in_order.result c.in_ok-found.found.items wanted c.in_order.ensures.told
    (same_records entry_row FitsFiled entries_apart c.in_ok-found.found.items wanted found.1
    (Each-filter FitsFiled (λ filed. is_within (entry_key filed) (span_of c.args.rider)) content.entries (readable.ranges.parts part.entries)) found.0)

pub returns-clause-excused : goal.returns-clause-excused
returns-clause-excused g c clean content readable held =
    let wanted = entries_of c.args.rider content.entries in
    let found = c.in_ok-found.ensures.told clean wanted (entries_there content readable (state g.S.Store c.args.conn.now) held c.args.rider _ (search rules)) in
    let same = same_records entry_row FitsFiled entries_apart c.in_ok-found.found.items wanted found.1
    (Each-filter FitsFiled (λ filed. is_within (entry_key filed) (span_of c.args.rider)) content.entries (readable.ranges.parts part.entries)) found.0 in
    excuses_none (state g.S.Store c.args.conn.now) (state g.S.Store c.ask.new.conn) c.in_order.result (IsInOrder entry_key c.in_ok-found.found.items) c.in_order.ensures.ordered
    (subst (IsInOrder entry_key) (sym same) (IsInOrder-filter entry_key (λ filed. is_within (entry_key filed) (span_of c.args.rider)) content.entries (readable.order part.entries)))
