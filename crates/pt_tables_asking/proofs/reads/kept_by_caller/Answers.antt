use Rattle.std.proofs.Common.{◌==◌, ap, ◌∙◌, slice_get, filter, rules}
use Rattle.sqlite.specs.Held.{state}
use Rattle.sqlite_keyed.proofs.ListLemmas.{slice_get-filter}
use Rattle.pt_desk_rules.specs.Parts as part
use Rattle.pt_desk_rules.specs.State.{kept_key}
use Rattle.pt_base_records.proofs.TableLemmas.{Each-filter}
use Rattle.pt_desk_rules.specs.Ranges.{FitsKept}
use Rattle.pt_tables_rows.specs.Rows.{kept_row}
use Rattle.pt_tables_asking.proofs.ContentLemmas.{kept_apart, kept_there}
use Rattle.pt_tables_asking.proofs.RecordLemmas.{same_records}
use Rattle.pt_tables_asking.proofs.TextLemmas.{kept_text}
use Rattle.pt_tables_asking.proofs.CauseLemmas.{excuses_as}
use Rattle.pt_tables_asking.proofs.reads.kept_by_caller.Goals as goal

pub ask-requires : goal.ask-requires
ask-requires g c = let it = kept_text c.args.caller in record { settled = c.requires.settled; plain = it.plain; unlisted = it.unlisted }

pub returns-in_err-found-clause-excused : goal.returns-in_err-found-clause-excused
returns-in_err-found-clause-excused g c clean content readable held =
    let why = c.in_err-found.ensures.excused clean _ (Each-filter FitsKept (λ kept. kept_key kept == c.args.caller) content.kept (readable.ranges.parts part.kept))
    (kept_there content readable (state g.S.Store c.args.conn.now) held c.args.caller _ (search rules)) in
    excuses_as (state g.S.Store c.args.conn.now) (state g.S.Store c.ask.new.conn) c.from_residual.result c.in_err-found.field-0.0 (search rules) why

pub returns-clause-told : goal.returns-clause-told
returns-clause-told g c clean content readable held =
    let wanted = filter (λ kept. kept_key kept == c.args.caller) content.kept in
    let found = c.in_ok-found.ensures.told clean wanted (kept_there content readable (state g.S.Store c.args.conn.now) held c.args.caller _ (search rules)) in
    let same = same_records kept_row FitsKept kept_apart c.in_ok-found.found.items wanted found.1
    (Each-filter FitsKept (λ kept. kept_key kept == c.args.caller) content.kept
    (readable.ranges.parts part.kept)) found.0 in
    c.first.ensures.value ∙ ap (λ l. slice_get l 0) same ∙ slice_get-filter (λ kept. kept_key kept == c.args.caller) content.kept
