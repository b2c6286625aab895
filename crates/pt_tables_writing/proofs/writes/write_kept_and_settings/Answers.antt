use Rattle.sqlite.specs.Held.{state}
use Rattle.pt_desk_rules.specs.Parts as part
use Rattle.pt_tables_writing.proofs.ChangeLemmas.{did_as, did_at, did_next, open_then}
use Rattle.pt_tables_writing.proofs.GroupLemmas.{Known-kept}
use Rattle.pt_tables_writing.proofs.writes.write_kept_and_settings.Goals as goal

pub returns-clause-step : goal.returns-clause-step
returns-clause-step g c =
    let kept = did_at (Known-kept c.args.change.now) c.kept_table.ensures.value c.in_ok-write_edits.ensures.step in
    did_as (did_next kept c.write_settings.ensures.step) (λ both there agrees.
    let settings = both.2 in
    (both.0, both.1 there.kept (agrees.parts part.kept), λ has. ((settings has).0 there agrees there.policy there.last_trip, (settings has).1)))

pub returns-clause-open : goal.returns-clause-open
returns-clause-open g c =
    open_then c.in_ok-write_edits.ensures.step c.write_settings.ensures.step c.write_settings.ensures.open
