use Rattle.std.proofs.Common.{◌≡◌, ◌∷◌, ◌∙◌, [], subst₂}
use Rattle.std.specs.Option.{unwrap_or}
use Rattle.sqlite.specs.Held.{state}
use Rattle.pt_tables_rows.specs.Rows.{desk_row}
use Rattle.pt_tables_rows.specs.Schema.{desk_table}
use Rattle.pt_tables_writing.specs.Writes.{Rewrites}
use Rattle.pt_tables_writing.proofs.ChangeLemmas.{did_as}
use Rattle.pt_tables_writing.proofs.writes.write_settings.Goals as goal

pub returns-clause-step : goal.returns-clause-step
returns-clause-step g c =
    let change = c.args.change.now in
    let old = state g.S.Store c.args.tx.now.conn.now in
    let new = state g.S.Store c.write_desk.new.tx.conn.now in
    did_as c.write_desk.ensures.step (λ wrote. (
      (λ there agrees p n.
          let policy : c.policy_after-policy.result ≡ unwrap_or change.policy there.policy =
          c.policy_after-policy.ensures.value ∙ agrees.policy in
          let last_trip : c.last_trip_after.result ≡ unwrap_or change.last_trip there.last_trip =
          c.last_trip_after.ensures.value ∙ agrees.last_trip in
          subst₂ (λ policy last_trip. Rewrites desk_table (desk_row p n ∷ []) (desk_row policy last_trip ∷ []) old.now
          new.now) policy last_trip (wrote.0 p n)),
      wrote.1,
    ))
