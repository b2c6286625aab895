use Rattle.std.proofs.Common.{◌≡◌, IsTrue, false, subst, subst₂, sym, rules}
use Rattle.sqlite.specs.Held.{Held, state}
use Rattle.sqlite.specs.State.{HasCleanDisk, Survives}
use Rattle.sqlite.specs.Tree.{Trees}
use Rattle.pt_desk_store.specs.LeastState.{IsLeastState}
use Rattle.pt_tables_keeper.specs.Sound.{IsSound}
use Rattle.pt_tables_keeper.specs.State.{State}
use Rattle.pt_tables_writing.specs.Least.{IsLeastDesk, IsNew, IsNewDesk}
use Rattle.pt_tables_rows.specs.Schema.{no_schema}
use Rattle.pt_tables_rows.specs.Tables.{IsKept}
use Rattle.pt_tables.proofs.NewLemmas.{as_before, committed_least, least_kept, least_left, never_in_use, survives_least, untouched}
use Rattle.pt_tables_keeper.proofs.CarriedLemmas.{sound_carried}
use Rattle.pt_tables_rows.proofs.SameRows.{sound-well_formed}
use Rattle.pt_tables.proofs.creating.create.Goals as goal

pub keeper_of-requires : goal.keeper_of-requires
keeper_of-requires g c =
    let new = state g.S.Store c.create_new.new.conn in
    record {
      settled = c.create_new.ensures.settled;
      readable = sound-well_formed c.in-Ok.made.0.content c.in-Ok.ensures.sound;
      carried = sound_carried c.in-Ok.made.0.content c.in-Ok.ensures.sound;
      kept = λ clean. least_kept c.args.admin_key.now c.in-Ok.made.0.content new c.in-Ok.ensures.least
          (subst₂ (λ p d. (any : State) → IsNew p d any → IsKept any new) c.in-Ok.ensures.policy c.of_key.ensures.value (c.in-Ok-create_new.ensures.made clean));
      leaves = λ clean db left.
          let here = c.in-Ok-create_new.ensures.open clean in
          least_left c.args.admin_key.now c.in-Ok.made.0.content new db c.in-Ok.ensures.least (sound-well_formed c.in-Ok.made.0.content c.in-Ok.ensures.sound) here
          (c.in-Ok-create_new.ensures.tables clean)
          (subst₂ (λ p d. (any : State) → IsNew p d any → IsKept any new) c.in-Ok.ensures.policy c.of_key.ensures.value (c.in-Ok-create_new.ensures.made clean))
          (g.met.S.Store.settled c.create_new.new.conn.store db here left);
    }

pub returns-in-Ok-create_new-clause-least : goal.returns-in-Ok-create_new-clause-least
returns-in-Ok-create_new-clause-least g c = subst (IsLeastState c.args.admin_key.now) (sym c.keeper_of.ensures.content) c.in-Ok.ensures.least

pub returns-in-Ok-create_new-clause-sound : goal.returns-in-Ok-create_new-clause-sound
returns-in-Ok-create_new-clause-sound g c = subst IsSound (sym c.keeper_of.ensures.content) c.in-Ok.ensures.sound

pub returns-in-Ok-create_new-clause-crash : goal.returns-in-Ok-create_new-clause-crash
returns-in-Ok-create_new-clause-crash g c =
    let key = c.args.admin_key.now in
    let old = state g.S.Store c.args.conn in
    let new = state g.S.Store c.create_new.new.conn in
    subst (λ (h : Held _). Survives old (state g.S.Store h) (IsLeastDesk key)) (sym c.keeper_of.ensures.conn)
    (survives_least key _ old new c.in-Ok.ensures.least (subst₂ (λ p d. Survives old new (IsNewDesk p d)) c.in-Ok.ensures.policy c.of_key.ensures.value c.create_new.ensures.survives))

pub returns-in-Err-create_new-clause-crash : goal.returns-in-Err-create_new-clause-crash
returns-in-Err-create_new-clause-crash g c =
    let old = state g.S.Store c.args.conn in
    let new = state g.S.Store c.create_new.new.conn in
    survives_least c.args.admin_key.now _ old new c.in-Ok.ensures.least (subst₂ (λ p d. Survives old new (IsNewDesk p d)) c.in-Ok.ensures.policy c.of_key.ensures.value c.create_new.ensures.survives)

pub returns-in-Err-create_new-clause-unchanged : goal.returns-in-Err-create_new-clause-unchanged
returns-in-Err-create_new-clause-unchanged g c clean =
    let alone : IsTrue c.is_autocommit.result = search rules in
    as_before (state g.S.Store c.args.conn) (state g.S.Store c.create_new.new.conn) (c.is_autocommit.ensures.settled alone) (c.in-Err-create_new.ensures.undone clean)

pub returns-in-Err-clause-unchanged : goal.returns-in-Err-clause-unchanged
returns-in-Err-clause-unchanged g c clean = untouched (state g.S.Store c.args.conn)

pub returns-in-Ok-create_new-clause-durable : goal.returns-in-Ok-create_new-clause-durable
returns-in-Ok-create_new-clause-durable g c =
    let key = c.args.admin_key.now in
    let new = state g.S.Store c.create_new.new.conn in
    subst (λ (h : Held _). HasCleanDisk (state g.S.Store h) → (trees : Trees) → (state g.S.Store h).may_leave trees → IsLeastDesk key trees) (sym c.keeper_of.ensures.conn)
    (λ clean db left.
    let here = c.in-Ok-create_new.ensures.open clean in
    committed_least key _ new db c.in-Ok.ensures.least here (c.in-Ok-create_new.ensures.tables clean)
    (subst₂ (λ p d. (any : State) → IsNew p d any → IsKept any new) c.in-Ok.ensures.policy c.of_key.ensures.value (c.in-Ok-create_new.ensures.made clean))
    (g.met.S.Store.settled c.create_new.new.conn.store db here left))

pub returns-in-Ok-create_new-clause-in_use : goal.returns-in-Ok-create_new-clause-in_use
returns-in-Ok-create_new-clause-in_use g c used =
    let alone : c.args.conn.in_transaction ≡ false = search rules in
    let blank : c.args.conn.schema ≡ no_schema = search rules in
    absurd (never_in_use (state g.S.Store c.args.conn) alone blank used)

pub returns-in-Err-create_new-clause-in_use : goal.returns-in-Err-create_new-clause-in_use
returns-in-Err-create_new-clause-in_use g c used =
    let alone : c.args.conn.in_transaction ≡ false = search rules in
    let blank : c.args.conn.schema ≡ no_schema = search rules in
    absurd (never_in_use (state g.S.Store c.args.conn) alone blank used)

pub returns-in-Err-clause-in_use : goal.returns-in-Err-clause-in_use
returns-in-Err-clause-in_use g c used =
    let alone : c.args.conn.in_transaction ≡ false = search rules in
    let blank : c.args.conn.schema ≡ no_schema = search rules in
    absurd (never_in_use (state g.S.Store c.args.conn) alone blank used)
