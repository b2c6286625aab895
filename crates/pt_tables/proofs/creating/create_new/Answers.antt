use Rattle.std.proofs.Common.{◌≡◌, OnOk, arith, subst, rules}
use Rattle.sqlite.specs.Held.{state}
use Rattle.sqlite.specs.State.{HasCleanDisk, Survives}
use Rattle.pt_tables_keeper.specs.State.{State}
use Rattle.pt_tables_writing.specs.Least.{IsDeskDatabase, IsNew, IsNewDesk}
use Rattle.pt_tables_rows.specs.Tables.{IsKept}
use Rattle.pt_tables_rows.proofs.PartLemmas.{on_ok}
use Rattle.pt_tables.proofs.NewLemmas.{kept, survive, tables_kept}
use Rattle.pt_tables.proofs.creating.create_new.Goals as goal

pub returns-clause-survives : goal.returns-clause-survives
returns-clause-survives g c =
    let whole = survive g.S.Store c.args.conn.now c.transaction-tx.result.conn.now c.create_tables.new.tx.conn.now
    c.insert_desk.new.tx.conn.now c.insert_admin.new.tx.conn.now c.args.policy.now c.args.digest.now
    c.transaction-tx.ensures.begun c.requires.blank
    c.create_tables.ensures.step.survives c.insert_desk.ensures.step.survives c.insert_admin.ensures.step.survives
    c.in_ok-create_tables.ensures.step.led c.in_ok-insert_desk.ensures.step.written c.in_ok-insert_admin.ensures.step.written
    c.in_ok-insert_admin.ensures.sound
    (state g.S.Store c.commit.new.self.0) c.commit.ensures.survives in
    let same : c.commit.new.self.0 ≡ c.conn-2-1.given.0 = search rules in
    subst (λ h. Survives (state g.S.Store c.args.conn.now) (state g.S.Store h) (IsNewDesk c.args.policy.now c.args.digest.now)) same whole

pub returns-clause-made : goal.returns-clause-made
returns-clause-made g c =
    let last = state g.S.Store c.insert_admin.new.tx.conn.now in
    let same : c.commit.new.self.0 ≡ c.conn-2-1.given.0 = search rules in
    subst (λ h. HasCleanDisk (state g.S.Store h) → OnOk c.commit.result ((content : State) → IsNew c.args.policy.now c.args.digest.now content → IsKept content (state g.S.Store h))) same
    (λ clean. on_ok c.commit.result _ _
    (λ all. kept g.S.Store c.args.conn.now c.transaction-tx.result.conn.now c.create_tables.new.tx.conn.now
    c.insert_desk.new.tx.conn.now c.insert_admin.new.tx.conn.now c.args.policy.now c.args.digest.now
    c.transaction-tx.ensures.begun c.requires.blank
    c.create_tables.ensures.step.survives c.insert_desk.ensures.step.survives c.insert_admin.ensures.step.survives
    c.in_ok-create_tables.ensures.step.led c.in_ok-insert_desk.ensures.step.written c.in_ok-insert_admin.ensures.step.written
    c.in_ok-insert_admin.ensures.sound
    (state g.S.Store c.commit.new.self.0) (omega (arith, c.commit.ensures.survives.clean)) all.1)
    (c.commit.ensures.ok clean))

pub returns-clause-tables : goal.returns-clause-tables
returns-clause-tables g c =
    let same : c.commit.new.self.0 ≡ c.conn-2-1.given.0 = search rules in
    subst (λ h. HasCleanDisk (state g.S.Store h) → OnOk c.commit.result (IsDeskDatabase (state g.S.Store h).committed.trees)) same
    (λ clean. on_ok c.commit.result _ _
    (λ all. tables_kept g.S.Store c.args.conn.now c.transaction-tx.result.conn.now c.create_tables.new.tx.conn.now
    c.insert_desk.new.tx.conn.now c.insert_admin.new.tx.conn.now c.args.policy.now c.args.digest.now
    c.transaction-tx.ensures.begun c.requires.blank
    c.create_tables.ensures.step.survives c.insert_desk.ensures.step.survives c.insert_admin.ensures.step.survives
    c.in_ok-create_tables.ensures.step.led c.in_ok-insert_desk.ensures.step.written c.in_ok-insert_admin.ensures.step.written
    c.in_ok-insert_admin.ensures.sound
    (state g.S.Store c.commit.new.self.0) (omega (arith, clean, c.commit.ensures.survives.clean)) all.1)
    (c.commit.ensures.ok clean))
