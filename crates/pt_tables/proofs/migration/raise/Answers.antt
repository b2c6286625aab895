use Rattle.std.proofs.Common.{◌≡◌, OnOk, arith, subst, rules}
use Rattle.sqlite.specs.Held.{state}
use Rattle.sqlite.specs.State.{HasCleanDisk, Survives}
use Rattle.pt_tables.specs.Migration.{IsMigratedDesk, IsRaised}
use Rattle.pt_tables_rows.specs.Schema.{schema_of}
use Rattle.pt_tables_rows.proofs.PartLemmas.{on_ok}
use Rattle.pt_tables.proofs.MigrationLemmas.{is_raised, survive}
use Rattle.pt_tables.proofs.migration.raise.Goals as goal

pub returns-clause-survives : goal.returns-clause-survives
returns-clause-survives g c =
    let whole = survive g.S.Store c.args.version c.requires.earlier c.args.conn.now c.transaction-tx.result.conn.now c.add_versions.new.tx.conn.now
    c.raise_version.new.tx.conn.now c.transaction-tx.ensures.begun
    c.add_versions.ensures.step.survives c.raise_version.ensures.step.survives c.in_ok-add_versions.ensures.step.led c.in_ok-raise_version.ensures.step.written c.in_ok-raise_version.ensures.sound
    (state g.S.Store c.commit.new.self.0) c.commit.ensures.survives in
    let same : c.commit.new.self.0 ≡ c.conn-2-1.given.0 = search rules in
    subst (λ h. Survives (state g.S.Store c.args.conn.now) (state g.S.Store h)
    (λ trees. (state g.S.Store c.args.conn.now).now.schema ≡ schema_of c.args.version
    → IsMigratedDesk c.args.version (state g.S.Store c.args.conn.now) trees)) same whole

pub returns-clause-raised : goal.returns-clause-raised
returns-clause-raised g c =
    let same : c.commit.new.self.0 ≡ c.conn-2-1.given.0 = search rules in
    subst (λ h. HasCleanDisk (state g.S.Store h) → OnOk c.commit.result (IsRaised c.args.version (state g.S.Store c.args.conn.now) (state g.S.Store h))) same
    (λ clean. on_ok c.commit.result _ _
    (λ all. is_raised g.S.Store c.args.version c.requires.earlier c.args.conn.now c.transaction-tx.result.conn.now c.add_versions.new.tx.conn.now
    c.raise_version.new.tx.conn.now c.transaction-tx.ensures.begun
    c.add_versions.ensures.step.survives c.raise_version.ensures.step.survives c.in_ok-add_versions.ensures.step.led c.in_ok-raise_version.ensures.step.written c.in_ok-raise_version.ensures.sound
    (state g.S.Store c.commit.new.self.0) (omega (arith, c.commit.ensures.survives.clean)) all.1)
    (c.commit.ensures.ok clean))
