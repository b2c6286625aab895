use Rattle.std.proofs.Common.{◌≡◌, OnOk, arith, subst, rules}
use Rattle.sqlite.specs.Held.{state}
use Rattle.sqlite.specs.State.{HasCleanDisk, Survives}
use Rattle.pt_desk_rules.specs.State.{applied}
use Rattle.pt_tables_writing.specs.Committing.{IsMade, LeadsTo}
use Rattle.pt_tables_writing.proofs.CommitLemmas.{lasts, made, survive}
use Rattle.pt_tables_rows.proofs.PartLemmas.{on_ok}
use Rattle.pt_tables_writing.proofs.writes.write_change.Goals as goal

pub returns-clause-survives : goal.returns-clause-survives
returns-clause-survives g c before told agrees =
    let after = applied c.args.change.now before in
    let whole = survive g.S.Store c.args.conn.now c.transaction-tx.result.conn.now c.write_tables.new.tx.conn.now before after c.transaction-tx.ensures.begun
    c.in_ok-write_tables.ensures.step.survives
    (λ clean inside. let did = c.in_ok-write_tables.ensures.step.written clean inside in (did.0, did.1, λ has. did.2 has before agrees told c.requires.puts))
    c.in_ok-write_tables.ensures.open (state g.S.Store c.commit.new.self.0) c.commit.ensures.survives in
    let same : c.commit.new.self.0 ≡ c.conn-2-1.given.0 = search rules in
    subst (λ h. Survives (state g.S.Store c.args.conn.now) (state g.S.Store h) (LeadsTo before after (state g.S.Store c.args.conn.now))) same whole

pub returns-clause-made : goal.returns-clause-made
returns-clause-made g c before told agrees clean_end =
    let after = applied c.args.change.now before in
    let last = state g.S.Store c.write_tables.new.tx.conn.now in
    let old = state g.S.Store c.args.conn.now in
    let same : c.commit.new.self.0 ≡ c.conn-2-1.given.0 = search rules in
    subst (λ h. HasCleanDisk (state g.S.Store h) → OnOk c.commit.result (IsMade before after old (state g.S.Store h))) same
    (λ clean. on_ok c.commit.result _ _
    (λ all. made g.S.Store c.args.conn.now c.transaction-tx.result.conn.now c.write_tables.new.tx.conn.now before after c.transaction-tx.ensures.begun
    c.in_ok-write_tables.ensures.step.survives
    (λ clean inside. let did = c.in_ok-write_tables.ensures.step.written clean inside in (did.0, did.1, λ has. did.2 has before agrees told c.requires.puts))
    c.in_ok-write_tables.ensures.open (state g.S.Store c.commit.new.self.0) (omega (arith, c.commit.ensures.survives.clean)) all.1)
    (c.commit.ensures.ok clean)) clean_end

pub returns-clause-always : goal.returns-clause-always
returns-clause-always g c =
    let last = state g.S.Store c.write_tables.new.tx.conn.now in
    let whole = lasts g.S.Store c.args.conn.now c.transaction-tx.result.conn.now c.write_tables.new.tx.conn.now (state g.S.Store c.commit.new.self.0) (λ db. db ≡ last.now.trees)
    c.transaction-tx.ensures.begun c.in_ok-write_tables.ensures.step.survives c.commit.ensures.survives in
    let same : c.commit.new.self.0 ≡ c.conn-2-1.given.0 = search rules in
    subst (λ h. Survives (state g.S.Store c.args.conn.now) (state g.S.Store h) (λ _. Unit {0})) same whole
