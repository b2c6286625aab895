use Rattle.std.proofs.Common.{◌≡◌, OnOk, arith, subst, rules}
use Rattle.sqlite.specs.Held.{state}
use Rattle.sqlite.specs.State.{HasCleanDisk}
use Rattle.pt_tables_rows.specs.Schema.{schema_of}
use Rattle.pt_tables_rows.proofs.PartLemmas.{on_ok}
use Rattle.pt_tables_opening.proofs.SchemaLemmas.{made_schema}
use Rattle.pt_tables_opening.proofs.schema_check.make_tables.Goals as goal

pub returns : goal.returns
returns g c =
    let same : c.commit.new.self.0 ≡ c.conn-2-1.given.0 = search rules in
    record {
      made = subst (λ h. HasCleanDisk (state g.S.Store h) → OnOk c.commit.result (h.schema ≡ schema_of c.args.version)) same
          (λ clean. on_ok c.commit.result _ _
          (λ all. made_schema g.S.Store c.args.version c.args.conn.now c.transaction-tx.result.conn.now c.add_versions.new.tx.conn.now
          c.transaction-tx.ensures.begun c.requires.blank c.requires.known c.in_ok-add_versions.ensures.step.led
          (omega (arith, c.commit.ensures.survives.clean)) (state g.S.Store c.commit.new.self.0) all.1)
          (c.commit.ensures.ok clean));
    }
