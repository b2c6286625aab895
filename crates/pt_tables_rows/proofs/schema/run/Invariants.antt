use Rattle.std.proofs.Common.{◌≡◌, ◌≤◌, IsTrue}
use Rattle.sqlite.specs.Held.{state}
use Rattle.sqlite.specs.State.{HasCleanDisk, KeepsCommit, Survives}
use Rattle.pt_tables_rows.specs.Schema.{schema_of, statement_count, table_version}
use Rattle.pt_tables_rows.proofs.CreateLemmas.{IsAdded}
use Rattle.pt_tables_rows.proofs.schema.run.Given as goal

abbrev pub invariant-loop-place : goal.invariant-loop-place
invariant-loop-place g l =
    let old = state g.S.Store l.initial.tx.conn.now in
    let now = state g.S.Store l.tx.conn.now in
    record {
      same : l.tx.conn.ghost_name ≡ l.initial.tx.conn.ghost_name;
      survives : Survives old now (λ _. ⊥);
      keeps : HasCleanDisk now → IsTrue old.in_transaction → KeepsCommit old now × IsTrue now.in_transaction;
      made : HasCleanDisk now → IsTrue old.in_transaction → l.from ≤ l.to → l.to ≤ table_version → old.now.schema ≡ schema_of l.from
          → IsAdded (statement_count l.from) l.place old.now now.now;
    }
