use Rattle.sqlite.specs.Held.{state}
use Rattle.pt_tables_rows.proofs.CreateLemmas.{leads_to_blank}
use Rattle.pt_tables_rows.proofs.schema.create_tables.Goals as goal

pub returns : goal.returns
returns g c =
    let old = state g.S.Store c.args.tx.now.conn.now in
    let new = state g.S.Store c.add_versions.new.tx.conn.now in
    let added = c.add_versions.ensures.step in
    record {
      step = record {
        same_reference = added.same_reference;
        led = λ clean inside. leads_to_blank old new c.add_versions.result (added.led clean inside);
        survives = added.survives;
      };
    }
