use Rattle.std.proofs.Common.{subst, arith}
use Rattle.pt_tables_reading.specs.Reading.{Reads}
use Rattle.pt_tables_asking.proofs.RecordLemmas.{no_records}
use Rattle.pt_tables_asking.proofs.asking.records_of.Goals as goal

pub returns-in-None : goal.returns-in-None
returns-in-None g c =
    let none = subst (Reads g.T.OneRow.row_of g.T.TableOf.Fits c.row-item.result) c.in-None.is c.in_ok-record.ensures.told in
    record {
      told = no_records g.T.OneRow.row_of g.T.TableOf.Fits c.row-item.result none c.args.rows.now c.loop-row.row-index (omega arith) c.row-item.is;
    }
