use Rattle.std.proofs.Common.{sym}
use Rattle.pt_base_records.proofs.SplitLemmas.{found_here, found_nowhere}
use Rattle.pt_base_records.proofs.searching.find_record.Goals as goal

pub returns-in-Ok : goal.returns-in-Ok
returns-in-Ok g c = record {
  value = sym (found_here g.T.Keyed.key c.args.key.now c.args.records.now c.in-Ok.at c.index-records-at.result c.in-Ok.ensures.bound (sym c.index-records-at.is)
      c.in-Ok.ensures.before (c.in-Ok.ensures.here c.index-records-at.result));
}

pub returns-in-Err : goal.returns-in-Err
returns-in-Err g c = record { value = sym (found_nowhere g.T.Keyed.key c.args.key.now c.args.records.now c.in-Err.field-0 c.in-Err.ensures.before c.in-Err.ensures.here) }
