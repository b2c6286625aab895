use Rattle.pt_base_records.proofs.edits.put_records.Goals as goal

pub put_record-requires-clause-order : goal.put_record-requires-clause-order
put_record-requires-clause-order g c = c.loop-new.invariant.order
