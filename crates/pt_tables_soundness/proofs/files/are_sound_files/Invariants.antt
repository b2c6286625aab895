use Rattle.std.proofs.Common.{drop}
use Rattle.pt_tables_soundness.proofs.FileLemmas.{AreFiledFrom}
use Rattle.pt_tables_soundness.proofs.files.are_sound_files.Given as goal

abbrev pub invariant-loop-filed : goal.invariant-loop-filed
invariant-loop-filed l = record {
  forth : AreFiledFrom l.last l.next (drop l.filed-index l.entries) → AreFiledFrom 0 0 l.entries;
  back : AreFiledFrom 0 0 l.entries → AreFiledFrom l.last l.next (drop l.filed-index l.entries);
}
