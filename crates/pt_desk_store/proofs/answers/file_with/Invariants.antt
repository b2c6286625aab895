use Rattle.std.proofs.Common.{◌≡◌, drop}
use Rattle.pt_desk_rules.specs.State.{file_with}
use Rattle.pt_desk_store.proofs.FileLemmas.{filled}
use Rattle.pt_desk_store.proofs.answers.file_with.Given as goal

abbrev pub invariant-loop-filed : goal.invariant-loop-filed
invariant-loop-filed l = filled l.file (drop l.filed-index l.entries) ≡ file_with l.entries
