use Rattle.std.proofs.Common.{◌≡◌, ◌++◌, take, codes}
use Rattle.std.specs.List.{flat_map}
use Rattle.pt_rights_conditions.specs.Texts.{condition_text}
use Rattle.pt_manifest.proofs.letters.write_conditions.Given as goal

abbrev pub invariant-loop-other : goal.invariant-loop-other
invariant-loop-other l =
    l.out.items ≡ l.initial.out.items ++ flat_map (λ other. codes "; " ++ condition_text other) (take l.other-index l.others)
