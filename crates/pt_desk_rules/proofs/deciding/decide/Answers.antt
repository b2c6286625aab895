use Rattle.pt_rights_files.specs.Rules.{first_failing}
use Rattle.pt_desk_rules.specs.Rules.{rules_of}
use Rattle.pt_desk_rules.proofs.RulingLemmas.{with_its_kept}
use Rattle.pt_desk_rules.proofs.deciding.decide.Goals as goal

pub returns-clause-decided : goal.returns-clause-decided
returns-clause-decided c = λ asked now facts ruled.
    let me = c.args.me.now in
    with_its_kept (first_failing (rules_of asked me now facts)) asked me now c.args.sent facts c.args.ruling
    c.in_ok-decided.decided ruled c.in_ok-decided.ensures
