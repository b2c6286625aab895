use Rattle.pt_app_command_line.proofs.WordLemmas.{refused_by_faults}
use Rattle.pt_app_command_line.proofs.words.matches_in.Goals as goal

pub returns-clause-refused : goal.returns-clause-refused
returns-clause-refused c =
    refused_by_faults _ _ _ c.in_ok-desk_command.ensures.app c.try_get_matches_from.ensures.kinds
