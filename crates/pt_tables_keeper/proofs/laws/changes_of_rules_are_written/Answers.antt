use Rattle.pt_tables_keeper.proofs.RuleLemmas.{rules_write}
use Rattle.pt_tables_keeper.proofs.laws.changes_of_rules_are_written.Goals as goal

pub returns : goal.returns
returns c = rules_write
